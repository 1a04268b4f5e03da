-- A node that is driven as a scenario says is its general.
use Rattle.std.proofs.Common.{◌≡◌, ◌+◌, ◌-◌, ℕ, true, List, [], ◌∷◌, ◌++◌, Contains, refl, sym, ap, subst, ◌∙◌, arith, eqb, append_assoc, Option, Some, None, Ok}
use Rattle.std.specs.List.{range_with_len}
use Rattle.std.specs.Str.{bytes_eq}
use Rattle.std.proofs.lemmas.Bool.{eq-eqb}
use Rattle.std.proofs.lemmas.List.{append-nil}
use Rattle.std.proofs.lemmas.Slice.Eq.{bytes_eq-Decides}
use Rattle.gen_types.proofs.Lists.{Contains_here, Contains_there}
use Rattle.gen_types.proofs.Steps.{after, ok_is}
use Rattle.gen_types.specs.Ends.{is_among}
use Rattle.gen_tree.specs.Rings.{Ring, seed_of}
use Rattle.gen_net.specs.Header.{RunHeader, run_id_of}
use Rattle.gen_script.specs.declared.lines.ScriptLine.{ScriptLine}
use Rattle.gen_scenario.specs.Part.{Part, followers_part, part_of, trees_known}
use Rattle.gen_scenario.specs.Scenario.{Scenario, IsScenario, header_of, script_of}
use Rattle.gen_scenario.specs.SignedWorld.{frame_at, heard_by, near_of, neighbours_of, own_order}
use Rattle.gen_scenario.proofs.Having.{any_gives}
use Rattle.gen_scenario.proofs.Stepping.{frame_after}
use Rattle.gen_general.specs.DrivenRecords.{HasHeard, HasSent}
use Rattle.gen_general.specs.Participant.{Participant, at_start, sends}
use Rattle.gen_general.specs.ParticipantLaws.{IsGeneralOf, IsOwnRing}
use Rattle.gen_general.specs.Recording.{Recorder, log_written, logs_written, with_recvs, with_sends}
use Rattle.gen_general.proofs.Recorders.{begins, hears_from, logs_by, round_ends, sends_to, sent_all, until_none}
use Rattle.gen_general.proofs.Starting.{starts_as_he}
use Rattle.gen_general.proofs.Worlds.{decides_as_he, sends_frames}
use Rattle.gen_node.specs.declared.frame_fault.FrameFault.{FrameFault}
use Rattle.gen_node.specs.declared.stages.Stage.{Stage}
use Rattle.gen_node.specs.declared.stages.Stage.TheVariants.{Between, Sending, Open, Hearing}
use Rattle.gen_node.specs.Frame.{WireFrame}
use Rattle.gen_node.specs.FrameReading.{whole_frame}
use Rattle.gen_node.specs.Held.{frame_in}
use Rattle.gen_node.specs.Node.{Node, SignsRound, IsBegunFrom, awaited, ended, frame_to, from_on, front_check, header_at, heard_from, hears_all, near_at, sends_all, sent_from, with_arrival}
use Rattle.gen_node.specs.NodeLaws.{HoldsRound, IsAfter, IsWithin, NodesBegin, NodesDecide, NodesEnd, NodesHear, NodesLog, NodesSend, NodesStart, NodesTake, frame_between}
use Rattle.gen_node.proofs.FrameLaws.{frame_only}

-- ---- before the first round

own_ring : (s : Scenario) (g : ℕ) (ring : Ring) (script : Option (List ScriptLine)) → script ≡ None → ring.seed ≡ seed_of s.master g → IsOwnRing s g script (Some ring)
own_ring s g ring None none e = e
own_ring s g ring (Some lines) none e = absurd cc

parts_same : (s : Scenario) (g : ℕ) → script_of s.scripts g ≡ None → part_of s g ≡ followers_part (header_of s) g (own_order s g)
parts_same s g none = ap (λ (o : Option (List ScriptLine)). record { header = header_of s; me = g; own = own_order s g; script = o; trees = trees_known s o }) none

general_at_start : (s : Scenario) (g : ℕ) (ring : Ring) → IsScenario s → script_of s.scripts g ≡ None → ring.seed ≡ seed_of s.master g → IsGeneralOf s g (at_start (followers_part (header_of s) g (own_order s g)) (Some ring))
general_at_start s g ring ok none own = subst (λ (k : Part). IsGeneralOf s g (at_start k (Some ring))) (parts_same s g none) (starts_as_he s g (Some ring) ok (own_ring s g ring (script_of s.scripts g) none own))

pub nodes_start : NodesStart
unfolding heard_by
nodes_start s g ring ok none own = record {
  records = record {
    standing = record { part = general_at_start s g ring ok none own; heard = refl; round = refl };
    written = until_none s g;
  };
  unscripted = refl;
  stage = refl;
}

-- ---- a round begins

sent_through : (s : Scenario) (k g : ℕ) (tos done : List ℕ) (r : Recorder) → HasSent s k g done r → HasSent s k g (done ++ tos) (sends_all tos r)
unfolding sends_all
sent_through s k g [] done r is = subst (λ (xs : List ℕ). HasSent s k g xs r) (sym (append-nil done)) is
sent_through s k g (to ∷ tos) done r is =
    subst (λ (xs : List ℕ). HasSent s k g xs (sends_all tos (with_sends r to))) (append_assoc done (to ∷ []) tos) (sent_through s k g tos (done ++ to ∷ []) (with_sends r to) (sends_to s k g to done r is))

-- sending leaves what he knows as it was
sent_script : (tos : List ℕ) (r : Recorder) → (sends_all tos r).standing ≡ r.standing
unfolding sends_all
sent_script [] r = refl
sent_script (to ∷ tos) r = sent_script tos (with_sends r to)

all_near : (s : Scenario) (g : ℕ) (r : Recorder) → IsGeneralOf s g r.standing → near_at r (from_on r 0) ≡ neighbours_of s.net g
all_near s g r is =
    let all : (header_at r).network.generals - 0 ≡ (header_at r).network.generals = omega arith in
    ap (λ n. near_at r (range_with_len 0 n)) all
    ∙ ap (λ (h : RunHeader). near_of h.network r.standing.known.me (range_with_len 0 h.network.generals)) is.header
    ∙ ap (λ me. near_of s.net me (range_with_len 0 s.net.generals)) is.me

opened : (s : Scenario) (k g : ℕ) (n : Node) → HasSent s k g [] n.recorder → n.recorder.standing.known.script ≡ None → IsWithin s k g (sent_from 0 n)
opened s k g n is none =
    let r = n.recorder in
    let tos : List ℕ = near_at r (from_on r 0) in
    let through : HasSent s k g tos (sends_all tos r) = sent_through s k g tos [] r is in
    let whole : HasSent s k g (neighbours_of s.net g) (sends_all tos r) = subst (λ (xs : List ℕ). HasSent s k g xs (sends_all tos r)) (all_near s g r is.standing.part) through in
    record {
      records = sent_all s k g (sends_all tos r) whole;
      unscripted = ap (λ (p : Participant). p.known.script) (sent_script tos r) ∙ none;
      stage = refl;
    }

begun_from : (s : Scenario) (k g : ℕ) (n m : Node) (stage : Stage) → stage ≡ Between → IsAfter s k g n → IsBegunFrom stage n m → IsWithin s k g m
begun_from s k g n m Between e is begun =
    let signed : Node = begun.0 in
    let has : SignsRound n signed = begun.1 in
    let sent : HasSent s k g [] signed.recorder = begins s k g n.recorder signed.recorder is.records has.signs in
    let none : signed.recorder.standing.known.script ≡ None = ap (λ (p : Part). p.script) has.signs.standing.known ∙ is.unscripted in
    subst (IsWithin s k g) (sym begun.2) (opened s k g signed sent none)
begun_from s k g n m (Sending next) e is begun = absurd cc
begun_from s k g n m Open e is begun = absurd begun
begun_from s k g n m (Hearing next) e is begun = absurd begun

pub nodes_begin : NodesBegin
nodes_begin s k g n m is begun = begun_from s k g n m n.stage is.stage is begun

-- ---- frames go out and come in

pub nodes_send : NodesSend
nodes_send s k g to n is =
    let r = n.recorder in
    let standing = is.records.standing in
    let parcels : sends r.standing to ≡ frame_at s (k + 1) g to = sends_frames s k g to r.standing standing ∙ sym (frame_after s k g to) in
    let named : frame_to r to ≡ record { front = record { run_id = run_id_of (header_of s); round = k + 1; from = g; to = to }; parcels = sends r.standing to } = λ i. record {
      front = record { run_id = run_id_of (standing.part.header i); round = standing.round i; from = standing.part.me i; to = to };
      parcels = sends r.standing to;
    } in
    named ∙ ap (λ (ps : List (List ℕ)). record { front = record { run_id = run_id_of (header_of s); round = k + 1; from = g; to = to }; parcels = ps }) parcels

pub nodes_hear : NodesHear
nodes_hear s k g from n m bytes is e =
    after (awaited n from bytes) (λ frame. Ok (with_arrival n from frame.parcels)) m e (λ frame r e0.
    subst (IsWithin s k g) (ok_is {F = FrameFault} (with_arrival n from frame.parcels) m e0) (record { records = is.records; unscripted = is.unscripted; stage = is.stage }))

same_bytes : (xs : List ℕ) → bytes_eq xs xs ≡ true
same_bytes xs = (bytes_eq-Decides xs xs).1 refl

neighbours_same : (s : Scenario) (g : ℕ) (r : Recorder) → IsGeneralOf s g r.standing → neighbours_of (header_at r).network r.standing.known.me ≡ neighbours_of s.net g
neighbours_same s g r is = ap (λ (h : RunHeader). neighbours_of h.network r.standing.known.me) is.header ∙ ap (λ me. neighbours_of s.net me) is.me

front_his : (s : Scenario) (k g from : ℕ) (n : Node) → IsWithin s k g n → front_check n.recorder from (frame_between s (k + 1) from g).front ≡ Ok tt
unfolding front_check
front_his s k g from n is =
    let r = n.recorder in
    let standing = is.records.standing in
    let run : bytes_eq (run_id_of (header_of s)) (run_id_of (header_at r)) ≡ true = ap (λ (h : RunHeader). bytes_eq (run_id_of (header_of s)) (run_id_of h)) standing.part.header ∙ same_bytes (run_id_of (header_of s)) in
    let round : eqb (k + 1) r.standing.round ≡ true = eq-eqb (k + 1) r.standing.round (sym standing.round) in
    let sender : eqb from from ≡ true = eq-eqb from from refl in
    let me : eqb g r.standing.known.me ≡ true = eq-eqb g r.standing.known.me (sym standing.part.me) in
    rw (run, round, sender, me) refl

pub nodes_take : NodesTake
unfolding awaited
nodes_take s k g from n bytes is near none spells =
    let r = n.recorder in
    let f : WireFrame = frame_between s (k + 1) from g in
    let there : Contains (neighbours_of (header_at r).network r.standing.known.me) from = subst (λ (xs : List ℕ). Contains xs from) (sym (neighbours_same s g r is.records.standing.part)) near in
    let among : is_among (neighbours_of (header_at r).network r.standing.known.me) from ≡ true = any_gives (λ y. eqb y from) (neighbours_of (header_at r).network r.standing.known.me) from there (eq-eqb from from refl) in
    let read : whole_frame bytes ≡ Ok f = frame_only bytes f spells in
    let his : front_check r from f.front ≡ Ok tt = front_his s k g from n is in
    rw (is.stage, among, none, read, his) refl

-- ---- a round ends

heard_through : (s : Scenario) (k g : ℕ) (frames : ℕ → List (List ℕ)) (froms done : List ℕ) (r : Recorder) → ((from : ℕ) → Contains froms from → frames from ≡ frame_at s (k + 1) from g) → HasHeard s k g done r → HasHeard s k g (done ++ froms) (hears_all frames froms r)
unfolding hears_all
heard_through s k g frames [] done r made is = subst (λ (xs : List ℕ). HasHeard s k g xs r) (sym (append-nil done)) is
heard_through s k g frames (from ∷ froms) done r made is =
    let q = with_recvs r from (frames from) in
    let one : HasHeard s k g (done ++ from ∷ []) q = hears_from s k g from done r q (frames from) is (made from (Contains_here from froms)) refl in
    subst (λ (xs : List ℕ). HasHeard s k g xs (hears_all frames froms q)) (append_assoc done (from ∷ []) froms) (heard_through s k g frames froms (done ++ from ∷ []) q (λ v h. made v (Contains_there from v froms h)) one)

heard_script : (frames : ℕ → List (List ℕ)) (froms : List ℕ) (r : Recorder) → (hears_all frames froms r).standing.known ≡ r.standing.known
unfolding hears_all
heard_script frames [] r = refl
heard_script frames (from ∷ froms) r = heard_script frames froms (with_recvs r from (frames from))

closed : (s : Scenario) (k g : ℕ) (n : Node) → IsWithin s k g n → HoldsRound s k g n → IsAfter s (k + 1) g (heard_from 0 n)
closed s k g n is holds =
    let r = n.recorder in
    let frames : ℕ → List (List ℕ) = λ from. frame_in from n.inbox in
    let froms : List ℕ = near_at r (from_on r 0) in
    let same : froms ≡ neighbours_of s.net g = all_near s g r is.records.standing.part in
    let through : HasHeard s k g froms (hears_all frames froms r) = heard_through s k g frames froms [] r (λ from h. holds from (subst (λ (xs : List ℕ). Contains xs from) same h)) is.records in
    let whole : HasHeard s k g (neighbours_of s.net g) (hears_all frames froms r) = subst (λ (xs : List ℕ). HasHeard s k g xs (hears_all frames froms r)) same through in
    record {
      records = round_ends s k g (hears_all frames froms r) whole;
      unscripted = ap (λ (p : Part). p.script) (heard_script frames froms r) ∙ is.unscripted;
      stage = refl;
    }

pub nodes_end : NodesEnd
nodes_end s k g n is holds =
    let open_now : ended n ≡ heard_from 0 n = rw is.stage refl in
    subst (IsAfter s (k + 1) g) (sym open_now) (closed s k g n is holds)

-- ---- after the last round

pub one_log : (r : Recorder) → r.standing.known.script ≡ None → logs_written r ≡ log_written r ∷ []
one_log r none = rw none refl

pub nodes_log : NodesLog
nodes_log s g n is = sym (one_log n.recorder is.unscripted) ∙ logs_by s g n.recorder is.records

pub nodes_decide : NodesDecide
nodes_decide s g n is = decides_as_he s g n.recorder.standing is.records.standing.part is.records.standing.heard
