-- What each node keeps, call by call.
use Rattle.std.proofs.Common.{◌≡◌, ◌<◌, ◌+◌, ℕ, true, false, List, [], ◌∷◌, ◌++◌, refl, sym, ap, subst, ◌∙◌, arith, Option, Some, None, inl, inr}
use Rattle.std.specs.Prelude.{IsSome}
use Rattle.std.proofs.lemmas.Bool.{ltb-true}
use Rattle.gen_tree.specs.Rings.{Ring, ring_root}
use Rattle.gen_net.specs.Header.{RunHeader}
use Rattle.gen_log.specs.declared.entries.Entry.{Entry}
use Rattle.gen_net.specs.Network.{rounds}
use Rattle.gen_scenario.specs.Part.{Part}
use Rattle.gen_scenario.specs.RoundEntries.{recv_entries, send_entries, sign_entries}
use Rattle.gen_scenario.specs.SignedWorld.{delivery}
use Rattle.gen_scenario.specs.Counted.{counted_of}
use Rattle.gen_general.specs.Participant.{Participant, RingAfter, sender_at}
use Rattle.gen_general.specs.Loops.Journals.{IsRecord}
use Rattle.gen_general.proofs.JournalRecords.{heard_record, round_record}
use Rattle.gen_general.specs.Recording.{HasOwnRoot, Recorder, RecordsRound, StandBefore, with_recvs, with_sends}
use Rattle.gen_node.specs.declared.stages.Stage.{Stage}
use Rattle.gen_node.specs.declared.stages.Stage.TheVariants.{Between, Sending, Open, Hearing}
use Rattle.gen_node.specs.Held.{Held}
use Rattle.gen_node.specs.Node.{begins_in, header_at}
use Rattle.gen_node.specs.Loops.Kept.{IsNode, held_for, is_near, log_begun}
use Rattle.gen_node.proofs.Places.{act_before, recv_place, send_place, sign_place, stand_both, stand_later}
use Rattle.gen_node.proofs.Rows.{held_far, held_near}

ring_stays : (p : Participant) (old new : Option Ring) → RingAfter p old new → IsSome old → IsSome new
ring_stays p (Some old) (Some new) after some = refl
ring_stays p (Some old) None after some = absurd after
ring_stays p None (Some new) after some = absurd after
ring_stays p None None after some = some

root_stays : (p : Participant) (old new : Option Ring) → RingAfter p old new → HasOwnRoot p.known old → HasOwnRoot p.known new
root_stays p (Some old) (Some new) after root = root ∙ (λ j. ring_root (sym after.seed j) (sym after.height j))
root_stays p (Some old) None after root = absurd after
root_stays p None (Some new) after root = absurd after
root_stays p None None after root = root

-- ---- a round begins

signs_stand : (h : RunHeader) (r q : Recorder) (out : List Held) → IsNode h r Between out → RecordsRound r q → StandBefore h.network q.written (q.standing.round ∷ 1 ∷ 0 ∷ [])
signs_stand h r q out is begun =
    let round : ℕ = r.standing.round + 1 in
    let es : List Entry = sign_entries (sender_at r.standing) r.standing.heard round in
    let at : List ℕ = round ∷ 1 ∷ 0 ∷ [] in
    let old : StandBefore h.network r.written at = stand_later h.network r.written (round ∷ []) at is.place (inr (refl, tt)) in
    let new : StandBefore h.network es at = act_before h.network round (0 ∷ []) es at (sign_place h.network (sender_at r.standing) r.standing.heard round is.unscripted) (λ rest. inr (refl, inl (omega arith))) in
    let both : StandBefore h.network (r.written ++ es) at = stand_both h.network r.written es at old new in
    let here : StandBefore h.network q.written at = subst (λ (xs : List Entry). StandBefore h.network xs at) (sym begun.written) both in
    subst (λ (n : ℕ). StandBefore h.network q.written (n ∷ 1 ∷ 0 ∷ [])) (sym begun.standing.round) here

pub kept_signed : (h : RunHeader) (r q : Recorder) (out : List Held) → r.standing.round < rounds (header_at r).network → IsNode h r Between out → RecordsRound r q → IsNode h q (Sending 0) []
kept_signed h r q out more is begun = record {
  header = ap (λ (k : Part). k.header) begun.standing.known ∙ is.header;
  unscripted = ap (λ (k : Part). k.script) begun.standing.known ∙ is.unscripted;
  ring = ring_stays r.standing r.standing.ring q.standing.ring begun.standing.ring is.ring;
  root = subst (λ (k : Part). HasOwnRoot k q.standing.ring) (sym begun.standing.known) (root_stays r.standing r.standing.ring q.standing.ring begun.standing.ring is.root);
  acts = subst (λ (k : Part). IsRecord q.standing (log_begun k)) (sym begun.standing.known) (round_record r.standing q.standing (log_begun r.standing.known) more begun.standing is.acts);
  place = signs_stand h r q out is begun;
  holds = (omega arith, refl);
}

pub kept_sent : (h : RunHeader) (r : Recorder) (next : ℕ) (out : List Held) → next < (header_at r).network.generals → is_near r next ≡ true → IsNode h r (Sending next) out → IsNode h (with_sends r next) (Sending (next + 1)) (out ++ held_for r next ∷ [])
kept_sent h r next out low near is =
    let round : ℕ = r.standing.round in
    let es : List Entry = send_entries (sender_at r.standing) r.standing.before round next in
    let at : List ℕ = round ∷ 1 ∷ (next + 1) ∷ [] in
    let old : StandBefore h.network r.written at = stand_later h.network r.written (round ∷ 1 ∷ next ∷ []) at is.place (inr (refl, inr (refl, inl (omega arith)))) in
    let new : StandBefore h.network es at = act_before h.network round (1 ∷ next ∷ []) es at (send_place h.network (sender_at r.standing) r.standing.before round next is.unscripted) (λ rest. inr (refl, inr (refl, inl (omega arith)))) in
    record {
      header = is.header;
      unscripted = is.unscripted;
      ring = is.ring;
      root = is.root;
      acts = is.acts;
      place = stand_both h.network r.written es at old new;
      holds = (omega (arith, low), held_near r (header_at r).network r.standing.known.me next out near is.holds.1);
    }

pub kept_unsent : (h : RunHeader) (r : Recorder) (next : ℕ) (out : List Held) → next < (header_at r).network.generals → is_near r next ≡ false → IsNode h r (Sending next) out → IsNode h r (Sending (next + 1)) out
kept_unsent h r next out low far is =
    let round : ℕ = r.standing.round in
    record {
      header = is.header;
      unscripted = is.unscripted;
      ring = is.ring;
      root = is.root;
      acts = is.acts;
      place = stand_later h.network r.written (round ∷ 1 ∷ next ∷ []) (round ∷ 1 ∷ (next + 1) ∷ []) is.place (inr (refl, inr (refl, inl (omega arith))));
      holds = (omega (arith, low), held_far r (header_at r).network r.standing.known.me next out far is.holds.1);
    }

-- ---- a round ends

pub kept_heard : (h : RunHeader) (r : Recorder) (next : ℕ) (frame : List (List ℕ)) (out : List Held) → IsNode h r (Hearing next) out → IsNode h (with_recvs r next frame) (Hearing (next + 1)) out
kept_heard h r next frame out is =
    let round : ℕ = r.standing.round in
    let d = delivery round next r.standing.known.me in
    let es : List Entry = recv_entries (sender_at r.standing) round next (counted_of r.standing.known.header d frame) in
    let at : List ℕ = round ∷ 2 ∷ (next + 1) ∷ [] in
    let old : StandBefore h.network r.written at = stand_later h.network r.written (round ∷ 2 ∷ next ∷ []) at is.place (inr (refl, inr (refl, inl (omega arith)))) in
    let new : StandBefore h.network es at = act_before h.network round (2 ∷ next ∷ []) es at (recv_place h.network (sender_at r.standing) r.standing.known.header d frame) (λ rest. inr (refl, inr (refl, inl (omega arith)))) in
    record {
      header = is.header;
      unscripted = is.unscripted;
      ring = is.ring;
      root = is.root;
      acts = heard_record r.standing (log_begun r.standing.known) next frame is.acts;
      place = stand_both h.network r.written es at old new;
      holds = tt;
    }

pub kept_unheard : (h : RunHeader) (r : Recorder) (next : ℕ) (out : List Held) → IsNode h r (Hearing next) out → IsNode h r (Hearing (next + 1)) out
kept_unheard h r next out is =
    let round : ℕ = r.standing.round in
    record {
      header = is.header;
      unscripted = is.unscripted;
      ring = is.ring;
      root = is.root;
      acts = is.acts;
      place = stand_later h.network r.written (round ∷ 2 ∷ next ∷ []) (round ∷ 2 ∷ (next + 1) ∷ []) is.place (inr (refl, inr (refl, inl (omega arith))));
      holds = tt;
    }

-- ---- what is asked of the recorder

pub may_more : (stage : Stage) (round all : ℕ) → stage ≡ Between → begins_in stage round all ≡ true → round < all
may_more Between round all e may = ltb-true round all may
may_more (Sending next) round all e may = absurd cc
may_more Open round all e may = absurd cc
may_more (Hearing next) round all e may = absurd cc
