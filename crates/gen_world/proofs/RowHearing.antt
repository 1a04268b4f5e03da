-- The frames of a round are heard, one after another.
use Rattle.std.proofs.Common.{◌≡◌, ◌≢◌, ◌≤◌, ◌<◌, ◌+◌, inl, inr, ℕ, List, [], ◌∷◌, ◌++◌, take, length, get_or, slice_index_or, slice_set, Contains, AllPairs, sym, ap, subst, ◌∙◌, eqb, true, false, arith}
use Rattle.std.proofs.lemmas.Bool.{eqb-true, eq-eqb}
use Rattle.std.proofs.lemmas.List.{take_all, length-set}
use Rattle.gen_types.proofs.Lists.{bool_cases}
use Rattle.gen_net.specs.Header.{RunHeader}
use Rattle.gen_scenario.specs.Scenario.{Scenario, IsScenario}
use Rattle.gen_scenario.specs.SignedWorld.{frame_at, neighbours_of}
use Rattle.gen_scenario.specs.Rows.{FrameRow, rows_in}
use Rattle.gen_general.specs.Recording.{Recorder, StandBefore, hear_act, with_recvs}
use Rattle.gen_general.specs.DrivenRecords.{HasHeard, AllRecord, AllHear, senders_to}
use Rattle.gen_scenario.proofs.Having.{true_false}
use Rattle.gen_general.proofs.Worlds.{at_same, at_other}
use Rattle.gen_general.proofs.Recorders.{hears_from, round_ends}
use Rattle.gen_general.proofs.LogPlaces.{may_hear}
use Rattle.gen_world.proofs.RowSenders.{IsFrame, InTurn, frame_has, rows_in_turn, all_senders, senders_here, senders_past, senders_before}

-- the frame that is next, and its receiver
pub record IsNextRow (s : Scenario) (k i : ℕ) (rows : List FrameRow) (ps : List Recorder) (x : FrameRow) (p : Recorder) : Type 0 where
  pub all_rows : rows ≡ rows_in s (k + 1)
  pub within : i < length rows
  pub at : x ≡ get_or rows i x
  pub receiver : p ≡ slice_index_or ps x.to p
  pub so_far : AllHear s k (take i rows) ps

pub has_place : (s : Scenario) (k i : ℕ) (rows : List FrameRow) (ps : List Recorder) (x : FrameRow) → rows ≡ rows_in s (k + 1) → i < length rows → x ≡ get_or rows i x → AllHear s k (take i rows) ps → x.to < length ps
has_place s k i rows ps x e within at all =
    let frame = frame_has s (k + 1) x (subst (λ (xs : List FrameRow). Contains xs x) e (i, within, sym at)) in
    omega (arith, frame.to_known, all.count)

module _ (s : Scenario) (ok : IsScenario s) (k i : ℕ) (rows : List FrameRow) (ps : List Recorder) (x : FrameRow) (p : Recorder) (next : IsNextRow s k i rows ps x p) where
  frame : IsFrame s (k + 1) x
  frame = frame_has s (k + 1) x (subst (λ (xs : List FrameRow). Contains xs x) next.all_rows (i, next.within, sym next.at))

  stands : HasHeard s k x.to (senders_to x.to (take i rows)) p
  stands = subst (HasHeard s k x.to (senders_to x.to (take i rows))) (sym next.receiver) (next.so_far.each x.to p frame.to_known)

  heard_first : (v : ℕ) → Contains (senders_to x.to (take i rows)) v → v < x.from
  heard_first v h =
      let turn : AllPairs InTurn rows = subst (AllPairs InTurn) (sym next.all_rows) (rows_in_turn s (k + 1)) in
      subst (λ (y : FrameRow). v < y.from) (sym next.at) (senders_before i rows x turn next.within v (subst (λ (y : FrameRow). Contains (senders_to y.to (take i rows)) v) next.at h))

  -- he may hear it
  pub sender_known : x.from < p.standing.known.header.network.generals
  sender_known = rw (ap (λ (h : RunHeader). h.network.generals) stands.standing.part.header) frame.from_known

  pub receiver_known : x.to < length ps
  receiver_known = omega (arith, frame.to_known, next.so_far.count)

  pub next_act : StandBefore p.standing.known.header.network p.written (hear_act p.standing.round x.from)
  next_act = may_hear s ok k x.to x.from frame.to_known (senders_to x.to (take i rows)) heard_first p stands

  -- and when he has heard it
  hears_here : (q : Recorder) → q ≡ with_recvs p x.from x.parcels → HasHeard s k x.to (senders_to x.to (take (i + 1) rows)) q
  hears_here q e =
      let same : eqb (get_or rows i x).to x.to ≡ true = eq-eqb (get_or rows i x).to x.to (ap (λ (y : FrameRow). y.to) (sym next.at)) in
      let grown : senders_to x.to (take (i + 1) rows) ≡ senders_to x.to (take i rows) ++ x.from ∷ [] =
      senders_here x.to i rows x next.within same ∙ ap (λ (y : FrameRow). senders_to x.to (take i rows) ++ y.from ∷ []) (sym next.at) in
      let made : x.parcels ≡ frame_at s (k + 1) x.from x.to = ap (λ (y : FrameRow). y.parcels) frame.is in
      subst (λ (froms : List ℕ). HasHeard s k x.to froms q) (sym grown) (hears_from s k x.to x.from (senders_to x.to (take i rows)) p q x.parcels stands made e)

  others_stay : (g : ℕ) (d : Recorder) → eqb x.to g ≡ false → HasHeard s k g (senders_to g (take i rows)) d → HasHeard s k g (senders_to g (take (i + 1) rows)) d
  others_stay g d past is =
      let other : eqb (get_or rows i x).to g ≡ false = subst (λ (y : FrameRow). eqb y.to g ≡ false) next.at past in
      subst (λ (froms : List ℕ). HasHeard s k g froms d) (sym (senders_past g i rows x next.within other)) is

  each_heard : (q : Recorder) → q ≡ with_recvs p x.from x.parcels → (g : ℕ) (d : Recorder) → g < s.net.generals → HasHeard s k g (senders_to g (take (i + 1) rows)) (slice_index_or (slice_set ps x.to q) g d)
  each_heard q e g d known = elim (bool_cases (eqb x.to g)) [
    | inl t ↦
        let same : x.to ≡ g = eqb-true x.to g t in
        subst (HasHeard s k g (senders_to g (take (i + 1) rows))) (sym (at_same ps x.to g q d receiver_known (sym same))) (subst (λ h. HasHeard s k h (senders_to h (take (i + 1) rows)) q) same (hears_here q e))
    | inr f ↦
        let other : g ≢ x.to = λ same. true_false (eqb x.to g) (eq-eqb x.to g (sym same)) f in
        subst (HasHeard s k g (senders_to g (take (i + 1) rows))) (sym (at_other ps x.to g q d other)) (others_stay g (slice_index_or ps g d) f (next.so_far.each g d known))
  ]

  pub row_heard : (q : Recorder) → q ≡ with_recvs p x.from x.parcels → AllHear s k (take (i + 1) rows) (slice_set ps x.to q)
  row_heard q e = record { count = length-set ps x.to q ∙ next.so_far.count; each = each_heard q e }

-- when all are heard the round is over
pub all_heard : (s : Scenario) → IsScenario s → (k i : ℕ) (rows : List FrameRow) (ps : List Recorder) → rows ≡ rows_in s (k + 1) → length rows ≤ i → AllHear s k (take i rows) ps → AllRecord s (k + 1) ps
all_heard s ok k i rows ps e past all = record {
  count = all.count;
  each = λ g d known.
      let whole : senders_to g (take i rows) ≡ neighbours_of s.net g = ap (senders_to g) (take_all i rows past ∙ e) ∙ all_senders s ok.network (k + 1) g in
      round_ends s k g (slice_index_or ps g d) (subst (λ (froms : List ℕ). HasHeard s k g froms (slice_index_or ps g d)) whole (all.each g d known));
}
