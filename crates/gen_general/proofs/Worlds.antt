-- All generals together, step by step.
use Rattle.std.proofs.Common.{◌≡◌, ◌≢◌, ◌↔◌, ℕ, Bool, true, false, not, List, [], ◌∷◌, ◌++◌, map, filter, refl, sym, ap, subst, ◌∙◌, eqb, Option, Some, None, inl, inr, ◌≤◌, ◌<◌, ◌+◌, arith, length, drop, slice_index_or, slice_set, append_assoc, zero-add}
use Rattle.std.specs.Prelude.{IsTrue}
use Rattle.std.specs.List.{range_with_len, flat_map, list_any}
use Rattle.std.proofs.lemmas.Bool.{eqb-true, eq-eqb}
use Rattle.std.proofs.lemmas.Grind.{flat_map-append}
use Rattle.std.proofs.Math.Seq.{drop-append_seam}
use Rattle.std.proofs.lemmas.List.{append-nil, map-append, get_or-set_same, get_or-set_other, get_or_push, get_or_append_left, length-append}
use Rattle.std.proofs.lemmas.List.Elements.{filter-append}
use Rattle.gen_types.specs.Members.{range_more}
use Rattle.gen_types.proofs.Lists.{bool_cases}
use Rattle.gen_tree.specs.Rings.{Ring}
use Rattle.gen_net.specs.Network.{Network, AreNeighbours, rounds}
use Rattle.gen_net.specs.Edges.{joins}
use Rattle.gen_script.proofs.Joining.{joined_found, joined_again}
use Rattle.gen_scenario.specs.declared.heard.Heard.{Heard}
use Rattle.gen_scenario.specs.declared.scenario.Decision.{Decision}
use Rattle.gen_scenario.specs.Scenario.{Scenario, has_script}
use Rattle.gen_scenario.specs.Signing.{Keys}
use Rattle.gen_scenario.specs.Frames.{frame_of}
use Rattle.gen_scenario.specs.SignedWorld.{sender_of, heard_by}
use Rattle.gen_scenario.specs.Deciding.{decided_by, decision_of, decisions_of}
use Rattle.gen_scenario.specs.Part.{Part, own_keys}
use Rattle.gen_scenario.specs.PartLaws.{ActAlike}
use Rattle.gen_scenario.specs.Rows.{FrameRow, row_at, rows_by, rows_in, rows_of}
use Rattle.gen_general.specs.Participant.{Participant, RingAfter, HasBegun, keys_at, sender_at, sends, with_frame}
use Rattle.gen_general.specs.ParticipantLaws.{IsIn, BeginsAsHe, HearsAsHe, SendsFrames, HearsFrames, DecidesAsHe}
use Rattle.gen_general.specs.Driving.{StandsAfter, rows_for, rows_first, rows_until, decided_of}
use Rattle.gen_scenario.specs.SignedWorld.{near_of}
use Rattle.gen_scenario.proofs.Having.{true_false}
use Rattle.gen_scenario.proofs.Stepping.{frame_after}

-- ---- places

pub at_same : {X : Type 0} (ps : List X) (i g : ℕ) (q d : X) → i < length ps → g ≡ i → slice_index_or (slice_set ps i q) g d ≡ q
at_same ps i g q d within same = ap (λ j. slice_index_or (slice_set ps i q) j d) same ∙ get_or-set_same ps i q d within

pub at_other : {X : Type 0} (ps : List X) (i g : ℕ) (q d : X) → g ≢ i → slice_index_or (slice_set ps i q) g d ≡ slice_index_or ps g d
at_other ps i g q d other = get_or-set_other ps i g q d other

pub eqb_not : (a b : ℕ) → eqb a b ≡ false → a ≢ b
eqb_not a b e same = true_false (eqb a b) (eq-eqb a b same) e

pub set_done : {X : Type 0} (P : ℕ → X → Type 0) (ps : List X) (i : ℕ) (q : X) → i < length ps → ((g : ℕ) (d : X) → g < i → P g (slice_index_or ps g d)) → P i q
    → (g : ℕ) (d : X) → g < i + 1 → P g (slice_index_or (slice_set ps i q) g d)
set_done P ps i q within done one g d below = elim (bool_cases (eqb g i)) [
  | inl e ↦ let same = eqb-true g i e in subst (λ p. P g p) (sym (at_same ps i g q d within same)) (subst (λ j. P j q) (sym same) one)
  | inr ne ↦ let other = eqb_not g i ne in subst (λ p. P g p) (sym (at_other ps i g q d other)) (done g d (omega (arith, below, other)))
]

pub set_rest : {X : Type 0} (P : ℕ → X → Type 0) (ps : List X) (i n : ℕ) (q : X) → ((g : ℕ) (d : X) → i ≤ g → g < n → P g (slice_index_or ps g d))
    → (g : ℕ) (d : X) → i + 1 ≤ g → g < n → P g (slice_index_or (slice_set ps i q) g d)
set_rest P ps i n q rest g d above below =
    let other : g ≢ i = λ same. absurd (omega (arith, above, same)) in
    subst (λ p. P g p) (sym (at_other ps i g q d other)) (rest g d (omega (arith, above)) below)

-- one place is changed, and it holds there again
pub set_all : {X : Type 0} (P : ℕ → X → Type 0) (ps : List X) (i n : ℕ) (q : X) → i < length ps → P i q → ((g : ℕ) (d : X) → g < n → P g (slice_index_or ps g d))
    → (g : ℕ) (d : X) → g < n → P g (slice_index_or (slice_set ps i q) g d)
set_all P ps i n q within one each g d below = elim (bool_cases (eqb g i)) [
  | inl e ↦ let same = eqb-true g i e in subst (λ p. P g p) (sym (at_same ps i g q d within same)) (subst (λ j. P j q) (sym same) one)
  | inr ne ↦ let other = eqb_not g i ne in subst (λ p. P g p) (sym (at_other ps i g q d other)) (each g d below)
]

-- ---- beginning

-- with what he signs stays the same
keys_same : (p : Participant) (k : Part) (a b : Option Ring) → RingAfter p a b → keys_at k b ≡ keys_at k a
keys_same p k None None after = refl
keys_same p k None (Some b) after = absurd after
keys_same p k (Some a) None after = absurd after
keys_same p k (Some a) (Some b) after = ap (λ seed. own_keys k.header seed) after.seed

part_same : (p q : Participant) → HasBegun p q → sender_at q ≡ sender_at p
part_same p q begun =
    let keys : keys_at q.known q.ring ≡ keys_at p.known p.ring = ap (λ k. keys_at k q.ring) begun.known ∙ keys_same p p.known p.ring q.ring begun.ring in
    ap (λ (k : Part). record { keys = keys_at q.known q.ring; me = k.me; own = k.own; script = k.script }) begun.known
    ∙ ap (λ (keys : Keys). record { keys = keys; me = p.known.me; own = p.known.own; script = p.known.script }) keys

pub begins_as_he : BeginsAsHe
begins_as_he s g p q is begun = record {
  header = ap (λ (x : Part). x.header) begun.known ∙ is.header;
  me = ap (λ (x : Part). x.me) begun.known ∙ is.me;
  own = ap (λ (x : Part). x.own) begun.known ∙ is.own;
  alike = subst (λ part. ActAlike part (sender_of s g)) (sym (part_same p q begun)) is.alike;
}

pub begun_one : (s : Scenario) (k g : ℕ) (p q : Participant) → StandsAfter s k g p → HasBegun p q → IsIn s k g q × (q.heard ≡ heard_by s k g)
begun_one s k g p q at begun = (
  record {
    part = begins_as_he s g p q at.part begun;
    before = begun.before ∙ at.heard;
    round = begun.round ∙ ap (λ n. n + 1) at.round;
  },
  begun.heard ∙ at.heard,
)

-- ---- one frame

pub near_known : (net : Network) (b : Bool) (to from : ℕ) → (IsTrue b ↔ AreNeighbours net to from) → list_any (joins to from) net.edges ≡ b
near_known net b to from both = elim (bool_cases (list_any (joins to from) net.edges)) [
  | inl t ↦ t ∙ sym (both.1 (joined_found to from net.edges t))
  | inr f ↦ elim (bool_cases b) [
    | inl bt ↦ absurd (true_false (list_any (joins to from) net.edges) (joined_again to from net.edges (both.0 bt)) f)
    | inr bf ↦ f ∙ sym bf
  ]
]

pub sends_frames : SendsFrames
sends_frames s k g to p is = ap (λ (heard : List Heard). frame_of (sender_at p) heard p.round to) is.before ∙ ap (λ round. frame_of (sender_at p) (heard_by s k g) round to) is.round ∙ is.part.alike.frames (heard_by s k g) (k + 1) to

pub hears_frames : HearsFrames
hears_frames s k g from p is = rw (is.part.header, is.part.me, is.round) refl

-- the frame is that of the scenario
pub frame_made : (s : Scenario) (k from to : ℕ) (p : Participant) (frame : List (List ℕ)) → IsIn s k from p → frame ≡ sends p to → frame ≡ frame_of (sender_of s from) (heard_by s k from) (k + 1) to
frame_made s k from to p frame is e = e ∙ sends_frames s k from to p is

-- he is still in the round
pub hears_as_he : HearsAsHe
hears_as_he s g from p frame is = record { header = is.header; me = is.me; own = is.own; alike = is.alike }

pub hears_in : (s : Scenario) (k g from : ℕ) (p q : Participant) (frame : List (List ℕ)) → IsIn s k g p → q ≡ with_frame p from frame → IsIn s k g q
hears_in s k g from p q frame is e =
    let there : IsIn s k g (with_frame p from frame) = record { part = hears_as_he s g from p frame is.part; before = is.before; round = is.round } in
    subst (λ x. IsIn s k g x) (sym e) there

-- ---- all frames

pub grows : {X : Type 0} (now mid start a b c : List X) → now ≡ mid ++ b → mid ≡ start ++ a → a ++ b ≡ c → now ≡ start ++ c
grows now mid start a b c one two three = one ∙ ap (λ xs. xs ++ b) two ∙ append_assoc start a b ∙ ap (λ xs. start ++ xs) three

pub one_more : (n : ℕ) → range_with_len 0 (n + 1) ≡ range_with_len 0 n ++ n ∷ []
one_more n = range_more 0 n ∙ ap (λ k. range_with_len 0 n ++ k ∷ []) (zero-add n)

pub near_more : (net : Network) (to n : ℕ) → near_of net to (range_with_len 0 n) ++ near_of net to (n ∷ []) ≡ near_of net to (range_with_len 0 (n + 1))
near_more net to n = sym (ap (near_of net to) (one_more n) ∙ filter-append (λ from. list_any (joins to from) net.edges) (range_with_len 0 n) (n ∷ []))

-- ---- frames

pub near_out : (net : Network) (g h : ℕ) → list_any (joins g h) net.edges ≡ false → near_of net g (h ∷ []) ≡ []
near_out net g h far = rw far refl

pub near_in : (net : Network) (g h : ℕ) → list_any (joins g h) net.edges ≡ true → near_of net g (h ∷ []) ≡ h ∷ []
near_in net g h near = rw near refl

pub rows_far : (s : Scenario) (k from to : ℕ) (xs : List FrameRow) → list_any (joins from to) s.net.edges ≡ false → xs ≡ xs ++ rows_for s k from (near_of s.net from (to ∷ []))
rows_far s k from to xs far = sym (ap (λ (tos : List ℕ). xs ++ rows_for s k from tos) (near_out s.net from to far) ∙ append-nil xs)

pub rows_near : (s : Scenario) (k from to : ℕ) (p : Participant) (frame : List (List ℕ)) (old new : List FrameRow) → list_any (joins from to) s.net.edges ≡ true → IsIn s k from p
    → frame ≡ sends p to → new ≡ old ++ record { round = k + 1; from = from; to = to; parcels = frame } ∷ [] → new ≡ old ++ rows_for s k from (near_of s.net from (to ∷ []))
rows_near s k from to p frame old new near by made e =
    let is = frame_made s k from to p frame by made ∙ sym (frame_after s k from to) in
    e ∙ ap (λ (parcels : List (List ℕ)). old ++ record { round = k + 1; from = from; to = to; parcels = parcels } ∷ []) is
    ∙ sym (ap (λ (tos : List ℕ). old ++ rows_for s k from tos) (near_in s.net from to near))

pub rows_more : (s : Scenario) (k from n : ℕ)
    → rows_for s k from (near_of s.net from (range_with_len 0 n)) ++ rows_for s k from (near_of s.net from (n ∷ [])) ≡ rows_for s k from (near_of s.net from (range_with_len 0 (n + 1)))
rows_more s k from n = sym (map-append (row_at s (k + 1) from) (near_of s.net from (range_with_len 0 n)) (near_of s.net from (n ∷ []))) ∙ ap (rows_for s k from) (near_more s.net from n)

pub sender_rows : (s : Scenario) (k n : ℕ) → rows_first s k n ++ rows_by s (k + 1) n ≡ rows_first s k (n + 1)
unfolding rows_first
sender_rows s k n =
    let f : ℕ → List FrameRow = rows_by s (k + 1) in
    sym (ap (flat_map f) (one_more n) ∙ flat_map-append f (range_with_len 0 n) (n ∷ []) ∙ ap (λ (xs : List FrameRow). flat_map f (range_with_len 0 n) ++ xs) (append-nil (f n)))

pub senders_none : (s : Scenario) (k : ℕ) (xs : List FrameRow) → xs ≡ xs ++ rows_first s k 0
unfolding rows_first
senders_none s k xs = sym (append-nil xs)

pub senders_all : (s : Scenario) (k : ℕ) → rows_first s k s.net.generals ≡ rows_in s (k + 1)
unfolding rows_first rows_in
senders_all s k = refl

-- ---- the start

pub pushed_each : {X : Type 0} (P : ℕ → X → Type 0) (old new : List X) (n : ℕ) (q : X) → length old ≡ n → new ≡ old ++ q ∷ []
    → ((g : ℕ) (d : X) → g < n → P g (slice_index_or old g d)) → P n q → (g : ℕ) (d : X) → g < n + 1 → P g (slice_index_or new g d)
pushed_each P old new n q long e each one g d below = elim (bool_cases (eqb g n)) [
  | inl t ↦
      let same = eqb-true g n t in
      let read : slice_index_or new g d ≡ q = ap (λ xs. slice_index_or xs g d) e ∙ get_or_push old q d g (long ∙ sym same) in
      subst (λ p. P g p) (sym read) (subst (λ j. P j q) (sym same) one)
  | inr f ↦
      let other = eqb_not g n f in
      let read : slice_index_or new g d ≡ slice_index_or old g d = ap (λ xs. slice_index_or xs g d) e ∙ get_or_append_left old (q ∷ []) d g (omega (arith, below, other, long)) in
      subst (λ p. P g p) (sym read) (each g d (omega (arith, below, other)))
]

pub length_pushed : {X : Type 0} (old new : List X) (n : ℕ) (q : X) → length old ≡ n → new ≡ old ++ q ∷ [] → length new ≡ n + 1
length_pushed old new n q long e = ap length e ∙ length-append old (q ∷ []) ∙ ap (λ k. k + 1) long

-- ---- the rounds

pub rows_none : (s : Scenario) (xs : List FrameRow) → xs ≡ [] → xs ≡ rows_until s 0
unfolding rows_until
rows_none s xs e = e

pub rows_round : (s : Scenario) (k : ℕ) (old new : List FrameRow) → old ≡ rows_until s k → new ≡ old ++ rows_in s (k + 1) → new ≡ rows_until s (k + 1)
unfolding rows_until
rows_round s k old new before e =
    let next : 1 + k ≡ k + 1 = omega arith in
    let grown : range_with_len 1 (k + 1) ≡ range_with_len 1 k ++ (k + 1) ∷ [] = range_more 1 k ∙ ap (λ j. range_with_len 1 k ++ j ∷ []) next in
    e ∙ ap (λ (xs : List FrameRow). xs ++ rows_in s (k + 1)) before
    ∙ sym (ap (flat_map (rows_in s)) grown ∙ flat_map-append (rows_in s) (range_with_len 1 k) ((k + 1) ∷ []) ∙ ap (λ (xs : List FrameRow). flat_map (rows_in s) (range_with_len 1 k) ++ xs) (append-nil (rows_in s (k + 1))))

pub rows_all : (s : Scenario) (n : ℕ) (xs : List FrameRow) → n ≡ rounds s.net → xs ≡ rows_until s n → xs ≡ rows_of s
unfolding rows_until rows_of
rows_all s n xs stop e = e ∙ ap (λ k. flat_map (rows_in s) (range_with_len 1 k)) stop

-- ---- the decisions

pub decides_as_he : DecidesAsHe
decides_as_he s g p is heard = rw (is.header, is.me, is.own, heard) refl

pub decided_more : (s : Scenario) (n : ℕ) (old new : List Decision) → old ≡ decided_of s (range_with_len 0 n) → new ≡ old ++ decided_of s (n ∷ []) → new ≡ decided_of s (range_with_len 0 (n + 1))
decided_more s n old new before e =
    let follows : ℕ → Bool = λ g. not (has_script s g) in
    e ∙ ap (λ (xs : List Decision). xs ++ decided_of s (n ∷ [])) before
    ∙ sym (ap (decided_of s) (one_more n) ∙ ap (map (decision_of s)) (filter-append follows (range_with_len 0 n) (n ∷ [])) ∙ map-append (decision_of s) (filter follows (range_with_len 0 n)) (filter follows (n ∷ [])))
