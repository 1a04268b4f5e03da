-- What is missing of a file of roots behind its front.
use Rattle.std.proofs.Common.{◌≡◌, ◌≤◌, ◌+◌, ◌-◌, ◌*◌, ◌/◌, ◌^◌, ◌<◌, ◌&&◌, ℕ, zero, suc, Bool, true, false, List, [], ◌∷◌, ◌++◌, length, take, drop, refl, sym, ap, ap₂, ◌∙◌, append_assoc, length-append, arith}
use Rattle.std.specs.Prelude.{nat_eq, nat_le}
use Rattle.std.specs.List.{flat_map, starts_with}
use Rattle.std.proofs.lemmas.Bool.{and_left, le-leb, lt-leb}
use Rattle.std.proofs.lemmas.List.{drop_all, drop_at, drop-append-le, take-append-le, length-drop, length-take}
use Rattle.std.proofs.lemmas.List.Concat.{flat_map-append, flat_map-cons}
use lib.Pointwise.{pointwise}
use Rattle.sha2.proofs.Facts256.{length-sha256}
use Rattle.gen_types.specs.declared.heights.TreeHeight.{TreeHeight}
use Rattle.gen_types.specs.declared.heights.TreeHeight.TheVariants.{Four, Six}
use Rattle.gen_tree.specs.Rings.{ring_root}
use Rattle.gen_tree.specs.Tree.{node_over}
use Rattle.gen_identity.specs.Sets.{set_roots}
use Rattle.gen_identity.specs.States.{seed_after, state_after}
use Rattle.gen_enroll.specs.RootFiles.{head_spelling, roots_spelling}
use Rattle.gen_enroll.proofs.Pieces.{roots_join}
use Rattle.gen_enrolling.specs.Loops.{file_from, roots_from}
use Rattle.gen_enrolling.specs.Resuming.{goes_on, last_set, place_of}

-- ---- roots

-- a root is a hash
root_wide : (seed : List ℕ) (height : TreeHeight) → length (ring_root seed height) ≡ 32
unfolding ring_root node_over
root_wide seed Four = length-sha256 _
root_wide seed Six = length-sha256 _

-- the bytes of the roots of m + n sets
pub roots_from-join : (state : List ℕ) (height : TreeHeight) (m n : ℕ) → roots_from state height (m + n) ≡ roots_from state height m ++ roots_from (state_after state m) height n
unfolding roots_from
roots_from-join state height m n =
    ap (λ (roots : List (List ℕ)). roots_spelling roots) (roots_join state height m n)
    ∙ flat_map-append (λ (root : List ℕ). root) (set_roots state height m) (set_roots (state_after state m) height n)

pub no_roots_from : (state : List ℕ) (height : TreeHeight) → roots_from state height 0 ≡ []
unfolding roots_from set_roots
no_roots_from state height = refl

-- how many bytes some roots have
pub length-roots_from : (state : List ℕ) (height : TreeHeight) (n : ℕ) → length (roots_from state height n) ≡ 32 * n
unfolding roots_from set_roots
length-roots_from state height zero = refl
length-roots_from state height (suc n) =
    let before = set_roots state height n in
    let last = ring_root (seed_after state n) height in
    let parts : flat_map (λ (root : List ℕ). root) (before ++ last ∷ []) ≡ flat_map (λ (root : List ℕ). root) before ++ flat_map (λ (root : List ℕ). root) (last ∷ [])
    = flat_map-append (λ (root : List ℕ). root) before (last ∷ []) in
    let one : length (flat_map (λ (root : List ℕ). root) (last ∷ [])) ≡ 32
    = ap length (flat_map-cons (λ (root : List ℕ). root) last []) ∙ length-append last [] ∙ omega (arith, root_wide (seed_after state n) height) in
    omega (arith, ap length parts, length-append (flat_map (λ (root : List ℕ). root) before) (flat_map (λ (root : List ℕ). root) (last ∷ [])), one, length-roots_from state height n)

-- the roots before some sets, those of the sets, and those behind them
roots_in_parts : (secret : List ℕ) (height : TreeHeight) (first touched all : ℕ) → first + touched ≤ all
    → roots_from secret height all ≡ roots_from secret height first
    ++ (roots_from (state_after secret first) height touched ++ roots_from (state_after (state_after secret first) touched) height (all - (first + touched)))
roots_in_parts secret height first touched all within =
    let rest = all - (first + touched) in
    let whole : all ≡ first + (touched + rest) = omega (arith, within) in
    ap (roots_from secret height) whole
    ∙ roots_from-join secret height first (touched + rest)
    ∙ ap (λ (t : List ℕ). roots_from secret height first ++ t) (roots_from-join (state_after secret first) height touched rest)

-- ---- lists

-- what is left of two lists behind some elements
drop_over : (n : ℕ) (a b : List ℕ) → drop n (a ++ b) ≡ drop n a ++ drop (n - length a) b
drop_over zero a b =
    let none : 0 ≡ 0 - length a = omega arith in
    ap (λ (k : ℕ). a ++ drop k b) none
drop_over (suc n) [] b =
    let same : suc n ≡ suc n - 0 = omega arith in
    ap (λ (k : ℕ). drop k b) same
drop_over (suc n) (x ∷ a) b =
    let same : n - length a ≡ suc n - suc (length a) = omega arith in
    drop_over n a b ∙ ap (λ (k : ℕ). drop n a ++ drop k b) same

-- what is left of four lists, of which the second is behind, and the third reaches beyond
left_of_four : (head before own rest : List ℕ) (n from : ℕ) → from ≡ length head + length before → length before ≤ n - length head → n - from ≤ length own
    → drop n (head ++ (before ++ (own ++ rest))) ≡ (drop n head ++ drop (n - from) own) ++ rest
left_of_four head before own rest n from is low high =
    let k = n - length head in
    let up : k - length before ≡ n - from = omega (arith, is) in
    drop_over n head (before ++ (own ++ rest))
    ∙ ap (λ (t : List ℕ). drop n head ++ t) (drop_over k before (own ++ rest))
    ∙ ap (λ (t : List ℕ). drop n head ++ (t ++ drop (k - length before) (own ++ rest))) (drop_all k before low)
    ∙ ap (λ (j : ℕ). drop n head ++ drop j (own ++ rest)) up
    ∙ ap (λ (t : List ℕ). drop n head ++ t) (drop-append-le (n - from) own rest high)
    ∙ sym (append_assoc (drop n head) (drop (n - from) own) rest)

-- the third of four lists begins where the first two end
third_of_four : (head before behind : List ℕ) (from : ℕ) → from ≡ length head + length before → drop from (head ++ (before ++ behind)) ≡ behind
third_of_four head before behind from is =
    let long : length (head ++ before) ≡ from = omega (arith, length-append head before, is) in
    ap (drop from) (sym (append_assoc head before behind)) ∙ drop_at (head ++ before) behind from long

-- whether a list begins with one that is no longer than its front
begins : (front behind needle : List ℕ) → length needle ≤ length front → starts_with nat_eq (front ++ behind) needle ≡ starts_with nat_eq front needle
begins front behind needle short = ap (pointwise nat_eq needle) (take-append-le (length needle) front behind short)

-- the same two tests of the same lists
pub same_tests : (front head head' own own' tail tail' : List ℕ) → head ≡ head' → own ≡ own' → tail ≡ tail'
    → (starts_with nat_eq head (take 5 front) && starts_with nat_eq own tail) ≡ (starts_with nat_eq head' (take 5 front) && starts_with nat_eq own' tail')
same_tests front head head' own own' tail tail' e f g =
    ap₂ (λ (a b : Bool). a && b) (ap (λ (h : List ℕ). starts_with nat_eq h (take 5 front)) e) (ap₂ (λ (o t : List ℕ). starts_with nat_eq o t) f g)

-- ---- where an enrolment begins

-- which sets are made anew, of so many bytes
pub record Touched (n sets first touched : ℕ) : Type 0 where
  pub within : first + touched ≤ sets
  pub low : 32 * first ≤ n - 5
  pub high : n - (5 + 32 * first) ≤ 32 * touched

pub are_touched : (n sets first touched : ℕ) → n ≤ 5 + 32 * sets → first ≡ (n - 5) / 32 - 1 → touched ≡ (n - (5 + 32 * first) + 31) / 32 → Touched n sets first touched
are_touched n sets first touched short is_first is_touched = record {
  within = omega (arith, short, is_first, is_touched);
  low = omega (arith, is_first);
  high = omega (arith, is_touched);
}

-- The parts of a file of roots: its head, the roots before the last whole one of its front, those of the sets
-- that are made anew, and those behind them.
module _ (secret : List ℕ) (height : TreeHeight) (levels : ℕ) (front : List ℕ) (first touched : ℕ) where
  abbrev head : List ℕ
  head = head_spelling (record { height = height; levels = levels })

  abbrev own : List ℕ
  own = roots_from (state_after secret first) height touched

  abbrev rest : List ℕ
  rest = roots_from (state_after (state_after secret first) touched) height (2 ^ levels - (first + touched))

  abbrev before : List ℕ
  before = roots_from secret height first

  file_in_parts : first + touched ≤ 2 ^ levels → file_from secret height levels ≡ head ++ (before ++ (own ++ rest))
  unfolding roots_from
  file_in_parts within = ap (λ (t : List ℕ). head ++ t) (roots_in_parts secret height first touched (2 ^ levels) within)

  pub length_of_file : length head ≡ 5 → length (file_from secret height levels) ≡ 5 + 32 * 2 ^ levels
  unfolding roots_from
  length_of_file long =
      omega (arith, length-append head (roots_from secret height (2 ^ levels)), long, length-roots_from secret height (2 ^ levels))

  -- the root of the first set that is made anew begins behind the head and the roots before
  own_begins : length head ≡ 5 → place_of first ≡ length head + length before
  own_begins long = omega (arith, long, length-roots_from secret height first)

  -- what is missing
  pub missing_is : Touched (length front) (2 ^ levels) first touched → length head ≡ 5
      → drop (length front) (file_from secret height levels) ≡ (drop (length front) head ++ drop (length front - place_of first) own) ++ rest
  missing_is t long =
      let n = length front in
      let low : length before ≤ n - length head = omega (arith, long, t.low, length-roots_from secret height first) in
      let high : n - place_of first ≤ length own = omega (arith, t.high, length-roots_from (state_after secret first) height touched) in
      ap (drop n) (file_in_parts t.within) ∙ left_of_four head before own rest n (place_of first) (own_begins long) low high

  -- whether the file goes on behind its front, by the front's head and what the front has of the sets that are
  -- made anew
  pub goes_on_is : Touched (length front) (2 ^ levels) first touched → length head ≡ 5 → length front ≤ 5 + 32 * 2 ^ levels → first ≡ last_set (length front)
      → goes_on front (file_from secret height levels) ≡ (starts_with nat_eq head (take 5 front) && starts_with nat_eq own (drop (place_of first) front))
  unfolding goes_on
  goes_on_is t long short is_first =
      let n = length front in
      let file = file_from secret height levels in
      let parts : file ≡ head ++ (before ++ (own ++ rest)) = file_in_parts t.within in
      let fits : nat_le n (length file) ≡ true = le-leb _ _ (omega (arith, short, length_of_file long)) in
      let of_head : starts_with nat_eq file (take 5 front) ≡ starts_with nat_eq head (take 5 front)
      = ap (λ (f : List ℕ). starts_with nat_eq f (take 5 front)) parts
      ∙ begins head (before ++ (own ++ rest)) (take 5 front) (omega (arith, length-take 5 front, long)) in
      let behind : drop (place_of first) file ≡ own ++ rest
      = ap (drop (place_of first)) parts ∙ third_of_four head before (own ++ rest) (place_of first) (own_begins long) in
      let of_own : starts_with nat_eq (drop (place_of first) file) (drop (place_of first) front) ≡ starts_with nat_eq own (drop (place_of first) front)
      = ap (λ (f : List ℕ). starts_with nat_eq f (drop (place_of first) front)) behind
      ∙ begins own rest (drop (place_of first) front) (omega (arith, length-drop (place_of first) front, t.high, length-roots_from (state_after secret first) height touched)) in
      ap (λ (k : ℕ). nat_le n (length file) && (starts_with nat_eq file (take 5 front) && starts_with nat_eq (drop (place_of k) file) (drop (place_of k) front))) (sym is_first)
      ∙ ap (λ (b : Bool). b && (starts_with nat_eq file (take 5 front) && starts_with nat_eq (drop (place_of first) file) (drop (place_of first) front))) fits
      ∙ ap₂ (λ (a b : Bool). a && b) of_head of_own

-- a file does not go on behind more bytes than it has
pub too_long : (front file : List ℕ) → length file < length front → goes_on front file ≡ false
unfolding goes_on
too_long front file long = and_left _ _ (lt-leb (length front) (length file) long)
