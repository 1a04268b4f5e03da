-- Roots that are made piece by piece.
use Rattle.std.proofs.Common.{◌≡◌, ℕ, zero, suc, ◌+◌, List, [], ◌∷◌, ◌++◌, length, map, refl, sym, ap, add-one, ◌∙◌, append_assoc, arith}
use Rattle.std.proofs.lemmas.List.{append-nil, length_push, map-append}
use Rattle.gen_types.specs.declared.heights.TreeHeight.{TreeHeight}
use Rattle.gen_tree.specs.Rings.{ring_root}
use Rattle.gen_identity.specs.States.{set_seed, state_after, seed_after}
use Rattle.gen_identity.specs.Sets.{set_roots}
use Rattle.gen_identity.proofs.Steps.{steps_add}
use Rattle.gen_enroll.specs.Loops.{set_states}

-- the roots of m + n sets, in two pieces
pub roots_join : (state : List ℕ) (height : TreeHeight) (m n : ℕ) → set_roots state height (m + n) ≡ set_roots state height m ++ set_roots (state_after state m) height n
unfolding set_roots
roots_join state height m zero =
    let none : m + 0 ≡ m = omega arith in
    ap (set_roots state height) none ∙ sym (append-nil (set_roots state height m))
roots_join state height m (suc n) =
    let up : m + suc n ≡ suc (m + n) = omega arith in
    let front = set_roots state height m in
    let behind = set_roots (state_after state m) height n in
    let last : ring_root (seed_after (state_after state m) n) height ≡ ring_root (seed_after state (m + n)) height
    = ap (λ (s : List ℕ). ring_root (set_seed s) height) (steps_add state m n) in
    ap (set_roots state height) up
    ∙ ap (λ (t : List (List ℕ)). t ++ ring_root (seed_after state (m + n)) height ∷ []) (roots_join state height m n)
    ∙ append_assoc front behind (ring_root (seed_after state (m + n)) height ∷ [])
    ∙ ap (λ (r : List ℕ). front ++ (behind ++ r ∷ [])) (sym last)

-- how many roots some sets have
pub length-set_roots : (state : List ℕ) (height : TreeHeight) (n : ℕ) → length (set_roots state height n) ≡ n
unfolding set_roots
length-set_roots state height zero = refl
length-set_roots state height (suc n) =
    length_push (set_roots state height n) (ring_root (seed_after state n) height) ∙ ap (λ (k : ℕ). k + 1) (length-set_roots state height n) ∙ add-one n

-- the roots of the sets of some states
pub roots_of_states : (state : List ℕ) (height : TreeHeight) (n : ℕ) → map (λ (s : List ℕ). ring_root (set_seed s) height) (set_states state n) ≡ set_roots state height n
unfolding set_roots set_states
roots_of_states state height zero = refl
roots_of_states state height (suc n) =
    map-append (λ (s : List ℕ). ring_root (set_seed s) height) (set_states state n) (state_after state n ∷ [])
    ∙ ap (λ (roots : List (List ℕ)). roots ++ ring_root (seed_after state n) height ∷ []) (roots_of_states state height n)

-- the states of no sets, and of one set more
pub no_states : (state : List ℕ) → set_states state 0 ≡ []
unfolding set_states
no_states state = refl

pub set_states-more : (state : List ℕ) (n : ℕ) → set_states state (n + 1) ≡ set_states state n ++ state_after state n ∷ []
unfolding set_states
set_states-more state n = ap (set_states state) (add-one n)

-- what roots are after those of one turn more
pub grown_by_turn : (state next : List ℕ) (height : TreeHeight) (done turn whole : ℕ) (old new : List (List ℕ)) → done + turn ≡ whole → next ≡ state_after state done → old ≡ set_roots state height done → new ≡ old ++ set_roots next height turn
    → new ≡ set_roots state height whole
grown_by_turn state next height done turn whole old new up from before more =
    let joined = roots_join state height done turn in
    rw (more, before, from, ← joined, up) refl
