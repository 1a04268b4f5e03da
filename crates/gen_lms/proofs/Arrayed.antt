-- Nodes that stand in an array.
use Rattle.std.proofs.Common.{◌≡◌, ◌≤◌, ◌<◌, inl, inr, ℕ, zero, suc, ◌+◌, ◌-◌, ◌*◌, ◌^◌, List, [], ◌∷◌, ◌++◌, length, slice_index_or, length-append, refl, ap, ◌∙◌, arith}
use Rattle.std.proofs.lemmas.Bool.Decides.{eqb_tells}
use Rattle.std.proofs.lemmas.List.{get_or_push, get_or_append_left}
use Rattle.gen_lms.specs.Loops.Nodes.{AreInner}
use Rattle.gen_lms.specs.Tree.{inner, node_over}
use Rattle.gen_lms.proofs.Numbers.{child-first, child-last, number-room}

-- a node whose number is a leaf's is the leaf
pub is_leaf : (identifier : List ℕ) (leaves : List (List ℕ)) (level r : ℕ) → length leaves ≤ r → (r + 1) * 2 ^ level ≤ 2 * length leaves
    → slice_index_or leaves (r - length leaves) [] ≡ node_over identifier leaves (length leaves) level r
unfolding node_over
is_leaf identifier leaves zero r above below = refl
is_leaf identifier leaves (suc m) r above below =
    let e : suc m - 1 ≡ m = omega arith in
    let last = child-last r (suc m) (2 * length leaves) (λ z. absurd (let f : suc m ≡ 0 → ⊥ = λ q. omega (arith, q) in f z)) below in
    let told : (2 * r + 1 + 1) * 2 ^ m ≤ 2 * length leaves = rw e at last in
    let few = number-room (2 * r + 1) m (2 * length leaves) told in
    absurd (omega (arith, few, above))

-- a node that is no leaf stands in the array
pub is_inner : (identifier : List ℕ) (leaves nodes : List (List ℕ)) → AreInner identifier leaves nodes → (level r : ℕ) → r < length leaves → length leaves ≤ r * 2 ^ level
    → (r + 1) * 2 ^ level ≤ 2 * length leaves → length leaves ≤ r + length nodes
    → slice_index_or nodes (length leaves - 1 - r) [] ≡ node_over identifier leaves (length leaves) level r
unfolding AreInner
is_inner identifier leaves nodes are zero r below first last stands = absurd (omega (arith, below, first))
is_inner identifier leaves nodes are (suc m) r below first last stands = are (suc m) r (omega arith) first last stands

-- none stand in an empty array
pub none_inner : (identifier : List ℕ) (leaves nodes : List (List ℕ)) → nodes ≡ [] → AreInner identifier leaves nodes
unfolding AreInner
none_inner identifier leaves nodes empty zero r some first last stands = absurd (omega (arith, some))
none_inner identifier leaves nodes empty (suc m) r some first last stands =
    let none : length nodes ≡ 0 = ap length empty in
    let few = number-room r (suc m) (2 * length leaves) last in
    let e : suc m - 1 ≡ m = omega arith in
    let lower = child-last r (suc m) (2 * length leaves) (λ z. absurd (let f : suc m ≡ 0 → ⊥ = λ q. omega (arith, q) in f z)) last in
    let told : (2 * r + 1 + 1) * 2 ^ m ≤ 2 * length leaves = rw e at lower in
    let room = number-room (2 * r + 1) m (2 * length leaves) told in
    absurd (omega (arith, none, stands, room))

-- the node above two others
over_two : (identifier : List ℕ) (leaves : List (List ℕ)) (m r : ℕ) (left right : List ℕ)
    → left ≡ node_over identifier leaves (length leaves) m (2 * r) → right ≡ node_over identifier leaves (length leaves) m (2 * r + 1)
    → inner identifier r left right ≡ node_over identifier leaves (length leaves) (suc m) r
unfolding node_over
over_two identifier leaves m r left right l s = rw (l, s) refl

-- one node more
pub one_more : (identifier : List ℕ) (leaves nodes : List (List ℕ)) (r : ℕ) (left right v : List ℕ) → AreInner identifier leaves nodes → length nodes + 1 + r ≡ length leaves
    → ((level : ℕ) → length leaves ≤ 2 * r * 2 ^ level → (2 * r + 1) * 2 ^ level ≤ 2 * length leaves → left ≡ node_over identifier leaves (length leaves) level (2 * r))
    → ((level : ℕ) → length leaves ≤ (2 * r + 1) * 2 ^ level → (2 * r + 1 + 1) * 2 ^ level ≤ 2 * length leaves → right ≡ node_over identifier leaves (length leaves) level (2 * r + 1))
    → v ≡ inner identifier r left right → AreInner identifier leaves (nodes ++ v ∷ [])
unfolding AreInner
one_more identifier leaves nodes r left right v are place lefts rights is zero k some first last stands = absurd (omega (arith, some))
one_more identifier leaves nodes r left right v are place lefts rights is (suc m) k some first last stands = elim (eqb_tells k r) [
  | inl same ↦
      let here : k ≡ r = same.1 in
      let e : suc m - 1 ≡ m = omega arith in
      let positive : suc m ≡ 0 → ⊥ = λ q. omega (arith, q) in
      let low : length leaves ≤ 2 * r * 2 ^ m = rw (e, here) at (child-first k (suc m) (length leaves) positive first) in
      let high : (2 * r + 1 + 1) * 2 ^ m ≤ 2 * length leaves = rw (e, here) at (child-last k (suc m) (2 * length leaves) positive last) in
      let l = lefts m low (omega (arith, high)) in
      let s = rights m (omega (arith, low)) high in
      let at : length leaves - 1 - r ≡ length nodes = omega (arith, place) in
      rw (here, at) (get_or_push nodes v [] (length nodes) refl ∙ is ∙ over_two identifier leaves m r left right l s)
  | inr other ↦
      let few = number-room (2 * k + 1) m (2 * length leaves) (let e : suc m - 1 ≡ m = omega arith in rw e at (child-last k (suc m) (2 * length leaves) (λ q. absurd (omega (arith, q))) last)) in
      let long : length (nodes ++ v ∷ []) ≡ length nodes + 1 = length-append nodes (v ∷ []) in
      let after : r < k = omega (arith, other.1, place, stands, long) in
      get_or_append_left nodes (v ∷ []) [] (length leaves - 1 - k) (omega (arith, place, after, few))
      ∙ are (suc m) k some first last (omega (arith, place, after))
]

-- both factors of a product that is not zero
pub some_factor : (a b c : ℕ) → 0 < c → c ≤ a * b → 0 < a
some_factor zero b c positive h = absurd (omega (arith, positive, h))
some_factor (suc a) b c positive h = omega arith
