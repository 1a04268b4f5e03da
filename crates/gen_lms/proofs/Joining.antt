-- Two paths from one leaf to one root.
use Rattle.std.proofs.Common.{◌≡◌, ◌<◌, ◌==◌, ◌⊎◌, inl, inr, ℕ, zero, suc, ◌/◌, ◌%◌, ◌^◌, Bool, true, false, if◌then◌else◌, List, ◌++◌, length, take, drop, refl, sym, ap, ◌∙◌, arith}
use Rattle.std.proofs.lemmas.List.{take_at, drop_at, append_cancel_left}
use Rattle.sha2.proofs.Facts256.{length-sha256}
use Rattle.gen_lmots.specs.Strings.{u16str, u32str}
use Rattle.gen_lms.specs.Forging.{NodesCollide, leaf_text, node_text}
use Rattle.gen_lms.specs.Tree.{above, d_intr, d_leaf, inner, leaf, led, path_at}
use Rattle.gen_lms.proofs.Climbing.{led-suc, led-zero}
use Rattle.gen_lms.proofs.Meeting.{same_or_not}

-- the two nodes of a text
node_texts_tell : (identifier : List ℕ) (r : ℕ) (a b c d : List ℕ) → node_text identifier r a b ≡ node_text identifier r c d → a ++ b ≡ c ++ d
node_texts_tell identifier r a b c d same =
    append_cancel_left (u16str d_intr) (a ++ b) (c ++ d) (append_cancel_left (u32str r) (u16str d_intr ++ (a ++ b)) (u16str d_intr ++ (c ++ d)) (append_cancel_left identifier (u32str r ++ (u16str d_intr ++ (a ++ b))) (u32str r ++ (u16str d_intr ++ (c ++ d))) same))

left_of : (a b c d : List ℕ) → length a ≡ 32 → length c ≡ 32 → a ++ b ≡ c ++ d → a ≡ c
left_of a b c d la lc same = sym (take_at a b 32 la) ∙ ap (take 32) same ∙ take_at c d 32 lc

pub right_of : (a b c d : List ℕ) → length a ≡ 32 → length c ≡ 32 → a ++ b ≡ c ++ d → b ≡ d
right_of a b c d la lc same = sym (drop_at a b 32 la) ∙ ap (drop 32) same ∙ drop_at c d 32 lc

-- two nodes that are one are over the same nodes, or two texts collide
lefts_meet : (identifier : List ℕ) (r : ℕ) (a b c d : List ℕ) → length a ≡ 32 → length c ≡ 32 → inner identifier r a b ≡ inner identifier r c d → (a ≡ c) ⊎ NodesCollide identifier
lefts_meet identifier r a b c d la lc same = elim (same_or_not a c) [
  | inl e ↦ inl e
  | inr differ ↦ inr (inl (r, a, b, c, d, ((λ e. differ (left_of a b c d la lc (node_texts_tell identifier r a b c d e))), same)))
]

rights_meet : (identifier : List ℕ) (r : ℕ) (a b c d : List ℕ) → length a ≡ 32 → length c ≡ 32 → inner identifier r a b ≡ inner identifier r c d → (b ≡ d) ⊎ NodesCollide identifier
rights_meet identifier r a b c d la lc same = elim (same_or_not b d) [
  | inl e ↦ inl e
  | inr differ ↦ inr (inl (r, a, b, c, d, ((λ e. differ (right_of a b c d la lc (node_texts_tell identifier r a b c d e))), same)))
]

-- a node and its sibling, each on its side
on_sides : Bool → List ℕ → ℕ → List ℕ → List ℕ → List ℕ
on_sides even identifier r value sibling =
    if even then inner identifier r value sibling else inner identifier r sibling value

length-on_sides : (even : Bool) (identifier : List ℕ) (r : ℕ) (value sibling : List ℕ) → length (on_sides even identifier r value sibling) ≡ 32
unfolding on_sides
length-on_sides true identifier r value sibling = length-sha256 _
length-on_sides false identifier r value sibling = length-sha256 _

sides_meet : (even : Bool) (identifier : List ℕ) (r : ℕ) (v s w t : List ℕ) → length v ≡ 32 → length w ≡ 32 → length s ≡ 32 → length t ≡ 32
    → on_sides even identifier r v s ≡ on_sides even identifier r w t → (v ≡ w) ⊎ NodesCollide identifier
unfolding on_sides
sides_meet true identifier r v s w t lv lw ls lt same = lefts_meet identifier r v s w t lv lw same
sides_meet false identifier r v s w t lv lw ls lt same = rights_meet identifier r s v t w ls lt same

above-sides : (identifier : List ℕ) (r : ℕ) (value sibling : List ℕ) → above identifier r value sibling ≡ on_sides (r % 2 == 0) identifier (r / 2) value sibling
unfolding on_sides
above-sides identifier r value sibling = refl

length-led : (identifier : List ℕ) (r : ℕ) (value path : List ℕ) (n : ℕ) → length value ≡ 32 → length (led identifier r value path n) ≡ 32
length-led identifier r value path zero e = ap length (led-zero identifier r value path) ∙ e
length-led identifier r value path (suc n) e =
    let j = r / 2 ^ n in
    let before = led identifier r value path n in
    ap length (led-suc identifier r value path n ∙ above-sides identifier j before (path_at path n))
    ∙ length-on_sides (j % 2 == 0) identifier (j / 2) before (path_at path n)

-- two values that lead to one node by two paths are one, or two texts collide
pub paths_meet : (identifier : List ℕ) (r : ℕ) (v path w other : List ℕ) (n : ℕ) → length v ≡ 32 → length w ≡ 32
    → ((i : ℕ) → i < n → length (path_at path i) ≡ 32) → ((i : ℕ) → i < n → length (path_at other i) ≡ 32)
    → led identifier r v path n ≡ led identifier r w other n → (v ≡ w) ⊎ NodesCollide identifier
paths_meet identifier r v path w other zero lv lw lp lo same = inl (sym (led-zero identifier r v path) ∙ same ∙ led-zero identifier r w other)
paths_meet identifier r v path w other (suc n) lv lw lp lo same =
    let j = r / 2 ^ n in
    let a = led identifier r v path n in
    let b = led identifier r w other n in
    let ours = led-suc identifier r v path n ∙ above-sides identifier j a (path_at path n) in
    let theirs = led-suc identifier r w other n ∙ above-sides identifier j b (path_at other n) in
    let met = sides_meet (j % 2 == 0) identifier (j / 2) a (path_at path n) b (path_at other n)
    (length-led identifier r v path n lv) (length-led identifier r w other n lw) (lp n (omega arith)) (lo n (omega arith)) (sym ours ∙ same ∙ theirs) in
    elim met [
      | inr collide ↦ inr collide
      | inl e ↦ paths_meet identifier r v path w other n lv lw (λ i h. lp i (omega arith)) (λ i h. lo i (omega arith)) e
    ]

-- two keys of one leaf
pub leaves_meet : (identifier : List ℕ) (r : ℕ) (key other : List ℕ) → leaf identifier r key ≡ leaf identifier r other → (key ≡ other) ⊎ NodesCollide identifier
leaves_meet identifier r key other same = elim (same_or_not key other) [
  | inl e ↦ inl e
  | inr differ ↦
      let apart : leaf_text identifier r key ≡ leaf_text identifier r other → ⊥ = λ e.
      differ (append_cancel_left (u16str d_leaf) key other (append_cancel_left (u32str r) (u16str d_leaf ++ key) (u16str d_leaf ++ other) (append_cancel_left identifier (u32str r ++ (u16str d_leaf ++ key)) (u32str r ++ (u16str d_leaf ++ other)) e))) in
      inr (inr (r, key, other, (apart, same)))
]
