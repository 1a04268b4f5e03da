-- Ways from the leaves of two roots up to the top of an identity's tree.
use Rattle.std.proofs.Common.{◌≡◌, ◌≢◌, ◌<◌, ◌≤◌, inl, inr, ℕ, zero, suc, ◌+◌, ◌/◌, ◌^◌, List, [], ◌∷◌, length, take, slice_index_or, refl, sym, ap, subst, ◌∙◌, arith, add-one}
use Rattle.std.proofs.Math.Nat.{pow-suc, div-div-eq-div-mul, div-one}
use Rattle.std.proofs.lemmas.Bool.{cases_eq}
use Rattle.gen_identity.specs.Tree.{set_leaf}
use Rattle.gen_identity.specs.Openings.{folded, parent, parent_text}
use Rattle.gen_identity.specs.Colliding.{Way, AreMeetingTexts, node_at, text_above, way_of}
use Rattle.gen_identity.proofs.Folds.{half-up}

-- a fold with one sibling more
folded_more : (node : List ℕ) (i n : ℕ) (siblings : List (List ℕ)) → n < length siblings
    → folded node i (take (suc n) siblings) ≡ parent (folded node i (take n siblings)) (slice_index_or siblings n []) (i / 2 ^ n)
unfolding folded
folded_more node i n [] below = absurd (omega (arith, below))
folded_more node i zero (s ∷ ss) below = ap (parent node s) (sym (div-one i))
folded_more node i (suc n) (s ∷ ss) below =
    folded_more (parent node s i) (i / 2) n ss (omega (arith, below))
    ∙ ap (parent (folded (parent node s i) (i / 2) (take n ss)) (slice_index_or ss n [])) (half-up i n)

pub first_node : (way : Way) → node_at way 0 ≡ set_leaf way.root
unfolding folded
first_node way = refl

pub first_place : (i : ℕ) → i ≡ i / 2 ^ 0
first_place i = sym (div-one i)

pub place_more : (i n place : ℕ) → place ≡ i / 2 ^ n → place / 2 ≡ i / 2 ^ (n + 1)
place_more i n place is = rw (is, add-one n, pow-suc 2 n) (div-div-eq-div-mul i (2 ^ n) 2)

-- the text above a node of a way, and the node above it
pub text_is : (way : Way) (level : ℕ) (node : List ℕ) (place : ℕ) (text : List ℕ) → node ≡ node_at way level → place ≡ way.index / 2 ^ level
    → text ≡ parent_text node (slice_index_or way.siblings level []) place → text ≡ text_above way level
text_is way level node place text is at told =
    told ∙ ap (λ (x : List ℕ). parent_text x (slice_index_or way.siblings level []) place) is
    ∙ ap (parent_text (node_at way level) (slice_index_or way.siblings level [])) at

pub node_more : (way : Way) (level : ℕ) (node : List ℕ) (place : ℕ) (above : List ℕ) → level < length way.siblings → node ≡ node_at way level → place ≡ way.index / 2 ^ level
    → above ≡ parent node (slice_index_or way.siblings level []) place → above ≡ node_at way (level + 1)
node_more way level node place above below is at told =
    told ∙ ap (λ (x : List ℕ). parent x (slice_index_or way.siblings level []) place) is
    ∙ ap (parent (node_at way level) (slice_index_or way.siblings level [])) at
    ∙ sym (folded_more (set_leaf way.root) way.index level way.siblings below)
    ∙ ap (node_at way) (sym (add-one level))

-- two ways that are apart up to a level
pub apart_first : (way other : Way) → node_at way 0 ≢ node_at other 0 → (below : ℕ) → below ≤ 0 → node_at way below ≢ node_at other below
apart_first way other here below most =
    let e : below ≡ 0 = omega (arith, most) in
    subst (λ (n : ℕ). node_at way n ≢ node_at other n) (sym e) here

pub apart_more : (way other : Way) (level : ℕ) → ((below : ℕ) → below ≤ level → node_at way below ≢ node_at other below) → node_at way (level + 1) ≢ node_at other (level + 1)
    → (below : ℕ) → below ≤ level + 1 → node_at way below ≢ node_at other below
apart_more way other level before here below most = elim (cases_eq below (level + 1)) [
  | inl e ↦ subst (λ (n : ℕ). node_at way n ≢ node_at other n) (sym e) here
  | inr ne ↦ before below (omega (arith, most, ne))
]

-- the same of equal openings
pub same_ways : (index : ℕ) (root other : List ℕ) (s t u v : List (List ℕ)) (a b : List ℕ) → s ≡ t → u ≡ v
    → AreMeetingTexts (way_of index root s) (way_of index other u) a b → AreMeetingTexts (way_of index root t) (way_of index other v) a b
same_ways index root other s t u v a b e f are =
    subst (λ (x : List (List ℕ)). AreMeetingTexts (way_of index root t) (way_of index other x) a b) f
    (subst (λ (x : List (List ℕ)). AreMeetingTexts (way_of index root x) (way_of index other u) a b) e are)
