-- The leaves of a tree of a seed, and the roots to which their signatures lead.
use Rattle.std.proofs.Common.{◌≡◌, ◌≤◌, ◌<◌, inl, inr, ℕ, zero, suc, ◌+◌, ◌-◌, ◌*◌, ◌/◌, ◌^◌, List, [], ◌∷◌, ◌++◌, length, take, drop, slice_index_or, refl, sym, ap, ◌∙◌, append_assoc, length-append, arith}
use Rattle.std.proofs.lemmas.Bool.Decides.{eqb_tells}
use Rattle.std.proofs.lemmas.List.{take_at, drop_at, append-nil, get_or_push, get_or_append_left}
use Rattle.std.proofs.lemmas.Nat.{div-mul-add, from_be_bytes-to_be_bytes_4}
use Rattle.sha2.proofs.Facts256.{length-sha256}
use Rattle.gen_lmots.specs.declared.places.KeyPlace.{KeyPlace}
use Rattle.gen_lmots.specs.Chains.{message_hash}
use Rattle.gen_lmots.specs.Keys.{public_key}
use Rattle.gen_lmots.specs.Signatures.{candidate, shown, signature_of}
use Rattle.gen_lmots.specs.Strings.{hash_length, ots_length, type_code, u32str}
use Rattle.gen_lmots.proofs.Walked.{candidate-signature_of, length-shown}
use Rattle.gen_lms.specs.declared.heights.LmsHeight.{LmsHeight}
use Rattle.gen_lms.specs.declared.heights.LmsHeight.TheVariants.{Five, Ten, Fifteen, Twenty, TwentyFive}
use Rattle.gen_lms.specs.Heights.{levels_of, leaves_of, tree_code}
use Rattle.gen_lms.specs.PublicKeys.{u32_of}
use Rattle.gen_lms.specs.Rings.{LeafName, TreeName, leaves_up_to, place_of, public_key_of, tree_leaves, tree_path, tree_root, tree_signature}
use Rattle.gen_lms.specs.Signatures.{Verifies, behind_one_time, implied_root, number_in, one_time_in, path_in, root_over}
use Rattle.gen_lms.specs.Tree.{leaf, led, node_over}
use Rattle.gen_lms.proofs.Climbing.{AreLeaves, led-path, length-path_over}
use Rattle.gen_lms.proofs.Numbers.{even_leaves, few_leaves, half_of}

-- ---- leaves

-- the leaf with the number q
abbrev pub leaf_at : TreeName → ℕ → List ℕ
leaf_at tree q = leaf tree.identifier (leaves_of tree.height + q) (public_key tree.seed (place_of tree q))

pub leaves-suc : (tree : TreeName) (n : ℕ) → leaves_up_to tree (suc n) ≡ leaves_up_to tree n ++ leaf_at tree n ∷ []
unfolding leaves_up_to
leaves-suc tree n = refl

pub leaves-zero : (tree : TreeName) → leaves_up_to tree 0 ≡ []
unfolding leaves_up_to
leaves-zero tree = refl

pub length-leaves_up_to : (tree : TreeName) (n : ℕ) → length (leaves_up_to tree n) ≡ n
length-leaves_up_to tree zero = ap length (leaves-zero tree)
length-leaves_up_to tree (suc n) =
    let ih = length-leaves_up_to tree n in
    rw (leaves-suc tree n) (omega (arith, ih, length-append (leaves_up_to tree n) (leaf_at tree n ∷ [])))

pub get-leaves_up_to : (tree : TreeName) (n i : ℕ) → i < n → slice_index_or (leaves_up_to tree n) i [] ≡ leaf_at tree i
get-leaves_up_to tree zero i h = absurd (omega arith)
get-leaves_up_to tree (suc n) i h =
    let before = leaves_up_to tree n in
    let last = leaf_at tree n in
    let len = length-leaves_up_to tree n in
    let one : slice_index_or (before ++ last ∷ []) i [] ≡ leaf_at tree i = elim (eqb_tells i n) [
      | inl p ↦ rw p.1 (get_or_push before last [] n len)
      | inr p ↦ get_or_append_left before (last ∷ []) [] i (omega (arith, len, p.1)) ∙ get-leaves_up_to tree n i (omega (arith, p.1))
    ] in
    ap (λ (xs : List (List ℕ)). slice_index_or xs i []) (leaves-suc tree n) ∙ one

pub are_leaves : (tree : TreeName) → AreLeaves (tree_leaves tree) (half_of tree.height)
are_leaves tree =
    let count = leaves_of tree.height in record {
      count = length-leaves_up_to tree count ∙ even_leaves tree.height;
      width = λ j h. rw (get-leaves_up_to tree count j (rw (even_leaves tree.height) h)) (length-sha256 _);
    }

-- ---- the path of a leaf

pub length-tree_path : (tree : TreeName) (q : ℕ) → q < leaves_of tree.height → length (tree_path tree q) ≡ hash_length * levels_of tree.height
length-tree_path tree q lt =
    let even = even_leaves tree.height in
    let half = half_of tree.height in
    let r = leaves_of tree.height + q in
    let first : 2 * half ≤ r = omega (arith, even) in
    let last : r < 2 * (2 * half) = omega (arith, even, lt) in
    rw (sym even) at (length-path_over tree.identifier (tree_leaves tree) half (are_leaves tree) r (levels_of tree.height) first last)

top-number : (q levels : ℕ) → q < 2 ^ levels → (2 ^ levels + q) / 2 ^ levels ≡ 1
top-number q levels lt =
    let e : 2 ^ levels + q ≡ 1 * 2 ^ levels + q = omega arith in
    rw e (div-mul-add 1 (2 ^ levels) q lt)

-- the key of a leaf and its path lead to the root
pub leads-up : (tree : TreeName) (q : ℕ) → q < leaves_of tree.height
    → root_over tree.identifier tree.height q (public_key tree.seed (place_of tree q)) (tree_path tree q) ≡ tree_root tree
unfolding tree_root
leads-up tree q lt =
    let even = even_leaves tree.height in
    let half = half_of tree.height in
    let levels = levels_of tree.height in
    let count = leaves_of tree.height in
    let leaves = tree_leaves tree in
    let r = count + q in
    let first : 2 * half ≤ r = omega (arith, even) in
    let last : r < 2 * (2 * half) = omega (arith, even, lt) in
    let index : r - count ≡ q = omega arith in
    let value : leaf_at tree q ≡ slice_index_or leaves (r - count) [] = rw index (sym (get-leaves_up_to tree count q lt)) in
    let fold : led tree.identifier r (slice_index_or leaves (r - count) []) (tree_path tree q ++ []) levels ≡ node_over tree.identifier leaves count levels (r / 2 ^ levels)
    = rw (sym even) at (led-path tree.identifier leaves half (are_leaves tree) r first last levels []) in
    ap (λ (v : List ℕ). led tree.identifier r v (tree_path tree q) levels) value
    ∙ ap (λ (p : List ℕ). led tree.identifier r (slice_index_or leaves (r - count) []) p levels) (sym (append-nil (tree_path tree q)))
    ∙ fold ∙ ap (node_over tree.identifier leaves count levels) (top-number q levels lt)

-- ---- signatures

pub length-signature_of : (seed : List ℕ) (place : KeyPlace) (randomizer message : List ℕ) → length randomizer ≡ hash_length
    → length (signature_of seed place randomizer message) ≡ ots_length
unfolding signature_of
length-signature_of seed place randomizer message e =
    let values = shown seed place (message_hash place randomizer message) 67 in
    omega (arith, length-append (u32str type_code) (randomizer ++ values), length-append randomizer values, e, length-shown seed place (message_hash place randomizer message) 67)

-- the type code with which a one-time signature begins
front-signature_of : (seed : List ℕ) (place : KeyPlace) (randomizer message : List ℕ) → take 4 (signature_of seed place randomizer message) ≡ u32str type_code
unfolding signature_of
front-signature_of seed place randomizer message = refl

-- the parts of a signature
pub record HasParts (s number one_time code path : List ℕ) : Type 0 where
  pub number_is : take 4 s ≡ number
  pub one_time_is : one_time_in s ≡ one_time
  pub code_is : take 4 (behind_one_time s) ≡ code
  pub path_is : path_in s ≡ path

pub has_parts : (number one_time code path : List ℕ) → length number ≡ 4 → length one_time ≡ ots_length → length code ≡ 4
    → HasParts (number ++ (one_time ++ (code ++ path))) number one_time code path
has_parts number one_time code path ln lo lc =
    let behind : drop 4 (number ++ (one_time ++ (code ++ path))) ≡ one_time ++ (code ++ path) = drop_at number (one_time ++ (code ++ path)) 4 ln in
    let back : drop ots_length (drop 4 (number ++ (one_time ++ (code ++ path)))) ≡ code ++ path = ap (drop ots_length) behind ∙ drop_at one_time (code ++ path) ots_length lo in record {
      number_is = take_at number (one_time ++ (code ++ path)) 4 ln;
      one_time_is = ap (take ots_length) behind ∙ take_at one_time (code ++ path) ots_length lo;
      code_is = ap (take 4) back ∙ take_at code path 4 lc;
      path_is = ap (drop 4) back ∙ drop_at code path 4 lc;
    }

few_codes : (height : LmsHeight) → tree_code height < 2 ^ 32
few_codes Five = omega arith
few_codes Ten = omega arith
few_codes Fifteen = omega arith
few_codes Twenty = omega arith
few_codes TwentyFive = omega arith

length-parts : (number one_time code path : List ℕ) (levels : ℕ) → length number ≡ 4 → length one_time ≡ ots_length → length code ≡ 4 → length path ≡ hash_length * levels
    → length (number ++ (one_time ++ (code ++ path))) ≡ 8 + ots_length + hash_length * levels
length-parts number one_time code path levels ln lo lc lp =
    omega (arith, length-append number (one_time ++ (code ++ path)), length-append one_time (code ++ path), length-append code path, ln, lo, lc, lp)

-- the signature of a leaf verifies under the public key of its tree
pub signature_verifies : (k : LeafName) (randomizer message : List ℕ) → length randomizer ≡ hash_length → k.number < leaves_of k.tree.height
    → Verifies (public_key_of k.tree) message (tree_signature k randomizer message)
unfolding tree_signature
signature_verifies k randomizer message lr lt =
    let tree = k.tree in
    let q = k.number in
    let place = place_of tree q in
    let number = u32str q in
    let one_time = signature_of tree.seed place randomizer message in
    let code = u32str (tree_code tree.height) in
    let path = tree_path tree q in
    let lo = length-signature_of tree.seed place randomizer message lr in
    let parts = has_parts number one_time code path refl lo refl in
    let s = number ++ (one_time ++ (code ++ path)) in
    let small : q < 2 ^ 32 = omega (arith, lt, few_leaves tree.height) in
    let number_is : number_in s ≡ q = ap u32_of parts.number_is ∙ from_be_bytes-to_be_bytes_4 q small in
    let led_to : implied_root tree.identifier tree.height message s ≡ root_over tree.identifier tree.height q (candidate place one_time message) path
    = rw (number_is, parts.one_time_is, parts.path_is) refl in record {
      whole = length-parts number one_time code path (levels_of tree.height) refl lo refl (length-tree_path tree q lt);
      one_time_type = ap (λ (o : List ℕ). u32_of (take 4 o)) parts.one_time_is ∙ ap u32_of (front-signature_of tree.seed place randomizer message) ∙ from_be_bytes-to_be_bytes_4 3 (omega arith);
      tree_type = ap u32_of parts.code_is ∙ from_be_bytes-to_be_bytes_4 (tree_code tree.height) (few_codes tree.height);
      below = rw number_is lt;
      leads = led_to
          ∙ ap (λ (key : List ℕ). root_over tree.identifier tree.height q key path) (candidate-signature_of tree.seed randomizer message place lr)
          ∙ leads-up tree q lt;
    }

-- the signature of a leaf, by its parts
pub tree_signature-is : (k : LeafName) (randomizer message path : List ℕ) (height : LmsHeight) → height ≡ k.tree.height → path ≡ tree_path k.tree k.number
    → u32str k.number ++ (signature_of k.tree.seed (place_of k.tree k.number) randomizer message ++ (u32str (tree_code height) ++ path)) ≡ tree_signature k randomizer message
unfolding tree_signature
tree_signature-is k randomizer message path height h p = rw (h, p) refl

-- parts that are appended one behind another
pub five_parts : (a b c d e : List ℕ) → (((a ++ b) ++ c) ++ d) ++ e ≡ a ++ (b ++ (c ++ (d ++ e)))
five_parts a b c d e = append_assoc ((a ++ b) ++ c) d e ∙ append_assoc (a ++ b) c (d ++ e) ∙ append_assoc a b (c ++ (d ++ e))
