-- Nodes, paths, and the roots to which paths lead.
use Rattle.std.proofs.Common.{◌≡◌, ◌≤◌, ◌<◌, ◌==◌, ◌≢◌, inl, inr, ℕ, zero, suc, ◌+◌, ◌-◌, ◌*◌, ◌/◌, ◌%◌, ◌^◌, true, false, List, [], ◌++◌, length, slice_index_or, refl, ap, ◌∙◌, add-one, append_assoc, length-append, arith}
use Rattle.std.proofs.lemmas.List.{take_at, drop_at}
use Rattle.std.proofs.Math.Nat.{pow-suc, div-div-eq-div-mul, div-one}
use Rattle.std.proofs.lemmas.Bool.Decides.{eqb_tells}
use Rattle.sha2.proofs.Facts256.{length-sha256}
use Rattle.gen_lmots.specs.Strings.{hash_length}
use Rattle.gen_lms.specs.Tree.{above, beside, inner, led, node_over, path_at, path_over}
use Rattle.gen_lms.proofs.Numbers.{beside-below, beside-above}

-- ---- nodes

pub node_over-down : (identifier : List ℕ) (leaves : List (List ℕ)) (count level r : ℕ) → (level ≡ 0 → ⊥)
    → node_over identifier leaves count level r
    ≡ inner identifier r (node_over identifier leaves count (level - 1) (2 * r)) (node_over identifier leaves count (level - 1) (2 * r + 1))
unfolding node_over
node_over-down identifier leaves count zero r n = absurd (n refl)
node_over-down identifier leaves count (suc m) r n =
    let e : suc m - 1 ≡ m = omega arith in
    rw e refl

pub node_over-zero : (identifier : List ℕ) (leaves : List (List ℕ)) (count level r : ℕ) → level ≡ 0
    → node_over identifier leaves count level r ≡ slice_index_or leaves (r - count) []
unfolding node_over
node_over-zero identifier leaves count level r e = rw e refl

-- leaves whose number is even, each as long as a hash
pub record AreLeaves (leaves : List (List ℕ)) (half : ℕ) : Type 0 where
  pub count : length leaves ≡ 2 * half
  pub width : (j : ℕ) → j < 2 * half → length (slice_index_or leaves j []) ≡ hash_length

pub length-node_over : (identifier : List ℕ) (leaves : List (List ℕ)) (half : ℕ) → AreLeaves leaves half → (level r : ℕ)
    → 2 * half ≤ r → r < 2 * (2 * half) → length (node_over identifier leaves (2 * half) level r) ≡ hash_length
unfolding node_over
length-node_over identifier leaves half l zero r first last = l.width (r - 2 * half) (omega arith)
length-node_over identifier leaves half l (suc n) r first last = length-sha256 _

-- the same, of a node above the leaves, whatever its number
length-inner_node : (identifier : List ℕ) (leaves : List (List ℕ)) (count n r : ℕ) → length (node_over identifier leaves count (suc n) r) ≡ hash_length
unfolding node_over
length-inner_node identifier leaves count n r = length-sha256 _

-- the node beside one that stands n levels above a leaf
pub length-sibling : (identifier : List ℕ) (leaves : List (List ℕ)) (half : ℕ) → AreLeaves leaves half → (r n : ℕ)
    → 2 * half ≤ r → r < 2 * (2 * half) → length (node_over identifier leaves (2 * half) n (beside (r / 2 ^ n))) ≡ hash_length
length-sibling identifier leaves half l r zero first last =
    let e : r / 1 ≡ r = div-one r in
    rw e (length-node_over identifier leaves half l 0 (beside r) (beside-above half r first) (beside-below (2 * half) r last))
length-sibling identifier leaves half l r (suc n) first last = length-inner_node identifier leaves (2 * half) n (beside (r / 2 ^ suc n))

above-even : (identifier : List ℕ) (leaves : List (List ℕ)) (count n r : ℕ) → (r % 2 == 0) ≡ true → r % 2 ≡ 0
    → above identifier r (node_over identifier leaves count n r) (node_over identifier leaves count n (beside r)) ≡ node_over identifier leaves count (suc n) (r / 2)
unfolding node_over
above-even identifier leaves count n r e z =
    let a : 2 * (r / 2) ≡ r = omega (arith, z) in
    rw (e, a) refl

above-odd : (identifier : List ℕ) (leaves : List (List ℕ)) (count n r : ℕ) → (r % 2 == 0) ≡ false → r % 2 ≢ 0
    → above identifier r (node_over identifier leaves count n r) (node_over identifier leaves count n (beside r)) ≡ node_over identifier leaves count (suc n) (r / 2)
unfolding node_over
above-odd identifier leaves count n r e z =
    let a : 2 * (r / 2) + 1 ≡ r = omega (arith, z) in
    let b : r - 1 ≡ 2 * (r / 2) = omega (arith, z) in
    rw (e, a, b) refl

-- a node and the one beside it make the node above them
pub above-beside : (identifier : List ℕ) (leaves : List (List ℕ)) (count n r : ℕ)
    → above identifier r (node_over identifier leaves count n r) (node_over identifier leaves count n (beside r)) ≡ node_over identifier leaves count (suc n) (r / 2)
above-beside identifier leaves count n r =
    elim (eqb_tells (r % 2) 0) [
      | inl p ↦ above-even identifier leaves count n r p.0 p.1
      | inr p ↦ above-odd identifier leaves count n r p.0 p.1
    ]

-- ---- paths

pub path_over-zero : (identifier : List ℕ) (leaves : List (List ℕ)) (count r : ℕ) → path_over identifier leaves count r 0 ≡ []
unfolding path_over
path_over-zero identifier leaves count r = refl

pub path_over-suc : (identifier : List ℕ) (leaves : List (List ℕ)) (count r n : ℕ)
    → path_over identifier leaves count r (suc n) ≡ path_over identifier leaves count r n ++ node_over identifier leaves count n (beside (r / 2 ^ n))
unfolding path_over
path_over-suc identifier leaves count r n = refl

pub path_over-more : (identifier : List ℕ) (leaves : List (List ℕ)) (count r n : ℕ)
    → path_over identifier leaves count r (n + 1) ≡ path_over identifier leaves count r n ++ node_over identifier leaves count n (beside (r / 2 ^ n))
path_over-more identifier leaves count r n = rw add-one (path_over-suc identifier leaves count r n)

pub length-path_over : (identifier : List ℕ) (leaves : List (List ℕ)) (half : ℕ) → AreLeaves leaves half → (r n : ℕ)
    → 2 * half ≤ r → r < 2 * (2 * half) → length (path_over identifier leaves (2 * half) r n) ≡ hash_length * n
unfolding path_over
length-path_over identifier leaves half l r zero first last = refl
length-path_over identifier leaves half l r (suc n) first last =
    let ih = length-path_over identifier leaves half l r n first last in
    let one = length-sibling identifier leaves half l r n first last in
    let both = length-append (path_over identifier leaves (2 * half) r n) (node_over identifier leaves (2 * half) n (beside (r / 2 ^ n))) in
    omega (arith, ih, one, both)

-- ---- what a path leads to

pub led-zero : (identifier : List ℕ) (r : ℕ) (value path : List ℕ) → led identifier r value path 0 ≡ value
unfolding led
led-zero identifier r value path = refl

pub led-suc : (identifier : List ℕ) (r : ℕ) (value path : List ℕ) (n : ℕ)
    → led identifier r value path (suc n) ≡ above identifier (r / 2 ^ n) (led identifier r value path n) (path_at path n)
unfolding led
led-suc identifier r value path n = refl

led-start : (identifier : List ℕ) (leaves : List (List ℕ)) (count r : ℕ) (path : List ℕ)
    → led identifier r (slice_index_or leaves (r - count) []) path 0 ≡ node_over identifier leaves count 0 (r / 1)
unfolding led node_over
led-start identifier leaves count r path = rw (div-one r) refl

path-at : (n : ℕ) (before sibling rest : List ℕ) → length before ≡ hash_length * n → length sibling ≡ hash_length → path_at (before ++ (sibling ++ rest)) n ≡ sibling
path-at n before sibling rest e s = rw (drop_at before (sibling ++ rest) (hash_length * n) e, take_at sibling rest hash_length s) refl

-- a leaf and its path lead to the node above it
pub led-path : (identifier : List ℕ) (leaves : List (List ℕ)) (half : ℕ) → AreLeaves leaves half → (r : ℕ) → 2 * half ≤ r → r < 2 * (2 * half) → (n : ℕ) (rest : List ℕ)
    → led identifier r (slice_index_or leaves (r - 2 * half) []) (path_over identifier leaves (2 * half) r n ++ rest) n ≡ node_over identifier leaves (2 * half) n (r / 2 ^ n)
led-path identifier leaves half l r first last zero rest = led-start identifier leaves (2 * half) r (path_over identifier leaves (2 * half) r 0 ++ rest)
led-path identifier leaves half l r first last (suc n) rest =
    let count = 2 * half in
    let value = slice_index_or leaves (r - count) [] in
    let j = r / 2 ^ n in
    let one = node_over identifier leaves count n (beside j) in
    let path = path_over identifier leaves count r n in
    let whole = path ++ (one ++ rest) in
    let cut : path_over identifier leaves count r (suc n) ++ rest ≡ whole = rw (path_over-suc identifier leaves count r n) (append_assoc path one rest) in
    let ih : led identifier r value whole n ≡ node_over identifier leaves count n j = led-path identifier leaves half l r first last n (one ++ rest) in
    let width = length-sibling identifier leaves half l r n first last in
    let sibling = path-at n path one rest (length-path_over identifier leaves half l r n first last) width in
    let halved : j / 2 ≡ r / 2 ^ suc n = rw (pow-suc 2 n) (div-div-eq-div-mul r (2 ^ n) 2) in
    ap (λ (s : List ℕ). led identifier r value s (suc n)) cut
    ∙ led-suc identifier r value whole n
    ∙ ap (λ (v : List ℕ). above identifier j v (path_at whole n)) ih
    ∙ ap (λ (s : List ℕ). above identifier j (node_over identifier leaves count n j) s) sibling
    ∙ above-beside identifier leaves count n j
    ∙ ap (λ (k : ℕ). node_over identifier leaves count (suc n) k) halved
