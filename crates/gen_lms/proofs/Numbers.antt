-- The numbers of nodes: leaves, the nodes above them, and the one beside another.
use Rattle.std.proofs.Common.{◌≡◌, ◌≤◌, ◌<◌, ◌≢◌, ℕ, zero, suc, ◌+◌, ◌-◌, ◌*◌, ◌/◌, ◌%◌, ◌^◌, refl, arith}
use Rattle.std.proofs.Math.Nat.{pow-suc, mul_comm, mul-le-mul_right, div-lt_iff_lt-mul, le-div_iff_mul-le}
use Rattle.std.proofs.lemmas.Nat.{pow-add, pow_pos}
use Rattle.std.proofs.lemmas.Bool.Decides.{nat_tests}
use Rattle.gen_lms.specs.declared.heights.LmsHeight.{LmsHeight}
use Rattle.gen_lms.specs.declared.heights.LmsHeight.TheVariants.{Five, Ten, Fifteen, Twenty, TwentyFive}
use Rattle.gen_lms.specs.Heights.{levels_of, leaves_of}
use Rattle.gen_lms.specs.Tree.{beside}

pub few_leaves : (height : LmsHeight) → leaves_of height ≤ 33554432
few_leaves Five = omega arith
few_leaves Ten = omega arith
few_leaves Fifteen = omega arith
few_leaves Twenty = omega arith
few_leaves TwentyFive = omega arith

pub few_levels : (height : LmsHeight) → levels_of height ≤ 25
few_levels Five = omega arith
few_levels Ten = omega arith
few_levels Fifteen = omega arith
few_levels Twenty = omega arith
few_levels TwentyFive = omega arith

-- half the number of leaves
pub half_of : LmsHeight → ℕ
half_of height = 2 ^ (levels_of height - 1)

pub even_leaves : (height : LmsHeight) → leaves_of height ≡ 2 * half_of height
unfolding half_of
even_leaves Five = refl
even_leaves Ten = refl
even_leaves Fifteen = refl
even_leaves Twenty = refl
even_leaves TwentyFive = refl

-- ---- the nodes below a node

pub child-last : (r level size : ℕ) → (level ≡ 0 → ⊥) → (r + 1) * 2 ^ level ≤ size → (2 * r + 1 + 1) * 2 ^ (level - 1) ≤ size
child-last r zero size n h = absurd (n refl)
child-last r (suc m) size n h =
    let e : suc m - 1 ≡ m = omega arith in
    let p : 2 ^ suc m ≡ 2 ^ m * 2 = pow-suc 2 m in
    rw e (omega (arith, p, rw p at h))

pub child-first : (r level count : ℕ) → (level ≡ 0 → ⊥) → count ≤ r * 2 ^ level → count ≤ 2 * r * 2 ^ (level - 1)
child-first r zero count n h = absurd (n refl)
child-first r (suc m) count n h =
    let e : suc m - 1 ≡ m = omega arith in
    let p : 2 ^ suc m ≡ 2 ^ m * 2 = pow-suc 2 m in
    rw e (omega (arith, p, rw p at h))

-- a node's number is below twice the number of leaves
pub number-room : (r level size : ℕ) → (r + 1) * 2 ^ level ≤ size → r + 1 ≤ size
number-room r zero size h = omega (arith, h)
number-room r (suc m) size h =
    let p : 2 ^ suc m ≡ 2 ^ m * 2 = pow-suc 2 m in
    number-room r m size (omega (arith, p, rw p at h))

-- ---- the node beside another

pub beside-even : (r : ℕ) → r % 2 ≡ 0 → r + 1 ≡ beside r
beside-even r h = grind (arith, nat_tests)

pub beside-odd : (r : ℕ) → r % 2 ≢ 0 → r - 1 ≡ beside r
beside-odd r h = grind (arith, nat_tests)

-- the number beside another that is below an even bound is below it too, and not below an even bound if that is not
pub beside-below : (k r : ℕ) → r < 2 * k → beside r < 2 * k
beside-below k r h = grind (arith, nat_tests)

pub beside-above : (k r : ℕ) → 2 * k ≤ r → 2 * k ≤ beside r
beside-above k r h = grind (arith, nat_tests)

-- a power of two, less some steps
half-pow : (n h m : ℕ) → h ≡ n + suc m → 2 ^ h ≡ 2 * 2 ^ m * 2 ^ n
half-pow n h m e = rw (e, pow-add 2 n (suc m), pow-suc 2 m, mul_comm (2 ^ n) (2 ^ m * 2), mul_comm (2 ^ m) 2) refl

-- the node beside one that stands above a leaf, below the root, stands over leaves of the tree
pub beside-first : (r n h : ℕ) → 2 ^ h ≤ r → n < h → 2 ^ h ≤ beside (r / 2 ^ n) * 2 ^ n
beside-first r n h above low =
    let m = h - suc n in
    let e : 2 ^ h ≡ 2 * 2 ^ m * 2 ^ n = half-pow n h m (omega arith) in
    let index : 2 * 2 ^ m ≤ r / 2 ^ n = (le-div_iff_mul-le (pow_pos n)).1 (rw e at above) in
    rw e (mul-le-mul_right (2 ^ n) (beside-above (2 ^ m) (r / 2 ^ n) index))

pub beside-last : (r n h : ℕ) → r < 2 * 2 ^ h → n < h → (beside (r / 2 ^ n) + 1) * 2 ^ n ≤ 2 * 2 ^ h
beside-last r n h below low =
    let m = h - suc n in
    let e : 2 ^ h ≡ 2 * 2 ^ m * 2 ^ n = half-pow n h m (omega arith) in
    let f : 2 * (2 * 2 ^ m * 2 ^ n) ≡ 2 * (2 * 2 ^ m) * 2 ^ n = omega arith in
    let index : r / 2 ^ n < 2 * (2 * 2 ^ m) = (div-lt_iff_lt-mul (pow_pos n)).1 (rw (e, f) at below) in
    let other : beside (r / 2 ^ n) + 1 ≤ 2 * (2 * 2 ^ m) = omega (arith, beside-below (2 * 2 ^ m) (r / 2 ^ n) index) in
    rw (e, f) (mul-le-mul_right (2 ^ n) other)
