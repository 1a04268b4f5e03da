-- Of two different hashes, each takes in some chain fewer steps than the other.
use Rattle.std.proofs.Common.{◌≡◌, ◌≢◌, ◌≤◌, ◌<◌, ◌⊎◌, inl, inr, ℕ, zero, suc, ◌+◌, ◌-◌, ◌*◌, ◌/◌, ◌%◌, List, ◌++◌, length, slice_index, refl, sym, ap, ◌∙◌, arith}
use Rattle.std.proofs.lemmas.Bool.{cases_lt}
use Rattle.std.proofs.lemmas.List.{get_or_append_left, get_or-append_right, ext_get_or}
use Rattle.gen_lmots.specs.Coefficients.{checksum, coefficient, lacking, steps_signed}
use Rattle.gen_lmots.specs.Strings.{u16str}
use Rattle.gen_lmots.proofs.Walked.{coefficient-le, lacking-suc, lacking-zero}

-- ---- a number that is less in one list of numbers than in another

-- below n, f is somewhere less than g, or nowhere
pub somewhere_less : (f g : ℕ → ℕ) (n : ℕ) → ((i : ℕ) × (i < n) × (f i < g i)) ⊎ ((i : ℕ) → i < n → g i ≤ f i)
somewhere_less f g zero = inr (λ i h. absurd (omega arith))
somewhere_less f g (suc n) = elim (somewhere_less f g n) [
  | inl found ↦ inl (found.0, omega (arith, found.1), found.2)
  | inr none ↦ elim (cases_lt (f n) (g n)) [
    | inl less ↦ inl (n, omega arith, less)
    | inr more ↦ inr (λ i h. elim (cases_lt i n) [
      | inl below ↦ none i below
      | inr last ↦
          let e : i ≡ n = omega arith in
          rw e more
    ])
  ]
]

-- ---- what coefficients lack

pub lacking_more : (q p : List ℕ) (n : ℕ) → ((i : ℕ) → i < n → coefficient p i ≤ coefficient q i) → lacking q n ≤ lacking p n
lacking_more q p zero all = rw (lacking-zero q, lacking-zero p) (omega arith)
lacking_more q p (suc n) all =
    let ih = lacking_more q p n (λ i h. all i (omega arith)) in
    let here = all n (omega arith) in
    rw (lacking-suc q n, lacking-suc p n) (omega (arith, ih, here))

pub lacking_same : (q p : List ℕ) (n : ℕ) → ((i : ℕ) → i < n → coefficient p i ≤ coefficient q i) → lacking p n ≤ lacking q n
    → (i : ℕ) → i < n → coefficient q i ≡ coefficient p i
lacking_same q p zero all less i h = absurd (omega arith)
lacking_same q p (suc n) all less i h =
    let before = lacking_more q p n (λ k l. all k (omega arith)) in
    let here = all n (omega arith) in
    let few = coefficient-le q n in
    let told : lacking p n + (15 - coefficient p n) ≤ lacking q n + (15 - coefficient q n) = rw (lacking-suc p n, lacking-suc q n) at less in
    elim (cases_lt i n) [
      | inl below ↦ lacking_same q p n (λ k l. all k (omega arith)) (omega (arith, told, here, before)) i below
      | inr last ↦
          let e : i ≡ n = omega arith in
          let same : coefficient q n ≡ coefficient p n = omega (arith, told, here, before, few) in
          rw e same
    ]

pub lacking-le : (q : List ℕ) (n : ℕ) → lacking q n ≤ 15 * n
lacking-le q zero = rw (lacking-zero q) (omega arith)
lacking-le q (suc n) = rw (lacking-suc q n) (omega (arith, lacking-le q n))

-- ---- bytes by their coefficients

pub high : (s : List ℕ) (k : ℕ) → coefficient s (2 * k) ≡ slice_index s k / 16 % 16
high s k =
    let a : 2 * k * 4 / 8 ≡ k = omega arith in
    let b : 2 * k % 2 ≡ 0 = omega arith in
    rw (a, b) refl

pub low : (s : List ℕ) (k : ℕ) → coefficient s (2 * k + 1) ≡ slice_index s k % 16
low s k =
    let a : (2 * k + 1) * 4 / 8 ≡ k = omega arith in
    let b : (2 * k + 1) % 2 ≡ 1 = omega arith in
    let c : slice_index s k / 1 ≡ slice_index s k = omega arith in
    rw (a, b, c) refl

pub same_hash : (q p : List ℕ) → length q ≡ 32 → length p ≡ 32 → ((i : ℕ) → i < 32 → slice_index q i < 256) → ((i : ℕ) → i < 32 → slice_index p i < 256)
    → ((i : ℕ) → i < 64 → coefficient q i ≡ coefficient p i) → q ≡ p
same_hash q p lq lp bq bp all = ext_get_or 0 q p (lq ∙ sym lp) (λ i h.
    let inside : i < 32 = omega (arith, lq, h) in
    let a = rw (high q i, high p i) at (all (2 * i) (omega arith)) in
    let b = rw (low q i, low p i) at (all (2 * i + 1) (omega arith)) in
    let c = bq i inside in
    let d = bp i inside in
    let e : slice_index q i ≡ slice_index p i = omega (arith, a, b, c, d) in
    e)

-- ---- a hash and its checksum

pub steps-front : (q : List ℕ) → length q ≡ 32 → (i : ℕ) → i < 64 → steps_signed q i ≡ coefficient q i
steps-front q len i h =
    let inside : i * 4 / 8 < length q = omega (arith, len) in
    let e : slice_index (q ++ u16str (checksum q)) (i * 4 / 8) ≡ slice_index q (i * 4 / 8) = get_or_append_left q (u16str (checksum q)) 0 (i * 4 / 8) inside in
    rw e refl

-- the three coefficients of the checksum
pub steps-back : (q : List ℕ) → length q ≡ 32
    → (steps_signed q 64 ≡ checksum q / 256 % 256 / 16 % 16) × (steps_signed q 65 ≡ checksum q / 256 % 256 % 16) × (steps_signed q 66 ≡ checksum q % 256 / 16 % 16)
steps-back q len =
    let s = q ++ u16str (checksum q) in
    let first : slice_index s 32 ≡ checksum q / 256 % 256 = get_or-append_right q (u16str (checksum q)) 32 32 0 len (omega arith) in
    let second : slice_index s 33 ≡ checksum q % 256 = get_or-append_right q (u16str (checksum q)) 32 33 0 len (omega arith) in (
      high s 32 ∙ ap (λ (b : ℕ). b / 16 % 16) first,
      low s 32 ∙ ap (λ (b : ℕ). b % 16) first,
      high s 33 ∙ ap (λ (b : ℕ). b / 16 % 16) second,
    )

-- a checksum is told by its coefficients
pub lacking-told : (q : List ℕ) → length q ≡ 32 → lacking q 64 ≡ 256 * steps_signed q 64 + 16 * steps_signed q 65 + steps_signed q 66
lacking-told q len =
    let back = steps-back q len in
    let few = lacking-le q 64 in
    omega (arith, back.0, back.1, back.2, few)

-- of two different hashes, the first takes in some chain fewer steps than the second
pub fewer_somewhere : (q p : List ℕ) → length q ≡ 32 → length p ≡ 32 → ((i : ℕ) → i < 32 → slice_index q i < 256) → ((i : ℕ) → i < 32 → slice_index p i < 256) → q ≢ p
    → (i : ℕ) × (i < 67) × (steps_signed q i < steps_signed p i)
fewer_somewhere q p lq lp bq bp differ = elim (somewhere_less (coefficient q) (coefficient p) 64) [
  | inl found ↦
      let i = found.0 in
      (i, omega (arith, found.1), rw (steps-front q lq i found.1, steps-front p lp i found.1) found.2)
  | inr none ↦ elim (somewhere_less (λ d. steps_signed q (64 + d)) (λ d. steps_signed p (64 + d)) 3) [
    | inl found ↦ (64 + found.0, omega (arith, found.1), found.2)
    | inr all ↦
        let a = all 0 (omega arith) in
        let b = all 1 (omega arith) in
        let c = all 2 (omega arith) in
        let less : lacking p 64 ≤ lacking q 64 = omega (arith, a, b, c, lacking-told q lq, lacking-told p lp) in
        absurd (differ (same_hash q p lq lp bq bp (lacking_same q p 64 none less)))
  ]
]
