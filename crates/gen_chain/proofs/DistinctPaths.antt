-- Lists of distinct generals: one general more, and the test whether some general stands twice.
use Rattle.std.proofs.Common.{◌≡◌, ◌≢◌, ◌<◌, ◌≤◌, ◌+◌, inl, inr, ℕ, Bool, true, false, ◌||◌, eqb, List, [], ◌∷◌, ◌++◌, length, Contains, All, AllPairs, refl, sym, ap, subst, ◌∙◌, arith, length-append, append_assoc}
use Rattle.std.specs.List.{list_any, range_with_len}
use Rattle.std.proofs.lemmas.List.{append-nil, length-map}
use Rattle.std.proofs.lemmas.List.Elements.{All-contains, Contains-append_cases}
use Rattle.std.proofs.lemmas.List.FromFn.{length-range_with_len}
use Rattle.std.proofs.lemmas.List.Kept.{AllPairs-cons}
use Rattle.gen_types.specs.Ends.{is_among}
use Rattle.gen_types.proofs.Among.{among_out, out_among}
use Rattle.gen_types.proofs.Lists.{Contains_cases, Contains_nil, Contains-middle, Contains_in_range, AllPairs_head, AllPairs_tail, AllPairs-append, All_of, length-le_from_distinct}
use Rattle.gen_chain.specs.declared.chains.Signer.{Signer}
use Rattle.gen_chain.specs.Chain.{signed_path}
use Rattle.gen_chain.specs.ChainReading.{repeats}

abbrev pub AreDistinct : List ℕ → Type 0
AreDistinct path = AllPairs (λ g h. g ≢ h) path

abbrev pub AreBelow : ℕ → List ℕ → Type 0
AreBelow n path = All (λ g. g < n) path

-- ---- one general more

single : (g : ℕ) → AreDistinct (g ∷ [])
single g i j d l m = absurd (omega arith)

pub distinct-push : (path : List ℕ) (g : ℕ) → AreDistinct path → (Contains path g → ⊥) → AreDistinct (path ++ g ∷ [])
distinct-push path g apart new =
    AllPairs-append (λ a b. a ≢ b) path (g ∷ []) apart (single g) (λ x y in_path last. λ same.
    elim (Contains_cases g y [] last) [
      | inl e ↦ new (subst (λ z. Contains path z) (same ∙ sym e) in_path)
      | inr none ↦ Contains_nil y none
    ])

pub below-push : (n : ℕ) (path : List ℕ) (g : ℕ) → AreBelow n path → g < n → AreBelow n (path ++ g ∷ [])
below-push n path g below small =
    All_of (λ h. h < n) (path ++ g ∷ []) (λ x h. elim (Contains-append_cases path (g ∷ []) x h) [
      | inl l ↦ All-contains (λ z. z < n) path x below l
      | inr r ↦ elim (Contains_cases g x [] r) [ inl e ↦ subst (λ z. z < n) e small | inr none ↦ absurd (Contains_nil x none) ]
    ])

-- distinct numbers below n are at most n
few : (n : ℕ) (path : List ℕ) → AreDistinct path → AreBelow n path → length path ≤ n
few n path apart below =
    let inside : length path ≤ length (range_with_len 0 n) = length-le_from_distinct path (range_with_len 0 n) apart (λ x h. let small : x < n = All-contains (λ g. g < n) path x below h in Contains_in_range 0 n x (omega arith) (omega arith)) in
    omega (arith, length-range_with_len 0 n)

-- so a list of them that doesn't have a number below n has room for it
pub has_room : (n : ℕ) (path : List ℕ) (g : ℕ) → AreDistinct path → AreBelow n path → g < n → (Contains path g → ⊥) → length path + 1 ≤ n
has_room n path g apart below small new =
    let all = few n (path ++ g ∷ []) (distinct-push path g apart new) (below-push n path g below small) in
    omega (arith, all, length-append path (g ∷ []))

-- ---- the path of signers, one after another

-- who stands before a place of a list of distinct numbers doesn't stand at that place
pub not_before : (front back : List ℕ) (g : ℕ) → AreDistinct (front ++ g ∷ back) → Contains front g → ⊥
not_before [] back g apart h = Contains_nil g h
not_before (x ∷ front) back g apart h = elim (Contains_cases x g front h) [
  | inl e ↦ All-contains (λ z. x ≢ z) (front ++ g ∷ back) g (AllPairs_head (λ a b. a ≢ b) x (front ++ g ∷ back) apart) (Contains-middle front g back) e
  | inr k ↦ not_before front back g (AllPairs_tail (λ a b. a ≢ b) x (front ++ g ∷ back) apart) k
]

pub next_is_new : (path : List ℕ) (rest others signers : List Signer) (s : Signer) → AreDistinct (signed_path signers) → rest ≡ s ∷ others → path ++ signed_path rest ≡ signed_path signers → Contains path s.general → ⊥
next_is_new path rest others signers s apart e so_far =
    let split : path ++ s.general ∷ signed_path others ≡ signed_path signers = rw e at so_far in
    not_before path (signed_path others) s.general (subst AreDistinct (sym split) apart)

-- and before the end of a list there is room for one more
pub next_fits : (path : List ℕ) (rest others signers : List Signer) (s : Signer) → length signers ≤ 16 → rest ≡ s ∷ others → path ++ signed_path rest ≡ signed_path signers → length path < 16
next_fits path rest others signers s few e so_far =
    let split : path ++ s.general ∷ signed_path others ≡ signed_path signers = rw e at so_far in
    omega (arith, few, ap length split, length-append path (s.general ∷ signed_path others), length-map signers (λ (t : Signer). t.general))

pub next_path : (path longer : List ℕ) (rest others signers : List Signer) (s : Signer) → rest ≡ s ∷ others → longer ≡ path ++ s.general ∷ [] → path ++ signed_path rest ≡ signed_path signers → longer ++ signed_path others ≡ signed_path signers
next_path path longer rest others signers s e pushed so_far =
    let split : path ++ s.general ∷ signed_path others ≡ signed_path signers = rw e at so_far in
    ap (λ (p : List ℕ). p ++ signed_path others) pushed ∙ append_assoc path (s.general ∷ []) (signed_path others) ∙ split

pub whole_path : (path : List ℕ) (rest signers : List Signer) → rest ≡ [] → path ++ signed_path rest ≡ signed_path signers → path ≡ signed_path signers
whole_path path rest signers e so_far =
    let last : path ++ [] ≡ signed_path signers = rw e at so_far in
    sym (append-nil path) ∙ last

-- ---- whether some general stands twice

neither : (a b : Bool) → (a || b) ≡ false → (a ≡ false) × (b ≡ false)
neither true b e = absurd cc
neither false b e = (refl, e)

pub distinct_from : (path : List ℕ) → repeats path ≡ false → AreDistinct path
distinct_from [] e = λ i j d l m. absurd (omega arith)
distinct_from (g ∷ path) e =
    let parts = neither (is_among path g) (repeats path) e in
    AllPairs-cons (λ a b. a ≢ b) g path (All_of (λ h. g ≢ h) path (λ h at same. among_out path g parts.0 (subst (λ k. Contains path k) (sym same) at))) (distinct_from path parts.1)

pub repeats_not : (path : List ℕ) → AreDistinct path → repeats path ≡ false
repeats_not [] apart = refl
repeats_not (g ∷ path) apart =
    let head = AllPairs_head (λ a b. a ≢ b) g path apart in
    let once : is_among path g ≡ false = out_among path g (λ at. All-contains (λ z. g ≢ z) path g head at refl) in
    rw (once, repeats_not path (AllPairs_tail (λ a b. a ≢ b) g path apart)) refl

any_of_path : (g : ℕ) (signers : List Signer) → is_among (signed_path signers) g ≡ list_any (λ s. eqb s.general g) signers
any_of_path g [] = refl
any_of_path g (s ∷ signers) = ap (λ (b : Bool). eqb s.general g || b) (any_of_path g signers)

pub comes_twice : (rest others : List Signer) (first : Signer) → rest ≡ first ∷ others → list_any (λ s. eqb s.general first.general) others ≡ true → repeats (signed_path rest) ≡ true
comes_twice rest others first e twice =
    let t : is_among (signed_path others) first.general ≡ true = any_of_path first.general others ∙ twice in
    rw (e, t) refl

pub comes_once : (rest others : List Signer) (first : Signer) → rest ≡ first ∷ others → list_any (λ s. eqb s.general first.general) others ≡ false → repeats (signed_path others) ≡ repeats (signed_path rest)
comes_once rest others first e once =
    let t : is_among (signed_path others) first.general ≡ false = any_of_path first.general others ∙ once in
    rw (e, t) refl
