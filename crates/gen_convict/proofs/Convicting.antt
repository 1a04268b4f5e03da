-- What is found against all generals is what convicts them.
use Rattle.std.proofs.Common.{◌≡◌, ℕ, zero, suc, ◌+◌, ◌-◌, ◌<◌, ◌≤◌, Option, Some, None, Result, Ok, Err, IfOk, List, [], ◌∷◌, ◌++◌, Contains, AllPairs, refl, sym, ap, subst, ◌∙◌, inl, inr, arith, append_assoc}
use Rattle.std.specs.List.{flat_map, range_with_len}
use Rattle.std.proofs.lemmas.List.Elements.{Contains-append_left, Contains-append_right}
use Rattle.gen_types.proofs.Lists.{AllPairs-append, Contains_here, Contains_cases, Contains_nil, Contains_flat_mapped, Contains_range, Contains_in_range}
use Rattle.gen_net.specs.Header.{RunHeader, IsHeader}
use Rattle.gen_log.specs.Fields.{AreBelow}
use Rattle.gen_log.specs.LogReading.{log_of}
use Rattle.gen_local.specs.declared.texts.SignedText.{SignedText}
use Rattle.gen_local.specs.Report.{LocalReport, IsReport, IsReading}
use Rattle.gen_convict.specs.Contradictions.{Claim}
use Rattle.gen_convict.specs.Convictions.{AreConvictions, AreShort, AreUnderHeader, shown_in}
use Rattle.gen_convict.specs.Evidence.{Accusation}
use Rattle.gen_convict.specs.FindingClaims.{least_claim, claim_for, accusing, accusations}
use Rattle.gen_convict.specs.Finding.{his_texts, one_each}
use Rattle.gen_convict.specs.First.{IsFirstClaim}
use Rattle.gen_convict.proofs.FoundClaims.{claim_found, claim_none}
use Rattle.gen_convict.proofs.FoundLogs.{AreOf}
use Rattle.gen_convict.proofs.OneGiven.{one_claim}

pub if_ok : {A E : Type 0} (P Q : A → Type 0) (r : Result A E) → ((x : A) → P x → Q x) → IfOk r P → IfOk r Q
if_ok P Q (Ok x) f p = f x p
if_ok P Q (Err e) f p = p

-- the claim by these texts is that by one of each subject
pub claim_same : (general : ℕ) (firsts texts : List SignedText) (reports : List LocalReport) → texts ≡ his_texts general reports → firsts ≡ one_each [] texts → least_claim general firsts texts reports ≡ claim_for reports general
unfolding claim_for
claim_same general firsts texts reports e f =
    ap (λ fs. least_claim general fs texts reports) f
    ∙ ap (λ ts. least_claim general (one_each [] ts) ts reports) e

-- the next general's claim behind those that were found
pub one_more : (reports : List LocalReport) (done : List Accusation) (i n : ℕ) → i < n → done ++ accusations reports (range_with_len i (n - i)) ≡ (done ++ accusing i (claim_for reports i)) ++ accusations reports (range_with_len (i + 1) (n - (i + 1)))
one_more reports done i n below =
    let e : n - i ≡ suc (n - (i + 1)) = omega (arith, below) in
    ap (λ k. done ++ accusations reports (range_with_len i k)) e
    ∙ sym (append_assoc done (accusing i (claim_for reports i)) (accusations reports (range_with_len (i + 1) (n - (i + 1)))))

accusing_in : (g : ℕ) (o : Option Claim) (x : Accusation) → Contains (accusing g o) x → (x.accused ≡ g) × (o ≡ Some x.claim)
accusing_in g None x c = absurd (Contains_nil x c)
accusing_in g (Some claim) x c = elim (Contains_cases (record { accused = g; claim = claim }) x [] c) [
  | inl e ↦ (sym (ap (λ (a : Accusation). a.accused) e), ap (λ (a : Accusation). Some a.claim) e)
  | inr none ↦ absurd (Contains_nil x none)
]

pub flat_contains : {X Y : Type 0} (f : X → List Y) (xs : List X) (x : X) (y : Y) → Contains xs x → Contains (f x) y → Contains (flat_map f xs) y
flat_contains f [] x y c d = absurd (Contains_nil x c)
flat_contains f (z ∷ zs) x y c d = elim (Contains_cases z x zs c) [
  | inl e ↦ Contains-append_left (f z) (flat_map f zs) y (subst (λ w. Contains (f w) y) (sym e) d)
  | inr k ↦ Contains-append_right (f z) (flat_map f zs) y (flat_contains f zs x y k d)
]

abbrev Before : Accusation → Accusation → Type 0
Before x y = x.accused < y.accused

single : (g : ℕ) (o : Option Claim) → AllPairs Before (accusing g o)
single g None = λ i j d l m. absurd (omega (arith, m))
single g (Some claim) = λ i j d l m. absurd (omega (arith, l, m))

accused_from : (reports : List LocalReport) (a n : ℕ) (x : Accusation) → Contains (accusations reports (range_with_len a n)) x → a ≤ x.accused
accused_from reports a n x c =
    let f = Contains_flat_mapped (λ g. accusing g (claim_for reports g)) (range_with_len a n) x c in
    let r = Contains_range a n f.0 f.1 in
    omega (arith, r.0, (accusing_in f.0 (claim_for reports f.0) x f.2).0)

ascending : (reports : List LocalReport) (a n : ℕ) → AllPairs Before (accusations reports (range_with_len a n))
ascending reports a zero = λ i j d l m. absurd (omega (arith, m))
ascending reports a (suc n) =
    AllPairs-append Before (accusing a (claim_for reports a)) (accusations reports (range_with_len (a + 1) n)) (single a (claim_for reports a)) (ascending reports (a + 1) n)
    (λ x y c d. omega (arith, (accusing_in a (claim_for reports a) x c).0, accused_from reports (a + 1) n y d))

module _ (h : RunHeader) (reports : List LocalReport) (are : AreOf h reports) where
  abbrev All : List Accusation
  All = accusations reports (range_with_len 0 h.network.generals)

  pub each_found : (x : Accusation) → Contains All x → (x.accused < h.network.generals) × IsFirstClaim h (shown_in reports) x.accused x.claim
  each_found x c =
      let f = Contains_flat_mapped (λ g. accusing g (claim_for reports g)) (range_with_len 0 h.network.generals) x c in
      let r = Contains_range 0 h.network.generals f.0 f.1 in
      let k = accusing_in f.0 (claim_for reports f.0) x f.2 in
      let below : x.accused < h.network.generals = omega (arith, r.1, k.0) in
      (below, claim_found h reports x.accused are x.claim (ap (claim_for reports) k.0 ∙ k.1))

  each_in : IsHeader h → AreShort (shown_in reports) → (general : ℕ) (claim : Claim) → IsFirstClaim h (shown_in reports) general claim → (o : Option Claim) → claim_for reports general ≡ o → Contains (accusing general o) (record { accused = general; claim = claim })
  each_in ok short general claim made None e = absurd (claim_none h reports general are ok short e claim made)
  each_in ok short general claim made (Some c) e =
      let same : c ≡ claim = one_claim h (shown_in reports) general c claim (claim_found h reports general are c e) made in
      subst (λ (d : Claim). Contains (accusing general (Some c)) (record { accused = general; claim = d })) same (Contains_here (record { accused = general; claim = c }) [])

  pub convictions_found : IsHeader h → AreShort (shown_in reports) → AreConvictions h (shown_in reports) All
  convictions_found ok short = record {
    in_order = ascending reports 0 h.network.generals;
    first = each_found;
    each = λ general claim below made. flat_contains (λ g. accusing g (claim_for reports g)) (range_with_len 0 h.network.generals) general (record { accused = general; claim = claim }) (Contains_in_range 0 h.network.generals general (omega arith) (omega (arith, below))) (each_in ok short general claim made (claim_for reports general) refl);
  }

pub are_of : (h : RunHeader) (reports : List LocalReport) → AreUnderHeader h reports → ((r : LocalReport) → Contains reports r → IsReport r × AreBelow 256 r.exhibit.bytes) → AreOf h reports
are_of h reports under all = record {
  reads = λ r c. subst (λ x. IsReading x r.exhibit.general (log_of x r.exhibit.bytes) r.reading) (under r c) (all r c).0;
  bytes = λ r c. (all r c).1;
}
