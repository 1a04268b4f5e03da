-- What is found against generals across runs is what the exhibits of two runs hold.
use Rattle.std.proofs.Common.{◌≡◌, ℕ, zero, suc, ◌+◌, ◌-◌, ◌<◌, ◌≤◌, inl, inr, Option, Some, None, List, [], ◌∷◌, ◌++◌, map, Contains, AllPairs, refl, sym, ap, subst, ◌∙◌, arith, append_assoc}
use Rattle.std.specs.List.{find, range_with_len}
use Rattle.gen_types.proofs.Lists.{AllPairs-append, Contains_here, Contains_there, Contains_cases, Contains_nil, Contains_mapped, Contains_flat_mapped, Contains_range, Contains_in_range, not_nil}
use Rattle.gen_net.specs.Header.{IsHeader}
use Rattle.gen_convict.specs.declared.run_texts.RunText.{RunText}
use Rattle.gen_convict.specs.Accused.{TextVerifies}
use Rattle.gen_convict.specs.Across.{AreRivals, ShownRun, of_run, texts_across, IsFirstAcross}
use Rattle.gen_convict.specs.AcrossFinding.{is_rival, with_rival, first_rivals, RunReports, his_in_run, his_across, accusing_across, accusations_across}
use Rattle.gen_convict.specs.AcrossLaws.{AreLawful, FoundWhereHeld, FirstContradict, OneFirstAcross, AreConvictedAcross, AreEvidenceAcross, ConvictsAcrossWhereHeld, shown_run, shown_runs}
use Rattle.gen_convict.specs.Contradictions.{AcrossRuns}
use Rattle.gen_convict.specs.Convictions.{shown_in}
use Rattle.gen_convict.specs.Evidence.{Accusation, IsEvidence}
use Rattle.gen_convict.specs.Exhibits.{AllBytes, texts_of}
use Rattle.gen_convict.specs.Firsts.{IsFirst, IsFirstPair}
use Rattle.gen_convict.proofs.AcrossLawful.{across_lawful}
use Rattle.gen_convict.proofs.AcrossTests.{rival_tests, rivals_or_not, rivals_turned, no_own_rival}
use Rattle.gen_convict.proofs.Convicting.{flat_contains}
use Rattle.gen_convict.proofs.FindFirst.{find_first, find_none}
use Rattle.gen_convict.proofs.FirstOnes.{NoPair, no_pair_more, none_before_more, pair_or_none, one_pair}
use Rattle.gen_convict.proofs.FoundLogs.{AreOf, his_texts_are}
use Rattle.gen_convict.proofs.Given.{two_positions}
use Rattle.gen_convict.proofs.Holding.{texts_verify, pair_in}
use Rattle.gen_convict.proofs.Lawful.{all_bytes}

-- ---- the first pair, step by step

found_here : (z y : RunText) (zs : List RunText) → IsFirst (AreRivals z) zs y → IsFirstPair AreRivals (z ∷ zs) z y
found_here z y zs f = record {
  before = [];
  between = f.before;
  after = f.after;
  split = ap (λ ys. z ∷ ys) f.split;
  holds = f.holds;
  none_before = λ front back u v e h r. not_nil front u back (sym e);
  none_between = f.none_before;
}

found_later : (z x y : RunText) (zs : List RunText) → ((v : RunText) → Contains zs v → AreRivals z v → ⊥) → IsFirstPair AreRivals zs x y → IsFirstPair AreRivals (z ∷ zs) x y
found_later z x y zs none g = record {
  before = z ∷ g.before;
  between = g.between;
  after = g.after;
  split = ap (λ ys. z ∷ ys) g.split;
  holds = g.holds;
  none_before = none_before_more AreRivals z g.before (x ∷ (g.between ++ y ∷ g.after)) (λ v h r. none v (subst (λ ys. Contains ys v) (sym g.split) h) r) g.none_before;
  none_between = g.none_between;
}

pub rivals_found : (xs : List RunText) (x y : RunText) → first_rivals xs ≡ Some (x, y) → IsFirstPair AreRivals xs x y
rivals_found [] x y e = absurd cc
rivals_found (z ∷ zs) x y e = by (rivals_found zs x y) (find (is_rival z) zs) refl e
  where
    by : (first_rivals zs ≡ Some (x, y) → IsFirstPair AreRivals zs x y) → (o : Option RunText) → find (is_rival z) zs ≡ o → with_rival z o (first_rivals zs) ≡ Some (x, y) → IsFirstPair AreRivals (z ∷ zs) x y
    by behind None was later = found_later z x y zs (find_none (AreRivals z) (is_rival z) (rival_tests z) zs was) (behind later)
    by behind (Some w) was here =
        let pair : (z, w) ≡ (x, y) = cc in
        let first : z ≡ x = ap (λ (p : RunText × RunText). p.0) pair in
        let second : w ≡ y = ap (λ (p : RunText × RunText). p.1) pair in
        let f = found_here z w zs (find_first (AreRivals z) (is_rival z) (rival_tests z) zs w was) in
        subst (λ v. IsFirstPair AreRivals (z ∷ zs) x v) second (subst (λ u. IsFirstPair AreRivals (z ∷ zs) u w) first f)

pub rivals_none : (xs : List RunText) → first_rivals xs ≡ None → NoPair AreRivals xs
rivals_none [] e = λ front back u v s h r. not_nil front u back (sym s)
rivals_none (z ∷ zs) e = by (rivals_none zs) (find (is_rival z) zs) refl e
  where
    by : (first_rivals zs ≡ None → NoPair AreRivals zs) → (o : Option RunText) → find (is_rival z) zs ≡ o → with_rival z o (first_rivals zs) ≡ None → NoPair AreRivals (z ∷ zs)
    by behind None was later = no_pair_more AreRivals z zs (find_none (AreRivals z) (is_rival z) (rival_tests z) zs was) (behind later)
    by behind (Some w) was here = absurd cc

-- ---- what exhibits hold

verified : (runs : List ShownRun) (general : ℕ) (x : RunText) → AreLawful runs → Contains (texts_across runs general) x → TextVerifies x.header general x.text
unfolding texts_across
verified runs general x lawful c =
    let f = Contains_flat_mapped (λ (r : ShownRun). map (of_run r.header) (texts_of r.header r.exhibits general)) runs x c in
    let t = Contains_mapped (of_run f.0.header) (texts_of f.0.header f.0.exhibits general) x f.2 in
    let ok = lawful f.0 f.1 in
    subst (λ (y : RunText). TextVerifies y.header general y.text) t.2 (texts_verify f.0.header f.0.exhibits general t.0 ok.0 ok.1 t.1)

pub first_contradict : FirstContradict
first_contradict runs general x y lawful p =
    let c = pair_in AreRivals (texts_across runs general) x y p in
    record { one = verified runs general x lawful c.0; other = verified runs general y lawful c.1; rivals = p.holds }

pub found_where_held : FoundWhereHeld
found_where_held runs general lawful = (
  (λ k. elim (pair_or_none AreRivals rivals_or_not (texts_across runs general)) [
    | inl p ↦ p
    | inr none ↦ absurd (two_positions AreRivals (texts_across runs general) k.0 k.1 none k.2 k.3 k.4.rivals (rivals_turned k.0 k.1 k.4.rivals) (no_own_rival k.0 k.1 k.4.rivals))
  ]),
  (λ p. let c = pair_in AreRivals (texts_across runs general) p.0 p.1 p.2 in (p.0, p.1, c.0, c.1, first_contradict runs general p.0 p.1 lawful p.2)),
)

pub one_first_across : OneFirstAcross
one_first_across runs general x y v w p q = one_pair AreRivals (texts_across runs general) x y v w p q

pub convicts_where_held : (runs : List ShownRun) (convictions : List Accusation) → AreLawful runs → AreConvictedAcross runs convictions → ConvictsAcrossWhereHeld runs convictions
convicts_where_held runs convictions lawful are general low = (
  (λ held.
      let p = (found_where_held runs general lawful).0 held in
      (record { accused = general; claim = AcrossRuns p.0 p.1 }, are.each general p.0 p.1 low p.2, refl)),
  (λ convicted.
      let f = (are.first convicted.0 convicted.1).1 in
      (found_where_held runs general lawful).1 (f.0, f.1, subst (λ g. IsFirstAcross runs g f.0 f.1) convicted.2 f.3)),
)

-- ---- what reports have

-- the reports of each run are those of its exhibits
abbrev pub AreOfRuns : List RunReports → Type 0
AreOfRuns runs = (r : RunReports) → Contains runs r → AreOf r.header r.reports

pub texts_same : (runs : List RunReports) (general : ℕ) → AreOfRuns runs → texts_across (shown_runs runs) general ≡ his_across general runs
unfolding texts_across
texts_same [] general are = refl
texts_same (r ∷ runs) general are =
    let here : map (of_run r.header) (texts_of r.header (shown_in r.reports) general) ≡ his_in_run general r = ap (map (of_run r.header)) (his_texts_are r.header r.reports general (are r (Contains_here r runs))) in
    let there = texts_same runs general (λ s c. are s (Contains_there r s runs c)) in
    ap (λ ts. ts ++ texts_across (shown_runs runs) general) here ∙ ap (λ ts. his_in_run general r ++ ts) there

accused_in : (g : ℕ) (o : Option (RunText × RunText)) (x : Accusation) → Contains (accusing_across g o) x → (x.accused ≡ g) × ((u : RunText) × (v : RunText) × (x.claim ≡ AcrossRuns u v) × (o ≡ Some (u, v)))
accused_in g None x c = absurd (Contains_nil x c)
accused_in g (Some p) x c = elim (Contains_cases (record { accused = g; claim = AcrossRuns p.0 p.1 }) x [] c) [
  | inl e ↦ (sym (ap (λ (a : Accusation). a.accused) e), (p.0, p.1, sym (ap (λ (a : Accusation). a.claim) e), refl))
  | inr none ↦ absurd (Contains_nil x none)
]

-- the next general's evidence behind what was found
pub one_more : (runs : List RunReports) (done : List Accusation) (i n : ℕ) → i < n → done ++ accusations_across runs (range_with_len i (n - i)) ≡ (done ++ accusing_across i (first_rivals (his_across i runs))) ++ accusations_across runs (range_with_len (i + 1) (n - (i + 1)))
unfolding accusations_across
one_more runs done i n below =
    let e : n - i ≡ suc (n - (i + 1)) = omega (arith, below) in
    ap (λ k. done ++ accusations_across runs (range_with_len i k)) e
    ∙ sym (append_assoc done (accusing_across i (first_rivals (his_across i runs))) (accusations_across runs (range_with_len (i + 1) (n - (i + 1)))))

pub none_more : (runs : List RunReports) (done : List Accusation) (n i : ℕ) → n ≤ i → done ++ accusations_across runs (range_with_len i (n - i)) ≡ done ++ []
unfolding accusations_across
none_more runs done n i above =
    let e : n - i ≡ 0 = omega (arith, above) in
    ap (λ k. done ++ accusations_across runs (range_with_len i k)) e

abbrev Before : Accusation → Accusation → Type 0
Before x y = x.accused < y.accused

single : (g : ℕ) (o : Option (RunText × RunText)) → AllPairs Before (accusing_across g o)
single g None = λ i j d l m. absurd (omega (arith, m))
single g (Some p) = λ i j d l m. absurd (omega (arith, l, m))

module _ (runs : List RunReports) where
  Step : ℕ → List Accusation
  Step g = accusing_across g (first_rivals (his_across g runs))

  in_all : (a n : ℕ) (x : Accusation) → Contains (accusations_across runs (range_with_len a n)) x → (a ≤ x.accused) × (x.accused < a + n) × ((u : RunText) × (v : RunText) × (x.claim ≡ AcrossRuns u v) × (first_rivals (his_across x.accused runs) ≡ Some (u, v)))
  unfolding accusations_across Step
  in_all a n x c =
      let f = Contains_flat_mapped Step (range_with_len a n) x c in
      let r = Contains_range a n f.0 f.1 in
      let k = accused_in f.0 (first_rivals (his_across f.0 runs)) x f.2 in
      (omega (arith, r.0, k.0), omega (arith, r.1, k.0), (k.1.0, k.1.1, k.1.2, ap (λ g. first_rivals (his_across g runs)) k.0 ∙ k.1.3))

  ascending : (a n : ℕ) → AllPairs Before (accusations_across runs (range_with_len a n))
  unfolding accusations_across Step
  ascending a zero = λ i j d l m. absurd (omega (arith, m))
  ascending a (suc n) =
      AllPairs-append Before (Step a) (accusations_across runs (range_with_len (a + 1) n)) (single a (first_rivals (his_across a runs))) (ascending (a + 1) n)
      (λ x y c d. omega (arith, (accused_in a (first_rivals (his_across a runs)) x c).0, (in_all (a + 1) n y d).0))

  module _ (are : AreOfRuns runs) where
    each_first : (g : ℕ) (x y : RunText) → first_rivals (his_across g runs) ≡ Some (x, y) → IsFirstAcross (shown_runs runs) g x y
    each_first g x y e = subst (λ ts. IsFirstPair AreRivals ts x y) (sym (texts_same runs g are)) (rivals_found (his_across g runs) x y e)

    each_in : (g : ℕ) (x y : RunText) → IsFirstAcross (shown_runs runs) g x y → (o : Option (RunText × RunText)) → first_rivals (his_across g runs) ≡ o → Contains (accusing_across g o) (record { accused = g; claim = AcrossRuns x y })
    each_in g x y p None e =
        let q : IsFirstPair AreRivals (his_across g runs) x y = subst (λ ts. IsFirstPair AreRivals ts x y) (texts_same runs g are) p in
        absurd (none_so q (rivals_none (his_across g runs) e))
      where
        none_so : IsFirstPair AreRivals (his_across g runs) x y → NoPair AreRivals (his_across g runs) → ⊥
        none_so q none = none q.before (q.between ++ y ∷ q.after) x y q.split (Contains_behind q.between q.after) q.holds
          where
            Contains_behind : (front back : List RunText) → Contains (front ++ y ∷ back) y
            Contains_behind [] back = Contains_here y back
            Contains_behind (z ∷ zs) back = Contains_there z y (zs ++ y ∷ back) (Contains_behind zs back)
    each_in g x y p (Some q) e =
        let one = one_first_across (shown_runs runs) g x y q.0 q.1 p (each_first g q.0 q.1 e) in
        subst (λ (v : RunText). Contains (accusing_across g (Some q)) (record { accused = g; claim = AcrossRuns x v })) (sym one.1)
        (subst (λ (u : RunText). Contains (accusing_across g (Some q)) (record { accused = g; claim = AcrossRuns u q.1 })) (sym one.0) (Contains_here (record { accused = g; claim = AcrossRuns q.0 q.1 }) []))

    pub convicted_across : (n : ℕ) → n ≡ 16 → AreConvictedAcross (shown_runs runs) (accusations_across runs (range_with_len 0 n))
    unfolding accusations_across Step
    convicted_across n is = record {
      in_order = ascending 0 n;
      first = λ x c. let k = in_all 0 n x c in (omega (arith, k.1, is), (k.2.0, k.2.1, k.2.2, each_first x.accused k.2.0 k.2.1 k.2.3));
      each = λ g x y below p. flat_contains Step (range_with_len 0 n) g (record { accused = g; claim = AcrossRuns x y }) (Contains_in_range 0 n g (omega arith) (omega (arith, below, is))) (each_in g x y p (first_rivals (his_across g runs)) refl);
    }

    module _ (headers : (r : RunReports) → Contains runs r → IsHeader r.header) where
      lawful_runs : AreLawful (shown_runs runs)
      lawful_runs r c =
          let m = Contains_mapped shown_run runs r c in
          subst (λ (s : ShownRun). IsHeader s.header × AllBytes s.exhibits) m.2 (headers m.0 m.1, all_bytes m.0.header m.0.reports (are m.0 m.1))

      pub lawful_across : (n : ℕ) → AreEvidenceAcross (accusations_across runs (range_with_len 0 n))
      lawful_across n x v w c is =
          let k = (in_all 0 n x c).2 in
          let same = sym k.2 ∙ is in
          let first : k.0 ≡ v = cc in
          subst (λ (u : RunText). IsEvidence u.header x) first (across_lawful (shown_runs runs) x k.0 k.1 lawful_runs k.2 (each_first x.accused k.0 k.1 k.3))

      pub held_across : (n : ℕ) → n ≡ 16 → ConvictsAcrossWhereHeld (shown_runs runs) (accusations_across runs (range_with_len 0 n))
      held_across n is = convicts_where_held (shown_runs runs) (accusations_across runs (range_with_len 0 n)) lawful_runs (convicted_across n is)
