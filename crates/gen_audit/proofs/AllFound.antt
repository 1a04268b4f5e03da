-- The groups of findings are all that is found in a bundle.
use Rattle.std.proofs.Common.{◌≡◌, ℕ, ◌↔◌, inl, inr, List, [], ◌∷◌, length, Contains, refl, sym, subst}
use Rattle.std.specs.List.{flat_map}
use Rattle.gen_types.specs.Ascending.{IsListOf}
use Rattle.gen_types.proofs.Lists.{Contains_here, Contains_cases, Contains_nil, Contains_flat_mapped}
use Rattle.gen_core.proofs.OrderedLists.{in_flat_map, one_list}
use Rattle.gen_walks.specs.Walks.{Bridges, IsLeastBadPair}
use Rattle.gen_local.specs.Report.{LocalReport}
use Rattle.gen_log.specs.Writing.{LogBytes}
use Rattle.gen_match.specs.declared.finding.Finding.{Finding}
use Rattle.gen_match.specs.declared.finding.Finding.TheVariants.{Missing, Several, Unreadable, Foreign, Unsigned, Unsealed, Departs, Unmatched, Underivable, Unjoined, Nobody}
use Rattle.gen_match.specs.Matching.{Logs, FindsUnmatched, FindsUnderivable, IsUnmatched, IsUnderivable}
use Rattle.gen_match.specs.Reports.{told_logs}
use Rattle.gen_audit.specs.Bundle.{Bundle, IsOfRest, exhibits_of, logs_of}
use Rattle.gen_audit.specs.Collecting.{AddsFindings, amount_found, shown_found, FindsRead, FindsBetween, FindsUnjoined}
use Rattle.gen_audit.specs.Findings.{IsFinding}
use Rattle.gen_audit.specs.LocalFindings.{IsLocal, IsReported}
use Rattle.gen_audit.specs.Telling.{AreReports}
use Rattle.gen_audit.proofs.LocalFinds.{reports_find_local, back}
use Rattle.gen_audit.proofs.Telling.{reports_tell_logs}

-- ---- how much is shown

amount_is : (b : Bundle) (g : ℕ) → IsOfRest b g → (xs : List LogBytes) → exhibits_of b.exhibits g ≡ xs → (f : Finding) → Contains (amount_found g (length xs)) f → IsFinding b f
amount_is b g of_rest [] e f h = elim (Contains_cases (Missing g) f [] h) [
  | inl q ↦ subst (IsFinding b) q (of_rest, e)
  | inr none ↦ absurd (Contains_nil f none)
]
amount_is b g of_rest (x ∷ []) e f h = absurd (Contains_nil f h)
amount_is b g of_rest (x ∷ y ∷ more) e f h = elim (Contains_cases (Several g) f [] h) [
  | inl q ↦ subst (IsFinding b) q (of_rest, (x, y, more, e))
  | inr none ↦ absurd (Contains_nil f none)
]

module _ (b : Bundle) (rest : List ℕ) (of_rest : IsListOf rest (IsOfRest b)) where
  amounts_are : (f : Finding) → Contains (flat_map (shown_found b.exhibits) rest) f → IsFinding b f
  amounts_are f h =
      let k = Contains_flat_mapped (shown_found b.exhibits) rest f h in
      amount_is b k.0 ((of_rest.members k.0).0 k.1) (exhibits_of b.exhibits k.0) refl f k.2

  amount_in : (g : ℕ) → IsOfRest b g → (f : Finding) → Contains (shown_found b.exhibits g) f → Contains (flat_map (shown_found b.exhibits) rest) f
  amount_in g is f h = in_flat_map (shown_found b.exhibits) rest g f ((of_rest.members g).1 is) h

  missing_in : (g : ℕ) → IsFinding b (Missing g) → Contains (flat_map (shown_found b.exhibits) rest) (Missing g)
  missing_in g is = amount_in g is.0 (Missing g) (subst (λ xs. Contains (amount_found g (length xs)) (Missing g)) (sym is.1) (Contains_here (Missing g) []))

  several_in : (g : ℕ) → IsFinding b (Several g) → Contains (flat_map (shown_found b.exhibits) rest) (Several g)
  several_in g is = amount_in g is.0 (Several g) (subst (λ xs. Contains (amount_found g (length xs)) (Several g)) (sym is.1.3) (Contains_here (Several g) []))

  -- ---- pairs, and nobody

  unjoined_is : (f : Finding) → FindsUnjoined b.header.network rest b.walks f → IsFinding b f
  unjoined_is (Unjoined a c) is = (rest, of_rest, is)
  unjoined_is Nobody is = λ g h. Contains_nil g (subst (λ xs. Contains xs g) is ((of_rest.members g).1 h))
  unjoined_is (Missing g) is = absurd is
  unjoined_is (Several g) is = absurd is
  unjoined_is (Unreadable g fault) is = absurd is
  unjoined_is (Foreign g) is = absurd is
  unjoined_is (Unsigned g p) is = absurd is
  unjoined_is (Unsealed g) is = absurd is
  unjoined_is (Departs g p) is = absurd is
  unjoined_is (Unmatched x y l v) is = absurd is
  unjoined_is (Underivable x y l v) is = absurd is

  pair_in : (a c : ℕ) → IsFinding b (Unjoined a c) → FindsUnjoined b.header.network rest b.walks (Unjoined a c)
  pair_in a c is =
      subst (λ xs. IsLeastBadPair b.header.network xs (Bridges b.header.network xs b.walks) a c) (one_list (IsOfRest b) is.0 rest is.1 of_rest) is.2

no_member : (xs : List ℕ) → ((g : ℕ) → Contains xs g → ⊥) → xs ≡ []
no_member [] none = refl
no_member (x ∷ xs) none = absurd (none x (Contains_here x xs))

-- ---- between logs

module _ (b : Bundle) (logs : Logs) (same : logs ≡ logs_of b) where
  unmatched_is : (f : Finding) → FindsUnmatched b.header.network b.faulty logs f → IsFinding b f
  unmatched_is (Unmatched x y l v) is = subst (λ ls. IsUnmatched b.header.network b.faulty ls x y l v) same is
  unmatched_is (Missing g) is = absurd is
  unmatched_is (Several g) is = absurd is
  unmatched_is (Unreadable g fault) is = absurd is
  unmatched_is (Foreign g) is = absurd is
  unmatched_is (Unsigned g p) is = absurd is
  unmatched_is (Unsealed g) is = absurd is
  unmatched_is (Departs g p) is = absurd is
  unmatched_is (Underivable x y l v) is = absurd is
  unmatched_is (Unjoined a c) is = absurd is
  unmatched_is Nobody is = absurd is

  underivable_is : (f : Finding) → FindsUnderivable b.header.network b.faulty logs f → IsFinding b f
  underivable_is (Underivable x y l v) is = subst (λ ls. IsUnderivable b.header.network b.faulty ls x y l v) same is
  underivable_is (Missing g) is = absurd is
  underivable_is (Several g) is = absurd is
  underivable_is (Unreadable g fault) is = absurd is
  underivable_is (Foreign g) is = absurd is
  underivable_is (Unsigned g p) is = absurd is
  underivable_is (Unsealed g) is = absurd is
  underivable_is (Departs g p) is = absurd is
  underivable_is (Unmatched x y l v) is = absurd is
  underivable_is (Unjoined a c) is = absurd is
  underivable_is Nobody is = absurd is

-- ---- all

-- the groups, added one behind another
pub record AddsAll (b : Bundle) (rest : List ℕ) (reports : List LocalReport) (amounts read between all : List Finding) : Type 0 where
  pub first : amounts ≡ flat_map (shown_found b.exhibits) rest
  pub second : AddsFindings (FindsRead rest reports) amounts read
  pub third : AddsFindings (FindsBetween b.header.network b.faulty (told_logs reports)) read between
  pub fourth : AddsFindings (FindsUnjoined b.header.network rest b.walks) between all

module _ (b : Bundle) (rest : List ℕ) (of_rest : IsListOf rest (IsOfRest b)) (reports : List LocalReport) (are : AreReports b reports) (amounts read between all : List Finding) (adds : AddsAll b rest reports amounts read between all) where
  same_logs : told_logs reports ≡ logs_of b
  same_logs = λ i g. reports_tell_logs b reports are g i

  read_is : (f : Finding) → FindsRead rest reports f → IsFinding b f
  read_is f (r, c, h) = back b reports are f (r, c, (of_rest.members r.exhibit.general).0 h.0, h.1)

  read_in : (f : Finding) → IsReported b reports f → FindsRead rest reports f
  read_in f (r, c, is, h) = (r, c, ((of_rest.members r.exhibit.general).1 is, h))

  are_found : (f : Finding) → Contains all f → IsFinding b f
  are_found f h = elim ((adds.fourth f).0 h) [
    | inr u ↦ unjoined_is b rest of_rest f u
    | inl h3 ↦ elim ((adds.third f).0 h3) [
      | inr (inl m) ↦ unmatched_is b (told_logs reports) same_logs f m
      | inr (inr m) ↦ underivable_is b (told_logs reports) same_logs f m
      | inl h2 ↦ elim ((adds.second f).0 h2) [
        | inr r ↦ read_is f r
        | inl h1 ↦ amounts_are b rest of_rest f (subst (λ fs. Contains fs f) adds.first h1)
      ]
    ]
  ]

  from_between : (f : Finding) → Contains between f → Contains all f
  from_between f h = (adds.fourth f).1 (inl h)

  from_read : (f : Finding) → Contains read f → Contains all f
  from_read f h = from_between f ((adds.third f).1 (inl h))

  from_amounts : (f : Finding) → Contains (flat_map (shown_found b.exhibits) rest) f → Contains all f
  from_amounts f h = from_read f ((adds.second f).1 (inl (subst (λ fs. Contains fs f) (sym adds.first) h)))

  local_in : (f : Finding) → IsLocal f → IsFinding b f → Contains all f
  local_in f l is = from_read f ((adds.second f).1 (inr (read_in f ((reports_find_local b reports are f l).0 is))))

  are_in : (f : Finding) → IsFinding b f → Contains all f
  are_in (Missing g) is = from_amounts (Missing g) (missing_in b rest of_rest g is)
  are_in (Several g) is = from_amounts (Several g) (several_in b rest of_rest g is)
  are_in (Unreadable g fault) is = local_in (Unreadable g fault) tt is
  are_in (Foreign g) is = local_in (Foreign g) tt is
  are_in (Unsigned g p) is = local_in (Unsigned g p) tt is
  are_in (Unsealed g) is = local_in (Unsealed g) tt is
  are_in (Departs g p) is = local_in (Departs g p) tt is
  are_in (Unmatched x y l v) is = from_between (Unmatched x y l v) ((adds.third (Unmatched x y l v)).1 (inr (inl (subst (λ ls. IsUnmatched b.header.network b.faulty ls x y l v) (sym same_logs) is))))
  are_in (Underivable x y l v) is = from_between (Underivable x y l v) ((adds.third (Underivable x y l v)).1 (inr (inr (subst (λ ls. IsUnderivable b.header.network b.faulty ls x y l v) (sym same_logs) is))))
  are_in (Unjoined a c) is = (adds.fourth (Unjoined a c)).1 (inr (pair_in b rest of_rest a c is))
  are_in Nobody is = (adds.fourth Nobody).1 (inr (no_member rest (λ g h. is g ((of_rest.members g).0 h))))

  pub all_found : (f : Finding) → Contains all f ↔ IsFinding b f
  all_found f = (are_found f, are_in f)
