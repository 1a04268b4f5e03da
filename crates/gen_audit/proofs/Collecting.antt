-- Findings in groups.
use Rattle.std.proofs.Common.{◌≡◌, ℕ, ◌+◌, ◌<◌, ◌⊎◌, ◌↔◌, refl, inl, inr, List, [], ◌∷◌, ◌++◌, get_or, length, take, Contains, sym, subst}
use Rattle.std.proofs.lemmas.Bool.{cases_order}
use Rattle.std.proofs.lemmas.List.Elements.{Contains-append_left, Contains-append_right, Contains-append_cases, Contains-push, Contains-push_cases}
use Rattle.std.proofs.lemmas.List.{take_more}
use Rattle.gen_types.proofs.Lists.{Contains_here, Contains_cases, Contains_nil}
use Rattle.gen_net.specs.Network.{Network}
use Rattle.gen_walks.specs.Walks.{BoundsDiameter, Bridges, IsLeastBadPair}
use Rattle.gen_local.specs.Report.{LocalReport}
use Rattle.gen_match.specs.declared.finding.Finding.{Finding}
use Rattle.gen_match.specs.declared.finding.Finding.TheVariants.{Missing, Several, Unreadable, Foreign, Unsigned, Unsealed, Departs, Unmatched, Underivable, Unjoined, Nobody}
use Rattle.gen_audit.specs.Collecting.{AddsFindings, FindsIn, FindsRead, FindsUnjoined}
use Rattle.gen_audit.specs.LocalFindings.{finds}

-- ---- what is added

pub adds_part : (P : Finding → Type 0) (old part : List Finding) → ((f : Finding) → Contains part f ↔ P f) → AddsFindings P old (old ++ part)
adds_part P old part is f = (
  (λ h. elim (Contains-append_cases old part f h) [ inl before ↦ inl before | inr added ↦ inr ((is f).0 added) ]),
  (λ h. elim h [ inl before ↦ Contains-append_left old part f before | inr p ↦ Contains-append_right old part f ((is f).1 p) ]),
)

pub adds_both : (P Q : Finding → Type 0) (old mid new : List Finding) → AddsFindings P old mid → AddsFindings Q mid new → AddsFindings (λ f. P f ⊎ Q f) old new
adds_both P Q old mid new one other f = (
  (λ h. elim ((other f).0 h) [
    | inl m ↦ elim ((one f).0 m) [ inl before ↦ inl before | inr p ↦ inr (inl p) ]
    | inr q ↦ inr (inr q)
  ]),
  (λ h. elim h [
    | inl before ↦ (other f).1 (inl ((one f).1 (inl before)))
    | inr (inl p) ↦ (other f).1 (inl ((one f).1 (inr p)))
    | inr (inr q) ↦ (other f).1 (inr q)
  ]),
)

pub adds_as : (P Q : Finding → Type 0) (old new : List Finding) → ((f : Finding) → P f ↔ Q f) → AddsFindings P old new → AddsFindings Q old new
adds_as P Q old new same adds f = (
  (λ h. elim ((adds f).0 h) [ inl before ↦ inl before | inr p ↦ inr ((same f).0 p) ]),
  (λ h. elim h [ inl before ↦ (adds f).1 (inl before) | inr q ↦ (adds f).1 (inr ((same f).1 q)) ]),
)

-- ---- reports

one_more_read : (rest : List ℕ) (reports : List LocalReport) (i : ℕ) (d : LocalReport) → i < length reports → (f : Finding) → (FindsRead rest (take i reports) f ⊎ FindsIn rest (get_or reports i d) f) ↔ FindsRead rest (take (i + 1) reports) f
one_more_read rest reports i d below f = rw (take_more reports i d below) (
  (λ h. elim h [
    | inl (r, c, is) ↦ (r, Contains-append_left (take i reports) (get_or reports i d ∷ []) r c, is)
    | inr is ↦ (get_or reports i d, Contains-push (take i reports) (get_or reports i d), is)
  ]),
  (λ h. elim (Contains-push_cases (take i reports) (get_or reports i d) h.0 h.1) [
    | inl c ↦ inl (h.0, c, h.2)
    | inr e ↦ inr (subst (λ (r : LocalReport). FindsIn rest r f) (sym e) h.2)
  ]),
)

-- what the next report finds is added
pub next_read : (rest : List ℕ) (reports : List LocalReport) (i : ℕ) (r : LocalReport) (start old new : List Finding) → i < length reports → r ≡ get_or reports i r → AddsFindings (FindsRead rest (take i reports)) start old
    → AddsFindings (FindsIn rest r) old new → AddsFindings (FindsRead rest (take (i + 1) reports)) start new
next_read rest reports i r start old new below is before more =
    adds_as (λ f. FindsRead rest (take i reports) f ⊎ FindsIn rest r f) (FindsRead rest (take (i + 1) reports)) start new
    (subst (λ (x : LocalReport). (f : Finding) → (FindsRead rest (take i reports) f ⊎ FindsIn rest x f) ↔ FindsRead rest (take (i + 1) reports) f) (sym is) (one_more_read rest reports i r below))
    (adds_both (FindsRead rest (take i reports)) (FindsIn rest r) start old new before more)

-- the report of a general of the set, and that of another general
pub inside_added : (rest : List ℕ) (r : LocalReport) (old : List Finding) → Contains rest r.exhibit.general → AddsFindings (FindsIn rest r) old (old ++ finds r.exhibit.general r.reading)
inside_added rest r old inside = adds_part (FindsIn rest r) old (finds r.exhibit.general r.reading) (λ f. ((λ h. (inside, h)), (λ h. h.1)))

pub outside_added : (rest : List ℕ) (r : LocalReport) (old : List Finding) → (Contains rest r.exhibit.general → ⊥) → AddsFindings (FindsIn rest r) old old
outside_added rest r old outside f = (inl, (λ h. elim h [ inl before ↦ before | inr is ↦ absurd (outside is.0) ]))

-- ---- the least bad pair

module _ (net : Network) (rest : List ℕ) (walks : List (List ℕ)) where
  one_pair : (a c x y : ℕ) → IsLeastBadPair net rest (Bridges net rest walks) a c → IsLeastBadPair net rest (Bridges net rest walks) x y → (a ≡ x) × (c ≡ y)
  one_pair a c x y one other = elim (cases_order a x) [
    | inl e ↦ elim (cases_order c y) [
      | inl q ↦ (e, q)
      | inr (inl l) ↦ absurd (one.bad (other.least a c (one.pair, inr (e, l))))
      | inr (inr l) ↦ absurd (other.bad (one.least x y (other.pair, inr (sym e, l))))
    ]
    | inr (inl l) ↦ absurd (one.bad (other.least a c (one.pair, inl l)))
    | inr (inr l) ↦ absurd (other.bad (one.least x y (other.pair, inl l)))
  ]

  finds_pair : (a c : ℕ) → IsLeastBadPair net rest (Bridges net rest walks) a c → (f : Finding) → FindsUnjoined net rest walks f → Unjoined a c ≡ f
  finds_pair a c least (Unjoined x y) is = let e = one_pair a c x y least is in λ i. Unjoined (e.0 i) (e.1 i)
  finds_pair a c least Nobody is = absurd (Contains_nil a (subst (λ xs. Contains xs a) is least.pair.1.1))
  finds_pair a c least (Missing g) is = absurd is
  finds_pair a c least (Several g) is = absurd is
  finds_pair a c least (Unreadable g fault) is = absurd is
  finds_pair a c least (Foreign g) is = absurd is
  finds_pair a c least (Unsigned g p) is = absurd is
  finds_pair a c least (Unsealed g) is = absurd is
  finds_pair a c least (Departs g p) is = absurd is
  finds_pair a c least (Unmatched x y l v) is = absurd is
  finds_pair a c least (Underivable x y l v) is = absurd is

  finds_nobody : rest ≡ [] → (f : Finding) → FindsUnjoined net rest walks f → Nobody ≡ f
  finds_nobody none Nobody is = refl
  finds_nobody none (Unjoined x y) is = absurd (Contains_nil x (subst (λ xs. Contains xs x) none is.pair.1.1))
  finds_nobody none (Missing g) is = absurd is
  finds_nobody none (Several g) is = absurd is
  finds_nobody none (Unreadable g fault) is = absurd is
  finds_nobody none (Foreign g) is = absurd is
  finds_nobody none (Unsigned g p) is = absurd is
  finds_nobody none (Unsealed g) is = absurd is
  finds_nobody none (Departs g p) is = absurd is
  finds_nobody none (Unmatched x y l v) is = absurd is
  finds_nobody none (Underivable x y l v) is = absurd is

  finds_nothing : (rest ≡ [] → ⊥) → BoundsDiameter net rest walks → (f : Finding) → FindsUnjoined net rest walks f → ⊥
  finds_nothing some bounds Nobody is = some is
  finds_nothing some bounds (Unjoined x y) is = is.bad (bounds x y is.pair)
  finds_nothing some bounds (Missing g) is = is
  finds_nothing some bounds (Several g) is = is
  finds_nothing some bounds (Unreadable g fault) is = is
  finds_nothing some bounds (Foreign g) is = is
  finds_nothing some bounds (Unsigned g p) is = is
  finds_nothing some bounds (Unsealed g) is = is
  finds_nothing some bounds (Departs g p) is = is
  finds_nothing some bounds (Unmatched x y l v) is = is
  finds_nothing some bounds (Underivable x y l v) is = is

  -- a finding that stands alone is added
  one_added : (old : List Finding) (x : Finding) → FindsUnjoined net rest walks x → ((f : Finding) → FindsUnjoined net rest walks f → x ≡ f) → AddsFindings (FindsUnjoined net rest walks) old (old ++ x ∷ [])
  one_added old x found alone = adds_part (FindsUnjoined net rest walks) old (x ∷ []) (λ f. (
    (λ h. elim (Contains_cases x f [] h) [ inl e ↦ subst (FindsUnjoined net rest walks) e found | inr none ↦ absurd (Contains_nil f none) ]),
    (λ is. subst (Contains (x ∷ [])) (alone f is) (Contains_here x [])),
  ))

  pub pair_added : (old : List Finding) (a c : ℕ) → IsLeastBadPair net rest (Bridges net rest walks) a c → AddsFindings (FindsUnjoined net rest walks) old (old ++ Unjoined a c ∷ [])
  pair_added old a c least = one_added old (Unjoined a c) least (finds_pair a c least)

  pub nobody_added : (old : List Finding) → rest ≡ [] → AddsFindings (FindsUnjoined net rest walks) old (old ++ Nobody ∷ [])
  nobody_added old none = one_added old Nobody none (finds_nobody none)

  pub nothing_added : (old : List Finding) → (rest ≡ [] → ⊥) → BoundsDiameter net rest walks → AddsFindings (FindsUnjoined net rest walks) old old
  nothing_added old some bounds f = (inl, (λ h. elim h [ inl before ↦ before | inr is ↦ absurd (finds_nothing some bounds f is) ]))
