-- Findings sorted by their ranks, each once.
use Rattle.std.proofs.Common.{◌≡◌, ℕ, zero, suc, ◌+◌, ◌<◌, ◌≤◌, ◌⊎◌, ◌↔◌, ◌==◌, false, inl, inr, if◌then◌else◌, List, [], ◌∷◌, ◌++◌, get_or, length, take, Contains, AllPairs, refl, sym, ap, ◌∙◌, subst, arith, rules}
use Rattle.std.specs.declared.cmp.Ordering.{Ordering}
use Rattle.std.specs.Ordering.{is_lt, nat_cmp, ordering_then}
use Rattle.std.specs.List.Sorted.{IsSortedByKey}
use Rattle.std.proofs.lemmas.Bool.{cases_order}
use Rattle.std.proofs.lemmas.List.Elements.{Contains-append_left, Contains-push, Contains-push_cases}
use Rattle.std.proofs.lemmas.List.{take_more, take_all, get_or_default}
use Rattle.gen_types.proofs.Lists.{Contains_cases, Contains_nil, AllPairs-append}
use Rattle.gen_net.specs.Log.{Precedes}
use Rattle.gen_core.proofs.OrderedLists.{Precedes-trans, AllPairs-head, AllPairs-tail, only}
use Rattle.gen_chain.specs.declared.fault.ChainFault.{ChainFault}
use Rattle.gen_chain.specs.declared.fault.ChainFault.TheVariants as chain_faults
use Rattle.gen_log.specs.declared.fault.LogFault.{LogFault}
use Rattle.gen_log.specs.declared.fault.LogFault.TheVariants as log_faults
use Rattle.gen_match.specs.declared.finding.Finding.{Finding}
use Rattle.gen_match.specs.declared.finding.Finding.TheVariants.{Missing, Several, Unreadable, Foreign, Unsigned, Unsealed, Departs, Unmatched, Underivable, Unjoined, Nobody}
use Rattle.gen_match.specs.Findings.{finding_rank, AreFindings}
use Rattle.gen_audit.specs.declared.ranks.Rank.{Rank}
use Rattle.gen_audit.specs.Sorting.{sorting_rank, rank_cmp}

-- ---- ranks

-- the numbers of a rank
abbrev numbers : Rank → List ℕ
numbers p = p.number ∷ p.general ∷ p.detail ∷ p.round ∷ p.order ∷ []

-- a list written over zeros
abbrev over : List ℕ → List ℕ → List ℕ
over [] xs = []
over (z ∷ zs) [] = z ∷ zs
over (z ∷ zs) (x ∷ xs) = x ∷ over zs xs

abbrev zeros : List ℕ
zeros = 0 ∷ 0 ∷ 0 ∷ 0 ∷ 0 ∷ []

abbrev AreZeros : List ℕ → Type 0
AreZeros [] = Unit {0}
AreZeros (z ∷ zs) = (z ≡ 0) × AreZeros zs

irreflexive : (xs : List ℕ) → Precedes xs xs → ⊥
irreflexive [] h = h
irreflexive (x ∷ xs) (inl h) = omega arith
irreflexive (x ∷ xs) (inr h) = irreflexive xs h.1

-- nothing over zeros stands before the zeros
none_lower : (zs xs : List ℕ) → AreZeros zs → Precedes (over zs xs) zs → ⊥
none_lower [] xs are h = h
none_lower (z ∷ zs) [] are h = irreflexive (z ∷ zs) h
none_lower (z ∷ zs) (x ∷ xs) are (inl h) = omega (arith, are.0)
none_lower (z ∷ zs) (x ∷ xs) are (inr h) = none_lower zs xs are.1 h.1

-- what stands before over zeros stands before
uncovered : (zs xs ys : List ℕ) → AreZeros zs → Precedes (over zs xs) (over zs ys) → Precedes xs ys
uncovered [] xs ys are h = absurd h
uncovered (z ∷ zs) [] [] are h = absurd (irreflexive (z ∷ zs) h)
uncovered (z ∷ zs) [] (y ∷ ys) are h = tt
uncovered (z ∷ zs) (x ∷ xs) [] are h = absurd (none_lower (z ∷ zs) (x ∷ xs) are h)
uncovered (z ∷ zs) (x ∷ xs) (y ∷ ys) are (inl h) = inl h
uncovered (z ∷ zs) (x ∷ xs) (y ∷ ys) are (inr h) = inr (h.0, uncovered zs xs ys are.1 h.1)

numbers_are : (f : Finding) → numbers (sorting_rank f) ≡ over zeros (finding_rank f)
numbers_are (Missing g) = refl
numbers_are (Several g) = refl
numbers_are (Unreadable g log_faults.Truncated) = refl
numbers_are (Unreadable g log_faults.UnknownKind) = refl
numbers_are (Unreadable g log_faults.OutOfRange) = refl
numbers_are (Unreadable g log_faults.OutOfPlace) = refl
numbers_are (Unreadable g (log_faults.Chain fault)) = refl
numbers_are (Unreadable g log_faults.LeftOver) = refl
numbers_are (Foreign g) = refl
numbers_are (Unsigned g p) = refl
numbers_are (Unsealed g) = refl
numbers_are (Departs g p) = refl
numbers_are (Unmatched a b l v) = refl
numbers_are (Underivable a b l v) = refl
numbers_are (Unjoined a b) = refl
numbers_are Nobody = refl

-- ---- a rank gives back its finding

abbrev chain_fault_of : ℕ → ChainFault
chain_fault_of c =
    if c == 1 then chain_faults.Truncated else if c == 2 then chain_faults.OrderRange else if c == 3 then chain_faults.SignerCount
    else if c == 4 then chain_faults.BadSigner else chain_faults.NotFromCommander

abbrev log_fault_of : ℕ → ℕ → LogFault
log_fault_of d c =
    if d == 1 then log_faults.Truncated else if d == 2 then log_faults.UnknownKind else if d == 3 then log_faults.OutOfRange
    else if d == 4 then log_faults.OutOfPlace else if d == 5 then log_faults.Chain (chain_fault_of c) else log_faults.LeftOver

abbrev finding_of : Rank → Finding
finding_of p =
    if p.number == 1 then Missing p.general else if p.number == 2 then Several p.general
    else if p.number == 3 then Unreadable p.general (log_fault_of p.detail p.round) else if p.number == 4 then Foreign p.general
    else if p.number == 5 then Unsigned p.general p.detail else if p.number == 6 then Unsealed p.general
    else if p.number == 7 then Departs p.general p.detail else if p.number == 8 then Unmatched p.general p.detail p.round p.order
    else if p.number == 9 then Underivable p.general p.detail p.round p.order
    else if p.number == 10 then Unjoined p.general p.detail else Nobody

given_back : (f : Finding) → finding_of (sorting_rank f) ≡ f
given_back (Missing g) = refl
given_back (Several g) = refl
given_back (Unreadable g log_faults.Truncated) = refl
given_back (Unreadable g log_faults.UnknownKind) = refl
given_back (Unreadable g log_faults.OutOfRange) = refl
given_back (Unreadable g log_faults.OutOfPlace) = refl
given_back (Unreadable g (log_faults.Chain chain_faults.Truncated)) = refl
given_back (Unreadable g (log_faults.Chain chain_faults.OrderRange)) = refl
given_back (Unreadable g (log_faults.Chain chain_faults.SignerCount)) = refl
given_back (Unreadable g (log_faults.Chain chain_faults.BadSigner)) = refl
given_back (Unreadable g (log_faults.Chain chain_faults.NotFromCommander)) = refl
given_back (Unreadable g log_faults.LeftOver) = refl
given_back (Foreign g) = refl
given_back (Unsigned g p) = refl
given_back (Unsealed g) = refl
given_back (Departs g p) = refl
given_back (Unmatched a b l v) = refl
given_back (Underivable a b l v) = refl
given_back (Unjoined a b) = refl
given_back Nobody = refl

pub one_finding : (f g : Finding) → sorting_rank f ≡ sorting_rank g → f ≡ g
one_finding f g e = sym (given_back f) ∙ ap finding_of e ∙ given_back g

-- ---- the order of ranks

not_less : (x y : ℕ) (o : Ordering) → is_lt (ordering_then (nat_cmp x y) o) ≡ false → (y < x) ⊎ ((y ≡ x) × (is_lt o ≡ false))
not_less x y o h = elim (cases_order x y) [
  | inl e ↦ inr (sym e, search rules)
  | inr (inl l) ↦ search rules
  | inr (inr l) ↦ inl l
]

not_less_last : (x y : ℕ) → is_lt (nat_cmp x y) ≡ false → (y < x) ⊎ (y ≡ x)
not_less_last x y h = elim (cases_order x y) [
  | inl e ↦ inr (sym e)
  | inr (inl l) ↦ search rules
  | inr (inr l) ↦ inl l
]

abbrev rank_by : ℕ → ℕ → ℕ → ℕ → ℕ → Rank
rank_by n g d l v = record { number = n; general = g; detail = d; round = l; order = v }

-- a rank that is not before another is behind it, or the same
not_before : (a b : Rank) → is_lt (rank_cmp b a) ≡ false → Precedes (numbers a) (numbers b) ⊎ (a ≡ b)
not_before a b h = elim (not_less b.number a.number _ h) [
  | inl l ↦ inl (inl l)
  | inr (n, h1) ↦ elim (not_less b.general a.general _ h1) [
    | inl l ↦ inl (inr (n, inl l))
    | inr (g, h2) ↦ elim (not_less b.detail a.detail _ h2) [
      | inl l ↦ inl (inr (n, inr (g, inl l)))
      | inr (d, h3) ↦ elim (not_less b.round a.round _ h3) [
        | inl l ↦ inl (inr (n, inr (g, inr (d, inl l))))
        | inr (r, h4) ↦ elim (not_less_last b.order a.order h4) [
          | inl l ↦ inl (inr (n, inr (g, inr (d, inr (r, inl l)))))
          | inr v ↦ inr (λ i. rank_by (n i) (g i) (d i) (r i) (v i))
        ]
      ]
    ]
  ]
]

abbrev pub Stands : Finding → Finding → Type 0
Stands x y = Precedes (finding_rank x) (finding_rank y)

pub next_finding : (x y : Finding) → is_lt (rank_cmp (sorting_rank y) (sorting_rank x)) ≡ false → Stands x y ⊎ (x ≡ y)
next_finding x y h = elim (not_before (sorting_rank x) (sorting_rank y) h) [
  | inl l ↦ inl (uncovered zeros (finding_rank x) (finding_rank y) (refl, (refl, (refl, (refl, (refl, tt))))) (subst (λ ns. Precedes ns (over zeros (finding_rank y))) (numbers_are x) (subst (λ ns. Precedes (numbers (sorting_rank x)) ns) (numbers_are y) l)))
  | inr e ↦ inr (one_finding x y e)
]

-- ---- each once

-- the first i of the sorted findings, each once, in order; the last of them is the last
pub record OnceSoFar (sorted : List Finding) (i : ℕ) (out : List Finding) : Type 0 where
  pub in_order : AllPairs Stands out
  pub members : (f : Finding) → Contains out f ↔ Contains (take i sorted) f
  pub last : (j : ℕ) (d : Finding) → i ≡ j + 1 → (front : List Finding) × (out ≡ front ++ get_or sorted j d ∷ [])

-- all before the last stand before it
before_last : (front : List Finding) (y z : Finding) → AllPairs Stands (front ++ y ∷ []) → Contains front z → Stands z y
before_last [] y z all h = absurd (Contains_nil z h)
before_last (x ∷ front) y z all h = elim (Contains_cases x z front h) [
  | inl e ↦ subst (λ (w : Finding). Stands w y) e (AllPairs-head Stands x (front ++ y ∷ []) y all (Contains-push front y))
  | inr k ↦ before_last front y z (AllPairs-tail Stands x (front ++ y ∷ []) all) k
]

one_alone : (x : Finding) → AllPairs Stands (x ∷ [])
one_alone x i j d l m = absurd (omega arith)

module _ (sorted : List Finding) (rises : IsSortedByKey sorting_rank rank_cmp sorted) where
  -- the one before this one is the same, or stands before it
  one_before : (j : ℕ) (x : Finding) → j + 1 < length sorted → x ≡ get_or sorted (j + 1) x → Stands (get_or sorted j x) x ⊎ (get_or sorted j x ≡ x)
  one_before j x below is =
      let h : is_lt (rank_cmp (sorting_rank (get_or sorted (j + 1) x)) (sorting_rank (get_or sorted j x))) ≡ false = rises j x (omega arith) below in
      subst (λ (y : Finding). Stands (get_or sorted j x) y ⊎ (get_or sorted j x ≡ y)) (sym is) (next_finding (get_or sorted j x) (get_or sorted (j + 1) x) h)

  before_all : (out front : List Finding) (y x : Finding) → AllPairs Stands out → out ≡ front ++ y ∷ [] → Stands y x → (z : Finding) → Contains out z → Stands z x
  before_all out front y x all is l z h = elim (Contains-push_cases front y z (subst (λ fs. Contains fs z) is h)) [
    | inl k ↦ Precedes-trans (finding_rank z) (finding_rank y) (finding_rank x) (before_last front y z (subst (AllPairs Stands) is all) k) l
    | inr e ↦ subst (λ (w : Finding). Stands w x) e l
  ]

  members_more : (i : ℕ) (x : Finding) (out : List Finding) → i < length sorted → x ≡ get_or sorted i x → ((f : Finding) → Contains out f ↔ Contains (take i sorted) f) → (f : Finding) → Contains (out ++ x ∷ []) f ↔ Contains (take (i + 1) sorted) f
  members_more i x out below is members f = rw (take_more sorted i x below, ← is) (
    (λ h. elim (Contains-push_cases out x f h) [
      | inl k ↦ Contains-append_left (take i sorted) (x ∷ []) f ((members f).0 k)
      | inr e ↦ subst (Contains (take i sorted ++ x ∷ [])) e (Contains-push (take i sorted) x)
    ]),
    (λ h. elim (Contains-push_cases (take i sorted) x f h) [
      | inl k ↦ Contains-append_left out (x ∷ []) f ((members f).1 k)
      | inr e ↦ subst (Contains (out ++ x ∷ [])) e (Contains-push out x)
    ]),
  )

  same_at : (i : ℕ) (x d : Finding) → i < length sorted → x ≡ get_or sorted i x → get_or sorted i d ≡ x
  same_at i x d below is = get_or_default sorted i d x below ∙ sym is

  behind_all : (j : ℕ) (x : Finding) (out : List Finding) → j + 1 < length sorted → x ≡ get_or sorted (j + 1) x → OnceSoFar sorted (j + 1) out → ((front : List Finding) → out ≡ front ++ x ∷ [] → ⊥) → (z : Finding) → Contains out z → Stands z x
  behind_all j x out below is so new z h =
      let p = so.last j x refl in
      elim (one_before j x below is) [
        | inl stands ↦ before_all out p.0 (get_or sorted j x) x so.in_order p.1 stands z h
        | inr e ↦ absurd (new p.0 (p.1 ∙ ap (λ y. p.0 ++ y ∷ []) e))
      ]

  behind : (i : ℕ) (x : Finding) (out : List Finding) → i < length sorted → x ≡ get_or sorted i x → OnceSoFar sorted i out → ((front : List Finding) → out ≡ front ++ x ∷ [] → ⊥) → (z : Finding) → Contains out z → Stands z x
  behind zero x out below is so new z h = absurd (Contains_nil z ((so.members z).0 h))
  behind (suc j) x out below is so new z h =
      let e : suc j ≡ j + 1 = omega arith in
      behind_all j x out (omega (arith, below)) (subst (λ n. x ≡ get_or sorted n x) e is) (subst (λ n. OnceSoFar sorted n out) e so) new z h

  pub one_new : (i : ℕ) (x : Finding) (out : List Finding) → i < length sorted → x ≡ get_or sorted i x → OnceSoFar sorted i out → ((front : List Finding) → out ≡ front ++ x ∷ [] → ⊥) → OnceSoFar sorted (i + 1) (out ++ x ∷ [])
  one_new i x out below is so new = record {
    in_order = AllPairs-append Stands out (x ∷ []) so.in_order (one_alone x) (λ z w h k. subst (Stands z) (only x w k) (behind i x out below is so new z h));
    members = members_more i x out below is so.members;
    last = λ j d e. let q : i ≡ j = omega (arith, e) in (out, ap (λ y. out ++ y ∷ []) (sym (subst (λ n. get_or sorted n d ≡ x) q (same_at i x d below is))));
  }

  pub one_same : (i : ℕ) (x : Finding) (out : List Finding) → i < length sorted → x ≡ get_or sorted i x → OnceSoFar sorted i out → (front : List Finding) × (out ≡ front ++ x ∷ []) → OnceSoFar sorted (i + 1) out
  one_same i x out below is so last = record {
    in_order = so.in_order;
    members = λ f. (
      (λ h. (members_more i x out below is so.members f).0 (Contains-append_left out (x ∷ []) f h)),
      (λ h. elim (Contains-push_cases out x f ((members_more i x out below is so.members f).1 h)) [
        | inl k ↦ k
        | inr e ↦ subst (Contains out) e (subst (λ fs. Contains fs x) (sym last.1) (Contains-push last.0 x))
      ]),
    );
    last = λ j d e. let q : i ≡ j = omega (arith, e) in (last.0, last.1 ∙ ap (λ y. last.0 ++ y ∷ []) (sym (subst (λ n. get_or sorted n d ≡ x) q (same_at i x d below is))));
  }

  pub all_once : (i : ℕ) (out : List Finding) → length sorted ≤ i → OnceSoFar sorted i out → AreFindings (Contains sorted) out
  all_once i out ends so = record {
    in_order = so.in_order;
    members = λ f. subst (λ fs. Contains out f ↔ Contains fs f) (take_all i sorted ends) (so.members f);
  }

pub are_findings_as : (P Q : Finding → Type 0) → ((f : Finding) → P f ↔ Q f) → (findings : List Finding) → AreFindings P findings → AreFindings Q findings
are_findings_as P Q same findings are = record {
  in_order = are.in_order;
  members = λ f. ((λ h. (same f).0 ((are.members f).0 h)), (λ q. (are.members f).1 ((same f).1 q)));
}
