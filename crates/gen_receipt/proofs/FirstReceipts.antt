-- The first receipt that has a property, and the first two of a general that hold and are unlike.
use Rattle.std.proofs.Common.{◌≡◌, ℕ, inl, inr, List, [], ◌∷◌, ◌++◌, Contains, Result, Ok, Err, Option, Some, None, refl, sym, ap, subst, append_assoc, ◌∙◌}
use Rattle.std.specs.Prelude.{IfOk, IfNone, IfSome}
use Rattle.std.proofs.lemmas.List.{append-nil}
use Rattle.std.proofs.lemmas.List.Elements.{Contains-append_cases, Contains-append_right}
use Rattle.gen_types.proofs.Lists.{Contains-middle, Contains_cases, Contains_nil}
use Rattle.gen_net.specs.Header.{RunHeader}
use Rattle.gen_convict.specs.declared.evidence.Evidence.{Evidence}
use Rattle.gen_convict.proofs.Refuted.{head_or_not}
use Rattle.gen_receipt.specs.declared.receipts.Receipt.{Receipt}
use Rattle.gen_receipt.specs.Convicting.{AreFirstUnlike, ConvictsByReceipts, HasNone, HoldForOne, HoldsFor, IsConvicted, IsFirst, IsFirstEvidence, IsUnlike}
use Rattle.gen_receipt.specs.Receipts.{AreReceipts, head_of}

-- ---- the loop

-- none of the receipts before the rest has the property
pub record NotYet (Is : Receipt → Type 0) (all rest : List Receipt) : Type 0 where
  pub before : List Receipt
  pub parts : all ≡ before ++ rest
  pub none : HasNone Is before

pub none_before : (Is : Receipt → Type 0) (all : List Receipt) → NotYet Is all all
none_before Is all = record { before = []; parts = refl; none = λ r at. absurd (Contains_nil r at) }

-- the next receipt is one of all
pub next_given : (Is : Receipt → Type 0) (all rest behind : List Receipt) (r : Receipt) → NotYet Is all rest → rest ≡ r ∷ behind → Contains all r
next_given Is all rest behind r yet e =
    subst (λ (rs : List Receipt). Contains rs r) (sym (yet.parts ∙ ap (λ (xs : List Receipt). yet.before ++ xs) e)) (Contains-middle yet.before r behind)

pub next_is : (Is : Receipt → Type 0) (all rest behind : List Receipt) (r : Receipt) → NotYet Is all rest → rest ≡ r ∷ behind → Is r → IsFirst Is all r behind
next_is Is all rest behind r yet e is = record {
  before = yet.before;
  parts = yet.parts ∙ ap (λ (xs : List Receipt). yet.before ++ xs) e;
  is = is;
  none = yet.none;
}

pub next_is_not : (Is : Receipt → Type 0) (all rest behind : List Receipt) (r : Receipt) → NotYet Is all rest → rest ≡ r ∷ behind → (Is r → ⊥) → NotYet Is all behind
next_is_not Is all rest behind r yet e other = record {
  before = yet.before ++ r ∷ [];
  parts = yet.parts ∙ ap (λ (xs : List Receipt). yet.before ++ xs) e ∙ sym (append_assoc yet.before (r ∷ []) behind);
  none = λ x at. elim (Contains-append_cases yet.before (r ∷ []) x at) [
    | inl earlier ↦ yet.none x earlier
    | inr last ↦ elim (Contains_cases r x [] last) [
      | inl same ↦ λ is. other (subst Is (sym same) is)
      | inr none ↦ absurd (Contains_nil x none)
    ]
  ];
}

pub none_at_all : (Is : Receipt → Type 0) (all rest : List Receipt) → NotYet Is all rest → rest ≡ [] → HasNone Is all
none_at_all Is all rest yet e =
    subst (HasNone Is) (sym (yet.parts ∙ ap (λ (xs : List Receipt). yet.before ++ xs) e ∙ append-nil yet.before)) yet.none

-- ---- two receipts

pub first_given : (Is : Receipt → Type 0) (rs behind : List Receipt) (r : Receipt) → IsFirst Is rs r behind → Contains rs r
first_given Is rs behind r first = subst (λ (xs : List Receipt). Contains xs r) (sym first.parts) (Contains-middle first.before r behind)

pub behind_given : (Is : Receipt → Type 0) (rs behind : List Receipt) (r x : Receipt) → IsFirst Is rs r behind → Contains behind x → Contains rs x
behind_given Is rs behind r x first at =
    subst (λ (xs : List Receipt). Contains xs x) (sym first.parts)
    (Contains-append_right first.before (r ∷ behind) x (Contains-append_right (r ∷ []) behind x at))

-- the receipts behind the first can be ones of the run
pub are_behind : (h : RunHeader) (Is : Receipt → Type 0) (rs behind : List Receipt) (r : Receipt) → AreReceipts h rs → IsFirst Is rs r behind → AreReceipts h behind
are_behind h Is rs behind r are first x at = are x (behind_given Is rs behind r x first at)

-- where no receipt of g is unlike the first of g that holds, all that hold have its head
head_like : (h : RunHeader) (g : ℕ) (rs behind : List Receipt) (r x : Receipt) → IsFirst (HoldsFor h g) rs r behind → HasNone (IsUnlike h r) behind → Contains rs x → HoldsFor h g x → head_of x ≡ head_of r
head_like h g rs behind r x first none at holds = elim (Contains-append_cases first.before (r ∷ behind) x (subst (λ (xs : List Receipt). Contains xs x) first.parts at)) [
  | inl earlier ↦ absurd (first.none x earlier holds)
  | inr later ↦ elim (Contains_cases r x behind later) [
    | inl same ↦ ap head_of (sym same)
    | inr further ↦ elim (head_or_not (head_of x) (head_of r)) [
      | inl like ↦ like
      | inr differ ↦ absurd (none x further ((holds.0 ∙ sym first.is.0, holds.1), differ))
    ]
  ]
]

pub not_by_none : (h : RunHeader) (g : ℕ) (rs : List Receipt) → HasNone (HoldsFor h g) rs → IsConvicted h rs g → ⊥
not_by_none h g rs none convicted = none convicted.first convicted.first_given convicted.first_holds

pub not_by_one : (h : RunHeader) (g : ℕ) (rs behind : List Receipt) (r : Receipt) → IsFirst (HoldsFor h g) rs r behind → HasNone (IsUnlike h r) behind → IsConvicted h rs g → ⊥
not_by_one h g rs behind r first none convicted =
    let a = head_like h g rs behind r convicted.first first none convicted.first_given convicted.first_holds in
    let b = head_like h g rs behind r convicted.second first none convicted.second_given convicted.second_holds in
    convicted.differ (a ∙ sym b)

pub hold_for_one : (h : RunHeader) (g : ℕ) (rs behind last : List Receipt) (r s : Receipt) → AreReceipts h rs → IsFirst (HoldsFor h g) rs r behind → IsFirst (IsUnlike h r) behind s last → HoldForOne h r s
hold_for_one h g rs behind last r s are first second = record {
  first = are r (first_given (HoldsFor h g) rs behind r first);
  second = are s (behind_given (HoldsFor h g) rs behind r s first (first_given (IsUnlike h r) behind last s second));
  one = second.is.0.0;
  first_holds = first.is.1;
  second_holds = second.is.0.1;
}

is_convicted : (h : RunHeader) (g : ℕ) (rs behind last : List Receipt) (r s : Receipt) → IsFirst (HoldsFor h g) rs r behind → IsFirst (IsUnlike h r) behind s last → IsConvicted h rs g
is_convicted h g rs behind last r s first second = record {
  first = r;
  second = s;
  first_given = first_given (HoldsFor h g) rs behind r first;
  second_given = behind_given (HoldsFor h g) rs behind r s first (first_given (IsUnlike h r) behind last s second);
  first_holds = first.is;
  second_holds = (second.is.0.0 ∙ first.is.0, second.is.0.1);
  differ = λ e. second.is.1 (sym e);
}

-- ---- what the call for two receipts answers

found_by : {E : Type 0} (h : RunHeader) (g : ℕ) (rs : List Receipt) (r s : Receipt) (answer : Result (Option Evidence) E) → AreFirstUnlike h rs g r s → IfOk answer (λ found. IfSome found (ConvictsByReceipts h r s)) → IfOk answer (λ found. IfSome found (IsFirstEvidence h rs g))
found_by h g rs r s (Ok (Some e)) first convicts = (r, s, first, convicts)
found_by h g rs r s (Ok None) first convicts = tt
found_by h g rs r s (Err e) first convicts = tt

pub is_found : {E : Type 0} (h : RunHeader) (g : ℕ) (rs behind last : List Receipt) (r s : Receipt) (answer : Result (Option Evidence) E) → IsFirst (HoldsFor h g) rs r behind → IsFirst (IsUnlike h r) behind s last → IfOk answer (λ found. IfSome found (ConvictsByReceipts h r s)) → IfOk answer (λ found. IfSome found (IsFirstEvidence h rs g))
is_found h g rs behind last r s answer first second convicts =
    found_by h g rs r s answer (record { behind = behind; first = first; last = last; second = second }) convicts

some_by : {E : Type 0} (answer : Result (Option Evidence) E) (P : Type 0) → P → IfOk answer (λ found. IfSome found (λ _. P))
some_by (Ok (Some e)) P p = p
some_by (Ok None) P p = tt
some_by (Err e) P p = tt

pub is_some : {E : Type 0} (h : RunHeader) (g : ℕ) (rs behind last : List Receipt) (r s : Receipt) (answer : Result (Option Evidence) E) → IsFirst (HoldsFor h g) rs r behind → IsFirst (IsUnlike h r) behind s last → IfOk answer (λ found. IfSome found (λ _. IsConvicted h rs g))
is_some h g rs behind last r s answer first second = some_by answer (IsConvicted h rs g) (is_convicted h g rs behind last r s first second)

none_by : {E : Type 0} (answer : Result (Option Evidence) E) (P Q : Type 0) → (P → Q) → IfOk answer (λ found. IfNone found P) → IfOk answer (λ found. IfNone found Q)
none_by (Ok (Some e)) P Q give given = tt
none_by (Ok None) P Q give given = give given
none_by (Err e) P Q give given = tt

pub is_none : {E : Type 0} (h : RunHeader) (g : ℕ) (rs behind last : List Receipt) (r s : Receipt) (answer : Result (Option Evidence) E) → IsFirst (IsUnlike h r) behind s last → IfOk answer (λ found. IfNone found (head_of r ≡ head_of s)) → IfOk answer (λ found. IfNone found (IsConvicted h rs g → ⊥))
is_none h g rs behind last r s answer second given =
    none_by answer (head_of r ≡ head_of s) (IsConvicted h rs g → ⊥) (λ e. absurd (second.is.1 (sym e))) given
