-- The orders that were heard, one after another.
use Rattle.std.proofs.Common.{◌≡◌, ℕ, Bool, IsTrue, true, false, ◌↔◌, List, [], eqb, Contains, inl, inr, ◌⊎◌, ◌<◌, ◌+◌, arith, filter, subst, sym, AllPairs}
use Rattle.std.specs.List.{range_with_len, list_any}
use Rattle.std.proofs.lemmas.Bool.{eqb-true, eq-eqb}
use Rattle.gen_types.specs.Ascending.{IsListOf}
use Rattle.gen_types.specs.Members.{filter_range_has, filter_range_gives, filter_range_ascending}
use Rattle.gen_types.proofs.Lists.{Contains_nil, bool_cases, ascending_one}
use Rattle.gen_scenario.specs.declared.heard.Heard.{Heard}
use Rattle.gen_scenario.specs.Heard.{orders_heard}
use Rattle.gen_general.specs.Loops.Deciding.{HasHeard}
use Rattle.gen_scenario.proofs.Having.{any_has, any_gives}

pub heard_start : (heard : List Heard) → IsListOf [] (λ v. (v < 0) × HasHeard heard v)
heard_start heard = record { ascending = filter_range_ascending (λ v. true) 0 0; members = λ v. ((λ h. absurd (Contains_nil v h)), (λ p. absurd (omega (arith, p.0)))) }

pub heard_step : (heard : List Heard) (old new : List ℕ) (n : ℕ) → IsListOf old (λ v. (v < n) × HasHeard heard v)
    → IsListOf new (λ v. Contains old v ⊎ ((v ≡ n) × HasHeard heard n)) → IsListOf new (λ v. (v < n + 1) × HasHeard heard v)
heard_step heard old new n before one = record {
  ascending = one.ascending;
  members = λ v. (
    λ h. elim ((one.members v).0 h) [
      | inl o ↦ let k = (before.members v).0 o in (omega (arith, k.0), k.1)
      | inr p ↦ (omega (arith, p.0), subst (λ w. HasHeard heard w) (sym p.0) p.1)
    ],
    λ p. elim (bool_cases (eqb v n)) [
      | inl e ↦ let same = eqb-true v n e in (one.members v).1 (inr (same, subst (λ w. HasHeard heard w) same p.1))
      | inr ne ↦
          let other : v ≡ n → ⊥ = λ same. (let t = eq-eqb v n same in absurd cc) in
          (one.members v).1 (inl ((before.members v).1 (omega (arith, p.0, other), p.1)))
    ],
  );
}

pub heard_end : (heard : List Heard) (set : List ℕ) (n : ℕ) → IsListOf set (λ v. (v < n) × HasHeard heard v) → set ≡ orders_heard n heard
unfolding orders_heard
heard_end heard set n is =
    let test : ℕ → Bool = λ v. list_any (λ x. eqb x.chain.order v) heard in
    ascending_one set (filter test (range_with_len 0 n)) is.ascending (filter_range_ascending test 0 n)
    (λ v h. let k = (is.members v).0 h in filter_range_gives test 0 n v (omega arith) (omega (arith, k.0)) (any_gives (λ (x : Heard). eqb x.chain.order v) heard k.1.0 k.1.1 (eq-eqb _ _ k.1.2)))
    (λ v h. let r = filter_range_has test 0 n v h in let k = any_has (λ (x : Heard). eqb x.chain.order v) heard r.2 in (is.members v).1 (omega (arith, r.1), (k.0, k.1, eqb-true _ _ k.2)))

pub noted : (heard : List Heard) (old new : List ℕ) (order : ℕ) → IsListOf new (λ v. Contains old v ⊎ (v ≡ order)) → HasHeard heard order
    → IsListOf new (λ v. Contains old v ⊎ ((v ≡ order) × HasHeard heard order))
noted heard old new order is has = record {
  ascending = is.ascending;
  members = λ v. (
    λ h. elim ((is.members v).0 h) [ inl o ↦ inl o | inr e ↦ inr (e, has) ],
    λ p. elim p [ inl o ↦ (is.members v).1 (inl o) | inr e ↦ (is.members v).1 (inr e.0) ],
  );
}

pub not_noted : (heard : List Heard) (set : List ℕ) (order : ℕ) (any : Bool) → AllPairs (λ a b. a < b) set → (IsTrue any ↔ HasHeard heard order) → any ≡ false
    → IsListOf set (λ v. Contains set v ⊎ ((v ≡ order) × HasHeard heard order))
not_noted heard set order any ascending told fails = record {
  ascending = ascending;
  members = λ v. (λ h. inl h, λ p. elim p [ inl o ↦ o | inr e ↦ (let t : any ≡ true = told.1 e.1 in absurd cc) ]);
}
