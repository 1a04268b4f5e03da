-- Each of the rest decided once, and there is a verdict.
use Rattle.std.proofs.Common.{◌≡◌, ◌↔◌, ℕ, ◌<◌, inl, inr, List, [], ◌∷◌, length, Contains, AllPairs, refl, sym, ap, ◌∙◌, subst, arith}
use Rattle.std.proofs.lemmas.Bool.{cases_lt}
use Rattle.gen_types.proofs.Lists.{Contains_here, Contains_there, Contains_cases, Contains_nil, ascending_one}
use Rattle.gen_net.specs.Network.{Network, choose}
use Rattle.gen_net.specs.Run.{Run}
use Rattle.gen_net.specs.Follows.{Conduct, Commands, Relays}
use Rattle.gen_net.specs.Log.{Decided, IsEntry}
use Rattle.gen_core.proofs.OrderedLists.{AllPairs-head, AllPairs-tail, AllPairs-cons}
use Rattle.gen_scenario.specs.declared.scenario.Decision.{Decision}
use Rattle.gen_match.specs.Matching.{Logged}
use Rattle.gen_audit.specs.Bundle.{Bundle, IsOfRest, logs_of}
use Rattle.gen_audit.specs.Supported.{IsClean, IsSupported}
use Rattle.gen_audit.specs.declared.verdicts.Verdict.TheVariants.{Agreed, Explained, No}
use Rattle.gen_audit.specs.Verdict.{IsDecision, AreDecisions, EachDecidedOnce, VerdictExists}
use Rattle.gen_audit.proofs.Agreeing.{has_decide, same_log}
use Rattle.gen_audit.proofs.Supporting.{clean_is_supported, clean_agrees}

-- two decisions of one conduct are one
one_decision : (net : Network) (run : Run) (g : ℕ) (c : Conduct) (xs ys : List ℕ) (v w : ℕ) → IsEntry net run g c (Decided xs v) → IsEntry net run g c (Decided ys w) → (xs ≡ ys) × (v ≡ w)
one_decision net run g (Commands own) xs ys v w h k = (h.0 ∙ sym k.0, h.1 ∙ sym k.1)
one_decision net run g (Relays pick) xs ys v w h k =
    let same : xs ≡ ys = ascending_one xs ys h.0.ascending k.0.ascending (λ x i. (k.0.members x).1 ((h.0.members x).0 i)) (λ x i. (h.0.members x).1 ((k.0.members x).0 i)) in
    (same, h.1 ∙ ap (choose net) same ∙ sym k.1)

decision : ℕ → List ℕ → ℕ → Decision
decision g orders order = record { general = g; orders = orders; order = order }

same_decision : (d other : Decision) → d.general ≡ other.general → d.orders ≡ other.orders → d.order ≡ other.order → d ≡ other
same_decision d other e f q = λ i. record { general = e i; orders = f i; order = q i }

pub each_decided_once : EachDecidedOnce
unfolding decision
each_decided_once b s g of_rest =
    let e = s.explained in
    let k = e.keeps g of_rest in
    let d = has_decide b.header.network e.run e.signed.run_of_net g (e.conducts g) k.0 k.2 in
    let mine = (k.2.entries (Decided d.0 d.1)).0 d.2 in (
      decision g d.0 d.1,
      record {
        whose = refl;
        decided = (of_rest, (k.0, k.1, d.2));
        alone = λ other whose h.
            let his : Logged (logs_of b) g (Decided other.orders other.order) = subst (λ x. Logged (logs_of b) x (Decided other.orders other.order)) whose h.1 in
            let q : his.0 ≡ k.0 = same_log his.0 k.0 (sym his.1 ∙ k.1) in
            let one = one_decision b.header.network e.run g (e.conducts g) other.orders d.0 other.order d.1 ((k.2.entries (Decided other.orders other.order)).0 (subst (λ log. Contains log (Decided other.orders other.order)) q his.2)) mine in
            same_decision other (decision g d.0 d.1) whose one.0 one.1;
      },
    )

-- what so many of the rest decided
record SomeDecisions (b : Bundle) (generals : List ℕ) : Type 0 where
  pub list : List Decision
  pub in_order : AllPairs (λ (x : Decision) (y : Decision). x.general < y.general) list
  pub members : (d : Decision) → Contains list d ↔ (Contains generals d.general × IsDecision b d)

some_decisions : (b : Bundle) (s : IsSupported b) (generals : List ℕ) → AllPairs (λ v w. v < w) generals → ((g : ℕ) → Contains generals g → IsOfRest b g) → SomeDecisions b generals
some_decisions b s [] up of_rest = record {
  list = [];
  in_order = λ i j d l m. absurd (omega arith);
  members = λ d. ((λ h. absurd (Contains_nil d h)), (λ h. absurd (Contains_nil d.general h.0)));
}
some_decisions b s (x ∷ generals) up of_rest =
    let more = some_decisions b s generals (AllPairs-tail (λ v w. v < w) x generals up) (λ g h. of_rest g (Contains_there x g generals h)) in
    let mine = each_decided_once b s x (of_rest x (Contains_here x generals)) in
    let one : Decision = mine.0 in
    let whose : one.general ≡ x = mine.1.whose in
    record {
      list = one ∷ more.list;
      in_order = AllPairs-cons (λ (y : Decision) (z : Decision). y.general < z.general) one more.list (λ y h. subst (λ v. v < y.general) (sym whose) (AllPairs-head (λ v w. v < w) x generals y.general up ((more.members y).0 h).0)) more.in_order;
      members = λ d. (
        (λ h. elim (Contains_cases one d more.list h) [
          | inl e ↦ subst (λ (y : Decision). Contains (x ∷ generals) y.general × IsDecision b y) e (subst (λ v. Contains (x ∷ generals) v) (sym whose) (Contains_here x generals), mine.1.decided)
          | inr k ↦ let m = (more.members d).0 k in (Contains_there x d.general generals m.0, m.1)
        ]),
        (λ h. elim (Contains_cases x d.general generals h.0) [
          | inl e ↦ subst (λ (y : Decision). Contains (one ∷ more.list) y) (sym (mine.1.alone d (sym e) h.1)) (Contains_here one more.list)
          | inr k ↦ Contains_there one d more.list ((more.members d).1 (k, h.1))
        ]),
      );
    }

all_decisions : (b : Bundle) → IsSupported b → (decisions : List Decision) × AreDecisions b decisions
all_decisions b s =
    let d = some_decisions b s s.rest s.of_rest.ascending (λ g h. (s.of_rest.members g).0 h) in (
      d.list,
      record {
        in_order = d.in_order;
        members = λ x. ((λ h. ((d.members x).0 h).1), (λ h. (d.members x).1 ((s.of_rest.members x.general).1 h.0, h)));
      },
    )

pub verdict_exists : VerdictExists
verdict_exists b bundle [] are =
    let clean : IsClean b = λ f h. Contains_nil f ((are.members f).1 h) in
    elim (cases_lt b.header.network.traitors (length b.faulty)) [
      | inl many ↦ let d = all_decisions b ((clean_is_supported b bundle).0 clean) in (Explained d.0, (clean, many, d.1))
      | inr few ↦ let a = clean_agrees b bundle clean few in (Agreed a.0, (clean, few, a.1))
    ]
verdict_exists b bundle (f ∷ more) are = (No (f ∷ more), ((λ e. absurd (omega (arith, ap length e))), are))
