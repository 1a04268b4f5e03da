-- The theorem of scenarios: with few traitors, none of whom sends bytes of his own, the rest decide alike, and obey.
use Rattle.std.proofs.Common.{◌≡◌, inl, inr, not, Contains, refl, sym, subst, ◌∙◌, arith}
use Rattle.std.proofs.lemmas.Bool.{cases_eq}
use Rattle.std.proofs.lemmas.List.{length-map}
use Rattle.std.proofs.lemmas.List.Elements.{All-contains}
use Rattle.gen_types.specs.Members.{filter_range_has}
use Rattle.gen_types.proofs.Lists.{Contains_mapped, All_of}
use Rattle.gen_net.specs.Network.{IsLoyal}
use Rattle.gen_script.specs.Script.{Script}
use Rattle.gen_scenario.specs.declared.scenario.Decision.{Decision}
use Rattle.gen_scenario.specs.Deciding.{decision_of, followers_of, decisions_of}
use Rattle.gen_scenario.specs.Scenario.{Scenario, IsScenario, scripted, has_script}
use Rattle.gen_scenario.specs.SignedLaw.{IsBounded, TheoremHoldsOfScenarios}
use Rattle.gen_scenario.specs.SignedWorld.{messages_of}
use Rattle.gen_scenario.specs.Theorem.{Case, Premises}
use Rattle.gen_scenario.specs.World.{IsDecision}
use Rattle.gen_scenario.specs.WorldLaws.{conduct_of}
use Rattle.gen_scenario.proofs.Agree.{decide_alike, obey_commander}
use Rattle.gen_scenario.proofs.DecisionsMade.{decisions_hold, decision_general}
use Rattle.gen_scenario.proofs.Having.{among_not}
use Rattle.gen_scenario.proofs.TraitorFrames.{no_raw_is_signed}

-- the scenario as a case of the theorem
abbrev case_of : Scenario → Case
case_of s = record { net = s.net; faulty = scripted s.scripts; run = messages_of s; conducts = conduct_of s }

premises : (s : Scenario) → IsScenario s → IsBounded s → Premises (case_of s)
premises s ok bound = record {
  signed = no_raw_is_signed s ok bound.no_raw;
  few = omega (arith, length-map s.scripts (λ (script : Script). script.general), bound.few);
  diameter = bound.diameter;
}

-- a general without a script decides this in the run of the scenario
record IsOfRest (s : Scenario) (d : Decision) : Type 0 where
  loyal : IsLoyal s.net (scripted s.scripts) d.general
  holds : IsDecision s.net s.order (messages_of s) d

of_rest : (s : Scenario) → IsScenario s → (d : Decision) → Contains (decisions_of s) d → IsOfRest s d
of_rest s ok d h =
    let k = Contains_mapped (decision_of s) (followers_of s) d h in
    let r = filter_range_has (λ g. not (has_script s g)) 0 s.net.generals k.0 k.1 in
    let loyal : IsLoyal s.net (scripted s.scripts) k.0 = (omega (arith, r.1), among_not (scripted s.scripts) k.0 r.2) in
    let loyal_there : IsLoyal s.net (scripted s.scripts) (decision_of s k.0).general = subst (IsLoyal s.net (scripted s.scripts)) (sym (decision_general s k.0)) loyal in
    record {
      loyal = subst (λ (x : Decision). IsLoyal s.net (scripted s.scripts) x.general) k.2 loyal_there;
      holds = All-contains (IsDecision s.net s.order (messages_of s)) (decisions_of s) d (decisions_hold s ok) h;
    }

obeys : (s : Scenario) → IsScenario s → IsBounded s → IsLoyal s.net (scripted s.scripts) 0 → (d : Decision) → IsOfRest s d → d.order ≡ s.order
obeys s ok bound commander d of = elim (cases_eq d.general 0) [
  | inl first ↦ (of.holds.commander first).1
  | inr lieutenant ↦ obey_commander (case_of s) (premises s ok bound) s.order d.general d.order (commander, refl) (of.loyal, lieutenant) (d.orders, of.holds.lieutenant lieutenant)
]

alike : (s : Scenario) → IsScenario s → IsBounded s → (a b : Decision) → IsOfRest s a → IsOfRest s b → a.order ≡ b.order
alike s ok bound a b of_a of_b = elim (cases_eq a.general 0) [
  | inl first ↦ (of_a.holds.commander first).1 ∙ sym (obeys s ok bound (subst (IsLoyal s.net (scripted s.scripts)) first of_a.loyal) b of_b)
  | inr left ↦ elim (cases_eq b.general 0) [
    | inl first ↦ obeys s ok bound (subst (IsLoyal s.net (scripted s.scripts)) first of_b.loyal) a of_a ∙ sym (of_b.holds.commander first).1
    | inr right ↦ decide_alike (case_of s) (premises s ok bound) a.general b.general a.order b.order (of_a.loyal, left) (of_b.loyal, right) (a.orders, of_a.holds.lieutenant left) (b.orders, of_b.holds.lieutenant right)
  ]
]

pub theorem_holds : TheoremHoldsOfScenarios
theorem_holds s ok bound = record {
  alike = λ a b ha hb. alike s ok bound a b (of_rest s ok a ha) (of_rest s ok b hb);
  obeyed = λ commander. All_of (λ (d : Decision). d.order ≡ s.order) (decisions_of s) (λ d h. obeys s ok bound commander d (of_rest s ok d h));
}
