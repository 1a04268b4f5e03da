use Rattle.std.proofs.Common.{◌≡◌, ◌++◌, All, map}
use Rattle.gen_scenario.specs.declared.scenario.Decision.{Decision}
use Rattle.gen_audit.specs.Verdict.{IsDecision}
use Rattle.gen_audit.proofs.audits.decisions_of.Given as goal

abbrev pub invariant-generals : goal.invariant-generals
invariant-generals l = record {
  generals : map (λ (d : Decision). d.general) l.decisions.items ++ l.general-iterator ≡ l.rest;
  each : All (IsDecision l.bundle) l.decisions.items;
}
