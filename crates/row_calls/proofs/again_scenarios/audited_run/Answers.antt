use Rattle.std.proofs.Common.{rules, ◌≡◌, List, ℕ, subst, sym}
use Rattle.gen_log.specs.Fields.{AreBelow}
use Rattle.gen_scenario.specs.Scenario.{scripted}
use Rattle.gen_audit.proofs.RunBundles.{are_members}
use Rattle.row_calls.proofs.again_scenarios.audited_run.Goals as goal

pub run_and_audit-requires-clause-faulty : goal.run_and_audit-requires-clause-faulty
run_and_audit-requires-clause-faulty g c = λ κs _.
    let s = c.args.scenario.now in
    let is_faulty : c.scripted-faulty.result ≡ scripted s.scripts = search rules in
    subst (λ (xs : List ℕ). AreBelow s.net.generals xs) (sym is_faulty) (are_members s c.header-lawful.ensures.scenario).below
