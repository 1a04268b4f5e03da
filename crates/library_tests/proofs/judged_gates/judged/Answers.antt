use Rattle.std.proofs.Common.{◌≡◌, ◌<◌, ℕ, List, [], subst, sym}
use Rattle.std.proofs.lemmas.List.Elements.{All-nil}
use Rattle.gen_log.specs.Fields.{AreBelow}
use Rattle.library_tests.proofs.judged_gates.judged.Goals as goal

pub run_and_audit-requires-clause-faulty : goal.run_and_audit-requires-clause-faulty
run_and_audit-requires-clause-faulty g c = λ κs _.
    let n = c.args.scenario.now.net.generals in
    let none : c.new-nobody.result ≡ [] = c.new-nobody.ensures in
    subst (λ (xs : List ℕ). AreBelow n xs) (sym none) (All-nil (λ v. v < n))
