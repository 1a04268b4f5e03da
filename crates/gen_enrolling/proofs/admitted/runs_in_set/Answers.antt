use Rattle.std.proofs.Common.{◌≡◌, ℕ, arith}
use Rattle.gen_system.specs.Runs.{run_by}
use Rattle.gen_enrolling.specs.Admitted.{RunTold, run_in, told_run}
use Rattle.gen_enrolling.proofs.Told.{few_sets, run_more}
use Rattle.gen_enrolling.proofs.admitted.runs_in_set.Goals as goal

pub run_by-run-requires-clause-set : goal.run_by-run-requires-clause-set
run_by-run-requires-clause-set c =
    let is = c.system.ensures.admission in
    omega (arith, c.set.ensures, few_sets c.args.admission.now.system.levels c.args.admission.now.set is.system.few is.set)

pub slots-preserved : goal.slots-preserved
slots-preserved c =
    let a = c.args.admission.now in
    let f : ℕ → RunTold = λ slot. run_in a (run_by c.version-version.result a.set slot) in
    let is : told_run c.in_ok-run_told.field-0 ≡ f c.slots.slot
    = rw (c.run_by-run.ensures, c.set.ensures) at c.in_ok-run_told.ensures in
    run_more f c.slots.runs.items c.push.new.self.items c.in_ok-run_told.field-0 c.slots.slot c.slots.invariant c.in_ok-push.ensures.items is
