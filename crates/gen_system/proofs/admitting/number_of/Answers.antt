use Rattle.std.proofs.Common.{arith}
use Rattle.gen_system.proofs.AdmissionLaws.{few_sets}
use Rattle.gen_system.proofs.admitting.number_of.Goals as goal

pub run_by-run-requires-clause-set : goal.run_by-run-requires-clause-set
run_by-run-requires-clause-set c =
    let is = c.system.ensures.admission in
    omega (arith, c.set.ensures, few_sets c.args.admission.now.system.levels c.args.admission.now.set is.system.few is.set)
