use Rattle.std.proofs.Common.{◌≡◌, map}
use Rattle.std.specs.List.{range_with_len}
use Rattle.gen_system.specs.Runs.{run_by}
use Rattle.gen_enrolling.specs.Admitted.{run_in, told_run}
use Rattle.gen_enrolling.proofs.admitted.runs_in_set.Given as goal

abbrev pub invariant-slots : goal.invariant-slots
invariant-slots l = map told_run l.runs.items ≡ map (λ slot. run_in l.admission (run_by l.version l.admission.set slot)) (range_with_len 0 l.slot)
