use Rattle.std.proofs.Common.{◌≡◌, map}
use Rattle.std.specs.List.{range_with_len}
use Rattle.gen_system.specs.Admissions.{root_in}
use Rattle.gen_system.specs.Runs.{node_of}
use Rattle.gen_system.proofs.admissions.Admission.roots_in_run.Given as goal

abbrev pub invariant-generals : goal.invariant-generals
invariant-generals l = l.roots.items ≡ map (λ general. root_in l.self (node_of l.self.system l.run general)) (range_with_len 0 l.general)
