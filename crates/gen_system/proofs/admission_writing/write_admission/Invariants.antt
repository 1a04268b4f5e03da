use Rattle.std.proofs.Common.{◌≡◌, ◌++◌, take}
use Rattle.std.specs.List.{flat_map}
use Rattle.gen_system.specs.Admissions.{opened_spelling}
use Rattle.gen_system.proofs.admission_writing.write_admission.Given as goal

abbrev pub invariant-roots : goal.invariant-roots
invariant-roots l = l.out.items ≡ l.initial.out.items ++ flat_map opened_spelling (take l.one-index l.opened)
