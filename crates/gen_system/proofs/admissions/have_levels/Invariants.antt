use Rattle.std.proofs.Common.{◌≡◌, true, take}
use Rattle.std.specs.List.{AllByRecursion}
use Rattle.gen_system.specs.Admissions as admissions
use Rattle.gen_system.specs.Admissions.{IsOpenedRoot}
use Rattle.gen_system.proofs.admissions.have_levels.Given as goal

abbrev pub invariant-roots : goal.invariant-roots
invariant-roots l = record {
  all : admissions.have_levels l.levels (take l.one-index l.opened) ≡ true;
  opened : AllByRecursion (IsOpenedRoot l.levels) (take l.one-index l.opened);
}
