use Rattle.std.proofs.Common.{arith}
use Rattle.gen_types.specs.Spelled.{Spells}
use Rattle.gen_types.proofs.Laws.{found_by, only_by}
use Rattle.gen_system.specs.declared.system_fault.SystemFault.TheVariants.{LeftOver}
use Rattle.gen_system.specs.SystemReading.{system_at, whole_system}
use Rattle.gen_system.specs.Systems.{IsSystem, system_spelling}
use Rattle.gen_system.proofs.SystemLaws.{systems_read}
use Rattle.gen_system.proofs.Whole.{alone_found, alone_only}
use Rattle.gen_system.proofs.system_reading.system_alone.Goals as goal

pub returns-clause-found : goal.returns-clause-found
unfolding whole_system
returns-clause-found c = found_by (λ x. x) c.read_whole.result (whole_system c.args.bytes.now) (Spells IsSystem system_spelling c.args.bytes.now) (λ x e. alone_found system_at system_spelling IsSystem LeftOver systems_read c.args.bytes.now x (λ i. omega (arith, c.type_inv.bytes i)) e) c.read_whole.ensures

pub returns-clause-only : goal.returns-clause-only
unfolding whole_system
returns-clause-only c = λ x spells. only_by (λ y. y) c.read_whole.result (whole_system c.args.bytes.now) x (alone_only system_at system_spelling IsSystem LeftOver systems_read c.args.bytes.now x spells) c.read_whole.ensures
