use Rattle.gen_types.proofs.Front.{one_spelling_by}
use Rattle.gen_system.specs.SystemReading.{system_at}
use Rattle.gen_system.specs.Systems.{IsSystem, system_spelling}
use Rattle.gen_system.proofs.SystemLaws.{systems_read}
use Rattle.gen_system.proofs.laws.one_system_spelling.Goals as goal

pub returns : goal.returns
returns c = one_spelling_by system_at system_spelling IsSystem systems_read
