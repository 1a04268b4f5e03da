use Rattle.std.proofs.Common.{take}
use Rattle.gen_general.specs.DrivenRecords.{AllHear}
use Rattle.gen_world.proofs.world.hear_all.Given as goal

abbrev pub invariant-rows : goal.invariant-rows
invariant-rows l = AllHear l.scenario l.gone (take l.row-index l.rows) l.parts.items
