use Rattle.std.proofs.Common.{◌≡◌, ◌++◌}
use Rattle.std.specs.List.{range_with_len}
use Rattle.gen_general.specs.Driving.{rows_for}
use Rattle.gen_scenario.specs.SignedWorld.{near_of}
use Rattle.gen_general.specs.DrivenRecords.{HasSent}
use Rattle.gen_world.proofs.world.send_all_of.Given as goal

abbrev pub invariant-receivers : goal.invariant-receivers
invariant-receivers l = record {
  sent : HasSent l.scenario l.gone l.from (near_of l.scenario.net l.from (range_with_len 0 l.number)) l.part;
  frames : l.frames.items ≡ l.initial.frames.items ++ rows_for l.scenario l.gone l.from (near_of l.scenario.net l.from (range_with_len 0 l.number));
}
