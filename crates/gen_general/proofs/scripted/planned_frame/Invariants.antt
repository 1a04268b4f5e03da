use Rattle.std.proofs.Common.{◌≡◌, map, take}
use Rattle.gen_general.specs.Planned.{bytes_of, planned_to}
use Rattle.gen_general.proofs.scripted.planned_frame.Given as goal

abbrev pub invariant-planned : goal.invariant-planned
invariant-planned l = l.parcels.items ≡ map bytes_of (planned_to l.to (take l.one-index l.planned))
