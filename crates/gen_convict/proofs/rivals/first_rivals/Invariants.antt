use Rattle.std.proofs.Common.{◌≡◌, map, length}
use Rattle.gen_convict.specs.AcrossFinding as finds
use Rattle.gen_convict.specs.Loops.Alone.{MeetNone}
use Rattle.gen_convict.specs.Seen.{seen}
use Rattle.gen_convict.proofs.rivals.first_rivals.Given as goal

abbrev pub invariant-loop-rest : goal.invariant-loop-rest
invariant-loop-rest l =
    (finds.first_rivals (map seen l.rest) ≡ finds.first_rivals (map seen l.texts)) × MeetNone (map seen l.alone.items) (map seen l.rest)

abbrev pub decreases-loop-rest : goal.decreases-loop-rest
decreases-loop-rest l = length l.rest
