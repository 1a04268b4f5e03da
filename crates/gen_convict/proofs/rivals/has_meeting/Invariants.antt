use Rattle.std.proofs.Common.{◌≡◌, drop, map}
use Rattle.std.specs.List.{list_any}
use Rattle.gen_convict.specs.AcrossFinding as finds
use Rattle.gen_convict.specs.Seen.{seen}
use Rattle.gen_convict.proofs.rivals.has_meeting.Given as goal

abbrev pub invariant-loop-other : goal.invariant-loop-other
invariant-loop-other l =
    list_any (finds.meets (seen l.text)) (map seen (drop l.other-index l.others)) ≡ list_any (finds.meets (seen l.fn.text)) (map seen l.others)
