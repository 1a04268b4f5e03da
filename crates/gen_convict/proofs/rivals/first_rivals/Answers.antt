use Rattle.std.proofs.Common.{map, ap, subst}
use Rattle.gen_convict.specs.Loops.Alone.{MeetNone}
use Rattle.gen_convict.specs.Seen.{seen}
use Rattle.gen_convict.proofs.AcrossAlone.{first_and_others}
use Rattle.gen_convict.proofs.rivals.first_rivals.Goals as goal

pub rival_behind-requires : goal.rival_behind-requires
rival_behind-requires c =
    subst (MeetNone (map seen c.loop-rest.alone.items)) (ap (map seen) (first_and_others c.loop-rest.rest.now _ c.text-item.result c.in-len1-up.len_at_least c.text-item.is)) c.loop-rest.invariant.1
