use Rattle.std.proofs.Common.{rules, arith, ap}
use Rattle.gen_ends.proofs.Reading.{taken_whole}
use Rattle.gen_ends.proofs.transfer.read_all.Goals as goal

pub returns-in-Ok-clause-whole : goal.returns-in-Ok-clause-whole
returns-in-Ok-clause-whole g c =
    let is_reader = ap (λ r. g.R.Read.remaining r.now) c.take.ensures.inner in
    taken_whole 1073741825 _ _ _ _ _ (search rules) (search rules) is_reader (search rules) c.in-Ok.ensures.bytes
