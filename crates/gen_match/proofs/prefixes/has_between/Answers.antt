use Rattle.std.proofs.Common.{sym}
use Rattle.gen_match.proofs.Keys.{one_behind, none_behind}
use Rattle.gen_match.proofs.prefixes.has_between.Goals as goal

pub returns-in-Some : goal.returns-in-Some
returns-in-Some c = one_behind c.args.numbers.now c.args.low c.args.high c.in-Err.next c.in-Some.number.now c.requires.ascending c.in-Err.ensures.position c.in-Some.ensures.lookup.3.0 (c.in-Some.ensures.lookup.3.1 0)

pub returns-in-None : goal.returns-in-None
returns-in-None c = sym (none_behind c.args.numbers.now c.args.low c.args.high c.in-Err.next c.requires.ascending c.in-Err.ensures.position c.in-None.ensures.lookup.3)
