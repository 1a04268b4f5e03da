use Rattle.gen_match.proofs.Keys.{sorted_apart}
use Rattle.gen_match.proofs.prefixes.sort_apart.Goals as goal

pub returns : goal.returns
returns c = sorted_apart c.args.numbers.now.items _ c.dedup.new.self.items c.in_ok-sort.ensures.permutation c.in_ok-sort.ensures.sorted c.dedup.ensures.filtered
