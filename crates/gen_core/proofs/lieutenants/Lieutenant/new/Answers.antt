use Rattle.std.proofs.Common.{refl}
use Rattle.gen_core.proofs.Seeing.{seen_none}
use Rattle.gen_core.proofs.lieutenants.Lieutenant.new.Goals as goal

pub returns-clause-seen : goal.returns-clause-seen
returns-clause-seen c = λ run ok. seen_none c.args.net.now run _ ok c.orders.ensures.network.ranges.few_orders c.rounds.ensures.value c.choice.ensures refl c.new.ensures
