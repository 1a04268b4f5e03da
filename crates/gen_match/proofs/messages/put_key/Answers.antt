use Rattle.gen_match.proofs.OneSided.{no_key}
use Rattle.gen_match.proofs.messages.put_key.Goals as goal

pub returns-else-contains : goal.returns-else-contains
returns-else-contains c = no_key c.args.counted.now c.args.other c.args.key c.args.keys.now.items c.contains.result c.contains.ensures c.if-contains.false
