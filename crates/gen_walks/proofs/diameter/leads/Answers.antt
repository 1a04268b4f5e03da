use Rattle.std.proofs.Common.{refl}
use Rattle.gen_walks.specs.Walks.{AreJoined, Leads}
use Rattle.gen_walks.proofs.Places.{walked_on}
use Rattle.gen_walks.proofs.diameter.leads.Goals as goal

pub loop-more-preserved : goal.loop-more-preserved
loop-more-preserved c =
    let near = AreJoined c.args.net.now c.args.rest.now in
    walked_on near c.loop-more.at c.loop-more.more.now _ c.next-item.result c.args.to (Leads near c.args.from c.args.generals.now c.args.to) c.in-len1-up.len_at_least refl c.next-item.is (c.if-not-are_joined.ensures.0 refl) c.loop-more.invariant
