use Rattle.std.proofs.Common.{◌↔◌, length}
use Rattle.gen_walks.specs.Walks.{AreJoined, Leads}
use Rattle.gen_walks.proofs.diameter.leads.Given as goal

abbrev pub invariant-loop-more : goal.invariant-loop-more
invariant-loop-more l = Leads (AreJoined l.net l.rest) l.at l.more l.to ↔ Leads (AreJoined l.net l.rest) l.fn.from l.fn.generals l.to

abbrev pub decreases-loop-more : goal.decreases-loop-more
decreases-loop-more l = length l.more
