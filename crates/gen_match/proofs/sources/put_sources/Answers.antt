use Rattle.std.proofs.Common.{ap}
use Rattle.gen_log.specs.Entry.{erase}
use Rattle.gen_local.specs.Erased.{erased}
use Rattle.gen_match.specs.Underivables.{entry_keys}
use Rattle.gen_match.proofs.Rest.{element_step, no_key}
use Rattle.gen_match.proofs.sources.put_sources.Goals as goal

pub loop-entry-preserved-else-contains : goal.loop-entry-preserved-else-contains
loop-entry-preserved-else-contains c =
    let keys = c.loop-entry.keys.items in
    element_step (entry_keys c.args.faulty.now) keys keys _ (erased c.loop-entry.rest.now) (erased c.in-Some.others.now) (erase c.in-Some.entry.now) (ap erased c.in-Some.ensures.cases.0)
    (no_key c.args.faulty.now _ _ _ keys c.in-Some.entry.now c.contains.result c.in-Send.is c.contains.ensures c.if-contains.false) c.loop-entry.invariant
