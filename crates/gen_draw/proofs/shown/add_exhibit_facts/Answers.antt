use Rattle.std.proofs.Common.{rules}
use Rattle.std.proofs.lemmas.List.{take_all}
use Rattle.gen_draw.specs.Shown.{decided_in, received_in, sent_in}
use Rattle.gen_draw.proofs.shown.add_exhibit_facts.Goals as goal

pub returns-after-loop-entry-clause-sent : goal.returns-after-loop-entry-clause-sent
unfolding sent_in
returns-after-loop-entry-clause-sent c =
    let told = rw (take_all c.loop-entry.entry-index c.entries-entries.result.now c.loop-entry-test.false) at c.loop-entry.invariant.sent in
    search rules

pub returns-after-loop-entry-clause-received : goal.returns-after-loop-entry-clause-received
unfolding received_in
returns-after-loop-entry-clause-received c =
    let told = rw (take_all c.loop-entry.entry-index c.entries-entries.result.now c.loop-entry-test.false) at c.loop-entry.invariant.received in
    search rules

pub returns-after-loop-entry-clause-decided : goal.returns-after-loop-entry-clause-decided
unfolding decided_in
returns-after-loop-entry-clause-decided c =
    let told = rw (take_all c.loop-entry.entry-index c.entries-entries.result.now c.loop-entry-test.false) at c.loop-entry.invariant.decided in
    search rules
