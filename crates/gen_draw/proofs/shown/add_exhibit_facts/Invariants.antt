use Rattle.std.proofs.Common.{◌≡◌, ◌++◌, take}
use Rattle.std.specs.List.{flat_map}
use Rattle.gen_draw.specs.Shown.{decided_by, received_by, sent_by}
use Rattle.gen_draw.proofs.shown.add_exhibit_facts.Given as goal

abbrev pub invariant-loop-entry : goal.invariant-loop-entry
invariant-loop-entry l = record {
  sent : l.told.sent.items ≡ l.initial.told.sent.items ++ flat_map (sent_by l.general) (take l.entry-index l.entries);
  received : l.told.received.items ≡ l.initial.told.received.items ++ flat_map (received_by l.general) (take l.entry-index l.entries);
  decided : l.told.decided.items ≡ l.initial.told.decided.items ++ flat_map (decided_by l.general) (take l.entry-index l.entries);
}
