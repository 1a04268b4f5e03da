use Rattle.std.proofs.Common.{◌≡◌, take}
use Rattle.gen_draw.specs.Shown.{all_decided, all_received, all_sent}
use Rattle.gen_draw.proofs.shown.told_by.Given as goal

abbrev pub invariant-loop-exhibit : goal.invariant-loop-exhibit
invariant-loop-exhibit l = record {
  sent : l.told.sent.items ≡ all_sent l.header (take l.exhibit-index l.exhibits);
  received : l.told.received.items ≡ all_received l.header (take l.exhibit-index l.exhibits);
  decided : l.told.decided.items ≡ all_decided l.header (take l.exhibit-index l.exhibits);
}
