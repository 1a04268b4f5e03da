use Rattle.std.proofs.Common.{◌≡◌, All, vec_len}
use Rattle.gen_general.specs.Loops.Relays.{IsRoom, due_count}
use Rattle.gen_general.proofs.following.rooms_for.Given as goal

abbrev pub invariant-orders : goal.invariant-orders
invariant-orders l = record {
  count : vec_len l.rooms ≡ due_count l.round l.heard l.number;
  fit : All (IsRoom l.header l.round) l.rooms.items;
}
