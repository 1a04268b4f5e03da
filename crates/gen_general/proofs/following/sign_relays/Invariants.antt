use Rattle.std.proofs.Common.{◌≡◌, ◌≤◌, ◌+◌, ◌↔◌, ℕ, All, Contains, vec_len, vec_capacity}
use Rattle.gen_scenario.specs.Part.{own_keys}
use Rattle.gen_general.specs.Loops.Relays.{IsRoom, due_count, relayed_to}
use Rattle.gen_general.proofs.Relaying.{HasTaken}
use Rattle.gen_general.proofs.following.sign_relays.Given as goal

abbrev pub invariant-orders : goal.invariant-orders
invariant-orders l = record {
  signed : l.signed.items ≡ relayed_to (own_keys l.header l.initial.ring.seed) l.me l.heard l.round l.number;
  done : vec_len l.signed ≡ due_count l.round l.heard l.number;
  capacity : due_count l.round l.heard l.header.network.orders ≤ vec_capacity l.signed;
  left : vec_len l.rooms + due_count l.round l.heard l.number ≡ due_count l.round l.heard l.header.network.orders;
  fit : All (IsRoom l.header l.round) l.rooms.items;
  seed : l.ring.seed ≡ l.initial.ring.seed;
  height : l.ring.height ≡ l.initial.ring.height;
  taken : (leaf : ℕ) → Contains l.ring.taken leaf ↔ HasTaken l.header l.heard l.round l.initial.ring.taken l.number leaf;
}
