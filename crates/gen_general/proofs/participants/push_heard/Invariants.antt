use Rattle.std.proofs.Common.{◌≡◌, ◌≤◌, ◌+◌, ◌++◌, map, length, vec_len, vec_capacity}
use Rattle.gen_general.proofs.participants.push_heard.Given as goal

abbrev pub invariant-chains : goal.invariant-chains
invariant-chains l = record {
  heard : l.heard.items ≡ l.initial.heard.items ++ map (λ c. record { from = l.from; chain = c }) l.yielded;
  split : l.initial.chain-iterator.rest.items ≡ l.yielded ++ l.chain-iterator.rest.items;
  long : l.chain-iterator.rest.len ≡ length l.chain-iterator.rest.items;
  room : vec_len l.heard + l.chain-iterator.rest.len ≤ vec_capacity l.heard;
}
