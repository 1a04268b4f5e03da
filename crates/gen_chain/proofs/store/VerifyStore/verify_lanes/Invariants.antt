use Rattle.std.proofs.Common.{ℕ, ◌≤◌, ◌<◌, ◌+◌, map, slice_index_or}
use Rattle.std.specs.Prelude.{IsSome}
use Rattle.gen_chain.specs.Signings.{triple_of}
use Rattle.gen_chain.specs.Store.{Triple, Serves, KeepsAll, answer_of, kept_count}
use Rattle.gen_chain.proofs.store.VerifyStore.verify_lanes.Given as goal

abbrev pub invariant-places : goal.invariant-places
invariant-places l = record {
  serves : Serves l.header l.self;
  grows : KeepsAll l.fn.self l.self;
  count : kept_count l.self ≤ kept_count l.fn.self + l.place;
  kept : (j : ℕ) → j < l.place → (other : Triple) → IsSome (answer_of l.self (slice_index_or (map triple_of l.signings) j other));
}
