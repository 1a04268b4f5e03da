use Rattle.std.proofs.Common.{◌≡◌, ◌+◌, ◌++◌, vec_len, vec_capacity}
use Rattle.std.specs.Vec.Iter.{into_iter_items, into_iter_len}
use Rattle.gen_threads.proofs.running.shared_logs.Given as goal

abbrev pub invariant-loop-log : goal.invariant-loop-log
invariant-loop-log l = record {
  shown : l.shared.items ++ into_iter_items l.log-iterator ≡ l.fn.logs.items;
  room : vec_len l.shared + into_iter_len l.log-iterator ≡ vec_len l.fn.logs;
  capacity : vec_capacity l.shared ≡ vec_capacity l.initial.shared;
}
