use Rattle.std.proofs.Common.{◌≡◌, vec_len}
use Rattle.gen_threads.proofs.together.run_works.Given as goal

abbrev pub invariant-loop : goal.invariant-loop
invariant-loop g l = vec_len l.all_flags ≡ l.counter
