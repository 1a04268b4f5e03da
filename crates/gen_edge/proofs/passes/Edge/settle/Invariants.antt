use Rattle.std.proofs.Common.{◌≡◌, vec_len, vec_capacity}
use Rattle.crossbeam_queue.specs.Passes.{view, IsPassOf}
use Rattle.gen_edge.proofs.Settled.{Drained}
use Rattle.gen_edge.proofs.passes.Edge.settle.Given as goal

abbrev pub invariant-left : goal.invariant-left
invariant-left g l =
    IsPassOf l.line l.pass × Drained (view l.initial.pass) (view l.pass) l.room.items × (vec_len l.room ≡ l._done) × (vec_capacity l.room ≡ vec_capacity l.initial.room)
