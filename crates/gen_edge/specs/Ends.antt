-- What contracts say of an edge and its two passes.
use Rattle.std.specs.Prelude.{◌≡◌, ◌<◌, ◌≤◌, ◌+◌, ◌⊎◌, ℕ, true, false, length}
use Rattle.crossbeam_queue.specs.Fifo.{Held}
use Rattle.gen_edge.specs.Tied.{PutsSee, TakesSee}
use Rattle.crossbeam_queue.specs.Passes.{view, IsPassOf, ruled_capacity}
use Rattle.gen_edge.specs.declared.rule.PassView.{PassView}
use Rattle.gen_edge.specs.declared.passes.Edge.{Edge}
use Rattle.gen_edge.specs.declared.passes.PutPass.{PutPass}
use Rattle.gen_edge.specs.declared.passes.TakePass.{TakePass}

-- What a pass knows: the frames of the run on its edge, and how many of them it put or took. It also knows
-- whether it put or took the last word, and what it was told of the other pass.
abbrev pub put_view : PutPass → PassView
put_view p = view p.pass

abbrev pub take_view : TakePass → PassView
take_view p = view p.pass

-- the pass is the edge's pass to put, or the edge's pass to take
abbrev pub IsPutPassOf : Edge → PutPass → Type 0
IsPutPassOf e p = IsPassOf e.line p.pass × ((view p.pass).puts ≡ true)

abbrev pub IsTakePassOf : Edge → TakePass → Type 0
IsTakePassOf e p = IsPassOf e.line p.pass × ((view p.pass).takes ≡ true)

-- the number of frames that the queue of the edge can hold
abbrev pub edge_capacity : Edge → ℕ
edge_capacity e = ruled_capacity e.line

-- at most as many frames went by the pass as the run has on the edge, one for each round
abbrev pub PutsWithin : PutPass → Type 0
PutsWithin p = (put_view p).put ≤ length (put_view p).frames

abbrev pub TakesWithin : TakePass → Type 0
TakesWithin p = (take_view p).taken ≤ length (take_view p).frames

-- at one moment of the call the queue was full: it held what was put and not yet taken, where at least as
-- many frames were taken as the pass was told of
abbrev pub WasFull : Edge → PutPass → Type 0
WasFull e p = Held (edge_capacity e) (PutsSee (put_view p))

-- at one moment of the call the queue was empty: all that was put until then was taken, and so all that the
-- pass was told of
abbrev pub WasEmpty : TakePass → Type 0
WasEmpty p = Held 0 (TakesSee (take_view p))

-- the pass knows that there is room: it put fewer frames than the sum of the frames that it was told were
-- taken and the capacity of the edge
abbrev pub KnowsOfRoom : Edge → PutPass → Type 0
KnowsOfRoom e p = (put_view p).put < (put_view p).freed + edge_capacity e

-- the pass knows that something was put that it did not take: a frame, or the last word
abbrev pub KnowsOfMore : TakePass → Type 0
KnowsOfMore p =
    ((take_view p).taken < (take_view p).known)
    ⊎ (((take_view p).known_gone ≡ true) × ((take_view p).gone_taken ≡ false))
