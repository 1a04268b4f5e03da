-- The machine. Its state is one number for each general, its progress: how many of its acts have moved.
use Rattle.std.specs.Prelude.{ℕ, ◌+◌, ◌-◌, Bool, true, false, cond, List, [], ◌∷◌, take, replicate, fold, count_by, find, Option, Some, None, nat_lt, slice_get, slice_index, slice_set, if◌then◌else◌}
use Rattle.std.specs.List.{range_with_len}
use Rattle.gen_net.specs.Network.{Network}
use Rattle.gen_async.specs.declared.acts.Act.{Act}
use Rattle.gen_async.specs.declared.acts.Act.TheVariants.{Puts, Takes}
use Rattle.gen_async.specs.declared.acts.Moved.{Moved}
use Rattle.gen_async.specs.declared.acts.Moved.TheVariants.{Put, Took, Blocked, Done}
use Rattle.gen_async.specs.Acts.{acts_of, is_put_to, is_take_from}

-- no act has moved
abbrev pub at_start : Network → List ℕ
at_start net = replicate net.generals 0

-- the acts of g that have moved, and the next act of g
unfoldable pub moved_acts : Network → List ℕ → ℕ → List Act
moved_acts net progress g = take (slice_index progress g) (acts_of net g)

unfoldable pub next_act : Network → List ℕ → ℕ → Option Act
next_act net progress g = slice_get (acts_of net g) (slice_index progress g)

-- how many frames a has put for b, and how many b has taken from a
unfoldable pub put : Network → List ℕ → ℕ → ℕ → ℕ
put net progress a b = count_by (is_put_to b) (moved_acts net progress a)

unfoldable pub taken : Network → List ℕ → ℕ → ℕ → ℕ
taken net progress a b = count_by (is_take_from a) (moved_acts net progress b)

-- how many frames the queue from a to b holds
abbrev pub queued : Network → List ℕ → ℕ → ℕ → ℕ
queued net progress a b = put net progress a b - taken net progress a b

-- The answer to an attempt of g at this act: a put moves if the queue isn't full, a take moves if the queue
-- isn't empty.
abbrev pub answer_to : Network → ℕ → List ℕ → ℕ → Option Act → Moved
answer_to net capacity progress g None = Done
answer_to net capacity progress g (Some (Puts l h)) =
    if nat_lt (queued net progress g h) capacity then Put else Blocked
answer_to net capacity progress g (Some (Takes l h)) =
    if nat_lt 0 (queued net progress h g) then Took else Blocked

unfoldable pub answer : Network → ℕ → List ℕ → ℕ → Moved
answer net capacity progress g = answer_to net capacity progress g (next_act net progress g)

abbrev pub has_moved : Moved → Bool
has_moved Put = true
has_moved Took = true
has_moved Blocked = false
has_moved Done = false

-- the progress after one attempt of g at its next act
unfoldable pub step : Network → ℕ → List ℕ → ℕ → List ℕ
step net capacity progress g =
    if has_moved (answer net capacity progress g) then slice_set progress g (slice_index progress g + 1)
    else progress

-- the progress after the attempts of these generals, one after another
abbrev pub after : Network → ℕ → List ℕ → List ℕ → List ℕ
after net capacity progress generals = fold (step net capacity) progress generals

-- the number of these attempts that move
abbrev pub moves_in : Network → ℕ → List ℕ → List ℕ → ℕ
moves_in net capacity progress [] = 0
moves_in net capacity progress (g ∷ more) =
    cond (has_moved (answer net capacity progress g)) 1 0 + moves_in net capacity
    (step net capacity progress g) more

-- the first general whose next act moves
unfoldable pub mover : Network → ℕ → List ℕ → Option ℕ
mover net capacity progress =
    find (λ g. has_moved (answer net capacity progress g)) (range_with_len 0 net.generals)
