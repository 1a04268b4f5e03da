-- What lies on the queues and what the generals took, for any world of frames: world l a b is what a sends b
-- in round l.
use Rattle.std.specs.Prelude.{ℕ, ◌≡◌, ◌+◌, ◌-◌, ◌≤◌, ◌==◌, ◌&&◌, List, [], ◌∷◌, ◌++◌, length, map, fold, Option, Some, None, nat_lt, slice_index, slice_set, if◌then◌else◌}
use Rattle.std.specs.List.{flat_map, range_with_len}
use Rattle.gen_net.specs.Network.{Network, IsNetwork, rounds, AreNeighbours}
use Rattle.gen_async.specs.declared.acts.Act.{Act}
use Rattle.gen_async.specs.declared.acts.Act.TheVariants.{Puts, Takes}
use Rattle.gen_scenario.specs.SignedWorld.{neighbours_of}
use Rattle.gen_async.specs.Machine.{at_start, moved_acts, next_act, taken, queued, after}
use Rattle.gen_async.specs.Laws.{AreActs}

-- the queue from a to b: the frames of this edge in the world, from the number taken plus one up to the
-- number put, in order
unfoldable pub queue : {F : Type 0} → Network → (ℕ → ℕ → ℕ → F) → List ℕ → ℕ → ℕ → List F
queue net world progress a b =
    map (λ l. world l a b) (range_with_len (taken net progress a b + 1) (queued net progress a b))

-- a frame that a general took, with its round and its sender
pub record Arrival (F : Type 0) : Type 0 where
  pub round : ℕ
  pub from : ℕ
  pub frame : F

-- what g takes by a list of acts
abbrev pub taken_by : {F : Type 0} → (ℕ → ℕ → ℕ → F) → ℕ → List Act → List (Arrival F)
taken_by world g [] = []
taken_by world g (Puts l h ∷ acts) = taken_by world g acts
taken_by world g (Takes l h ∷ acts) =
    record { round = l; from = h; frame = world l h g } ∷ taken_by world g acts

-- what g has taken so far
unfoldable pub took : {F : Type 0} → Network → (ℕ → ℕ → ℕ → F) → List ℕ → ℕ → List (Arrival F)
took net world progress g = taken_by world g (moved_acts net progress g)

-- what comes to g in `count` rounds from round l on: the frames from its neighbours in ascending order, round
-- by round
abbrev pub heard_in : {F : Type 0} → Network → (ℕ → ℕ → ℕ → F) → ℕ → ℕ → ℕ → List (Arrival F)
heard_in net world g l count =
    flat_map (λ k. map (λ h. record { round = k; from = h; frame = world k h g }) (neighbours_of net g))
    (range_with_len l count)

-- The world is what these participants make: the frame of round l from g follows from what came to g in the
-- earlier rounds.
abbrev pub IsMadeBy : {F : Type 0} → Network → (ℕ → List (Arrival F) → ℕ → ℕ → F) → (ℕ → ℕ → ℕ → F) → Type 0
IsMadeBy net says world =
    (g l h : ℕ) → 1 ≤ l → l ≤ rounds net → AreNeighbours net g h
    → world l g h ≡ says g (heard_in net world g 1 (l - 1)) l h

-- The machine with its frames: the progress of each general, the queues, and what each general took.
pub record Running (F : Type 0) : Type 0 where
  pub progress : List ℕ
  pub queues : ℕ → ℕ → List F
  pub taken : ℕ → List (Arrival F)

-- the table f with x in the cell of a and b, and the row f with x at a
abbrev pub with_pair : {X : Type 0} → (ℕ → ℕ → X) → ℕ → ℕ → X → ℕ → ℕ → X
with_pair f a b x c d = if c == a && d == b then x else f c d

abbrev pub with_one : {X : Type 0} → (ℕ → X) → ℕ → X → ℕ → X
with_one f a x c = if c == a then x else f c

-- the machine after g takes the front of this queue, the queue from h, in round l
abbrev pub run_take : {F : Type 0} → Running F → ℕ → ℕ → ℕ → List F → Running F
run_take s g l h [] = s
run_take s g l h (frame ∷ rest) = record {
  progress = slice_set s.progress g (slice_index s.progress g + 1);
  queues = with_pair s.queues h g rest;
  taken = with_one s.taken g (s.taken g ++ record { round = l; from = h; frame = frame } ∷ []);
}

-- An attempt at this act. A put appends the frame that follows from what g took, if the queue isn't full. A
-- take removes the front of the queue, if there is one.
abbrev pub run_act : {F : Type 0} → (ℕ → List (Arrival F) → ℕ → ℕ → F) → ℕ → Running F → ℕ → Option Act
    → Running F
run_act says capacity s g None = s
run_act says capacity s g (Some (Puts l h)) =
    if nat_lt (length (s.queues g h)) capacity
    then record {
      progress = slice_set s.progress g (slice_index s.progress g + 1);
      queues = with_pair s.queues g h (s.queues g h ++ says g (s.taken g) l h ∷ []);
      taken = s.taken;
    }
    else s
run_act says capacity s g (Some (Takes l h)) = run_take s g l h (s.queues h g)

unfoldable pub run_step : {F : Type 0} → Network → (ℕ → List (Arrival F) → ℕ → ℕ → F) → ℕ → Running F → ℕ
    → Running F
run_step net says capacity s g = run_act says capacity s g (next_act net s.progress g)

abbrev pub run_start : {F : Type 0} → Network → Running F
run_start net = record { progress = at_start net; queues = λ a b. []; taken = λ g. [] }

-- every queue, and what each general took, is as the world says
pub record IsOfWorld {F : Type 0} (net : Network) (world : ℕ → ℕ → ℕ → F) (s : Running F) : Type 0 where
  pub queues_same : (a b : ℕ) → s.queues a b ≡ queue net world s.progress a b
  pub taken_same : (g : ℕ) → s.taken g ≡ took net world s.progress g

-- After any attempts at acts, in a world that the participants make, the frames that were put are the
-- world's. The queue of an edge holds them from the number taken plus one up to the number put, in order.
pub record RunsAsWorld {F : Type 0} (net : Network) (says : ℕ → List (Arrival F) → ℕ → ℕ → F)
    (world : ℕ → ℕ → ℕ → F) (capacity : ℕ) (acts : List ℕ) : Type 0 where
  pub progress : (fold (run_step net says capacity) (run_start net) acts).progress
      ≡ after net capacity (at_start net) acts
  pub world_holds : IsOfWorld net world (fold (run_step net says capacity) (run_start net) acts)

abbrev pub RunLaw : Type 0 → Type 0
RunLaw F =
    (net : Network) (says : ℕ → List (Arrival F) → ℕ → ℕ → F) (world : ℕ → ℕ → ℕ → F) (capacity : ℕ)
    (acts : List ℕ)
    → IsNetwork net → IsMadeBy net says world → AreActs net acts → RunsAsWorld net says world capacity acts

-- What a general has taken before its put of round l is what comes to it in the rounds before.
abbrev pub HeardLaw : Type 0 → Type 0
HeardLaw F =
    (net : Network) (world : ℕ → ℕ → ℕ → F) (progress : List ℕ) (g l h : ℕ) → IsNetwork net
    → next_act net progress g ≡ Some (Puts l h) → took net world progress g ≡ heard_in net world g 1 (l - 1)
