-- Laws of the machine.
use Rattle.std.specs.Prelude.{ℕ, ◌≡◌, ◌+◌, ◌*◌, ◌<◌, ◌≤◌, ◌↔◌, true, List, length, slice_index, sum, All, Option, Some, None, IfSome}
use Rattle.gen_net.specs.Network.{Network, IsNetwork, rounds, AreNeighbours}
use Rattle.gen_async.specs.declared.acts.Act.{Act}
use Rattle.gen_async.specs.declared.acts.Act.TheVariants.{Puts, Takes}
use Rattle.gen_async.specs.Acts.{acts_of}
use Rattle.gen_async.specs.Machine.{at_start, next_act, put, taken, answer, has_moved, after, moves_in, mover}

-- What holds of a machine at all times. Each general has moved some of its acts, at most all of them. No more
-- frames were taken off a queue than were put on it, and no queue holds more frames than its capacity.
pub record IsMachine (net : Network) (capacity : ℕ) (progress : List ℕ) : Type 0 where
  pub generals : length progress ≡ net.generals
  pub within : (g : ℕ) → slice_index progress g ≤ length (acts_of net g)
  pub not_below : (a b : ℕ) → taken net progress a b ≤ put net progress a b
  pub fits : (a b : ℕ) → put net progress a b ≤ taken net progress a b + capacity

-- the attempts are of generals of the network
abbrev pub AreActs : Network → List ℕ → Type 0
AreActs net acts = All (λ g. g < net.generals) acts

-- this holds after every list of attempts, at every capacity
abbrev pub QueueLaw : Type 0
QueueLaw =
    (net : Network) (capacity : ℕ) (acts : List ℕ) → IsNetwork net → AreActs net acts
    → IsMachine net capacity (after net capacity (at_start net) acts)

-- The progress of g, by its next act. Before its put of round l to h it has put l - 1 frames to h, taken all
-- frames of the rounds before, and put l - 1 or l frames to each neighbour. Before its take of round l from h
-- it has put l frames to each neighbour, taken l - 1 frames from h, and taken l - 1 or l frames from each
-- neighbour. If it has no next act, it has put R frames to each neighbour and taken R frames from each.
pub record IsAtPut (net : Network) (progress : List ℕ) (g l h : ℕ) : Type 0 where
  pub joined : AreNeighbours net g h
  pub first : 1 ≤ l
  pub last : l ≤ rounds net
  pub here : put net progress g h + 1 ≡ l
  pub others : (x : ℕ) → AreNeighbours net g x → (l ≤ put net progress g x + 1) × (put net progress g x ≤ l)
  pub took : (x : ℕ) → AreNeighbours net g x → taken net progress x g + 1 ≡ l

pub record IsAtTake (net : Network) (progress : List ℕ) (g l h : ℕ) : Type 0 where
  pub joined : AreNeighbours net g h
  pub first : 1 ≤ l
  pub last : l ≤ rounds net
  pub here : taken net progress h g + 1 ≡ l
  pub others : (x : ℕ) → AreNeighbours net g x → (l ≤ taken net progress x g + 1)
      × (taken net progress x g ≤ l)
  pub gave : (x : ℕ) → AreNeighbours net g x → put net progress g x ≡ l

pub record IsAtEnd (net : Network) (progress : List ℕ) (g : ℕ) : Type 0 where
  pub all : length (acts_of net g) ≤ slice_index progress g
  pub gave : (x : ℕ) → AreNeighbours net g x → put net progress g x ≡ rounds net
  pub took : (x : ℕ) → AreNeighbours net g x → taken net progress x g ≡ rounds net

abbrev pub IsAt : Network → List ℕ → ℕ → Option Act → Type 0
IsAt net progress g None = IsAtEnd net progress g
IsAt net progress g (Some (Puts l h)) = IsAtPut net progress g l h
IsAt net progress g (Some (Takes l h)) = IsAtTake net progress g l h

abbrev pub ProgressLaw : Type 0
ProgressLaw =
    (net : Network) (progress : List ℕ) (g : ℕ) → IsNetwork net
    → IsAt net progress g (next_act net progress g)

-- no general has an act left
abbrev pub AllDone : Network → List ℕ → Type 0
AllDone net progress = (g : ℕ) → g < net.generals → next_act net progress g ≡ None

-- The general that `mover` names is one whose next act moves. It names none if and only if all generals are
-- done.
pub record MoverNames (net : Network) (capacity : ℕ) (progress : List ℕ) (named : Option ℕ) : Type 0 where
  pub moves : IfSome named (λ g. (g < net.generals) × (has_moved (answer net capacity progress g) ≡ true))
  pub done : (named ≡ None) ↔ AllDone net progress

abbrev pub MoverLaw : Type 0
MoverLaw =
    (net : Network) (capacity : ℕ) (progress : List ℕ) → IsNetwork net → 1 ≤ capacity
    → IsMachine net capacity progress
    → MoverNames net capacity progress (mover net capacity progress)

-- the number of acts that have moved is the sum of the progress of all generals; it is at most four times R
-- for each edge, and exactly that once all are done
pub record CountsMoves (net : Network) (capacity : ℕ) (acts progress : List ℕ) : Type 0 where
  pub counted : moves_in net capacity (at_start net) acts ≡ sum progress
  pub at_most : sum progress ≤ 4 * length net.edges * rounds net
  pub in_all : AllDone net progress → sum progress ≡ 4 * length net.edges * rounds net

abbrev pub CountLaw : Type 0
CountLaw =
    (net : Network) (capacity : ℕ) (acts : List ℕ) → IsNetwork net → AreActs net acts
    → CountsMoves net capacity acts (after net capacity (at_start net) acts)
