-- How far a general has got on its edges, in a round and when it ends.
use Rattle.std.specs.Prelude.{ℕ, ◌≡◌, ◌⊎◌, ◌+◌, ◌<◌, ◌≤◌, true, List, length, if◌then◌else◌, nat_lt, slice_index_or}
use Rattle.std.specs.List.{range_with_len, AllZip, All}
use Rattle.gen_edge.specs.declared.passes.PutPass.{PutPass}
use Rattle.gen_edge.specs.declared.passes.TakePass.{TakePass}
use Rattle.gen_edge.specs.Ends.{put_view, take_view}
use Rattle.gen_net.specs.Network.{Network}
use Rattle.gen_general.specs.Recording.{Recorder}
use Rattle.gen_scenario.specs.Scenario.{Scenario}
use Rattle.gen_scenario.specs.SignedWorld.{neighbours_of}
use Rattle.gen_general.specs.DrivenRecords.{HasSent, HasHeard}
use Rattle.gen_scenario.specs.SignedWorld.{near_of}
use Rattle.gen_threads.specs.declared.edges.Edges.{Edges}
use Rattle.gen_threads.specs.Edges.{HasPut, HasTakenBy}

-- ---- in the round after the first `gone` rounds

-- one more frame went over the edges with the neighbours below `next` than over the edges with the others
abbrev pub carried_until : ℕ → ℕ → ℕ → ℕ
carried_until gone next h = if nat_lt h next then gone + 1 else gone

abbrev pub HasPutUntil : Edges → Scenario → ℕ → ℕ → ℕ → ℕ → PutPass → Type 0
HasPutUntil edges s gone next g h pass = HasPut edges s (carried_until gone next h) g h pass

abbrev pub HasTakenUntil : Edges → Scenario → ℕ → ℕ → ℕ → ℕ → TakePass → Type 0
HasTakenUntil edges s gone next g h pass = HasTakenBy edges s (carried_until gone next h) g h pass

-- the number of neighbours below `next`
abbrev pub index_of_next : Network → ℕ → ℕ → ℕ
index_of_next net g next = length (near_of net g (range_with_len 0 next))

-- the general has begun the round, and has put a frame to each neighbour below `next`
pub record IsPutting (edges : Edges) (s : Scenario) (gone g next index : ℕ) (r : Recorder)
    (puts : List PutPass) : Type 0 where
  pub sent : HasSent s gone g (near_of s.net g (range_with_len 0 next)) r
  pub here : index ≡ index_of_next s.net g next
  pub passes : AllZip (HasPutUntil edges s gone next g) (neighbours_of s.net g) puts

-- the general has put a frame to all neighbours, and has taken one from each neighbour below `next`
pub record IsTaking (edges : Edges) (s : Scenario) (gone g next index : ℕ) (r : Recorder)
    (takes : List TakePass) : Type 0 where
  pub heard : HasHeard s gone g (near_of s.net g (range_with_len 0 next)) r
  pub here : index ≡ index_of_next s.net g next
  pub passes : AllZip (HasTakenUntil edges s gone next g) (neighbours_of s.net g) takes

-- ---- when the general ends

-- the frames of all rounds went over the edge by this pass, or the last word did
abbrev pub IsPutOver : ℕ → PutPass → Type 0
IsPutOver rounds pass = (rounds ≤ (put_view pass).put) ⊎ ((put_view pass).gone_put ≡ true)

abbrev pub IsTakeOver : ℕ → TakePass → Type 0
IsTakeOver rounds pass = (rounds ≤ (take_view pass).taken) ⊎ ((take_view pass).gone_taken ≡ true)

-- this holds of the passes at the indices below a bound
abbrev pub IsOverUntil : {P : Type 0} → (P → Type 0) → ℕ → List P → Type 0
IsOverUntil {P} IsOver index passes = (k : ℕ) (d : P) → k < index → IsOver (slice_index_or passes k d)

pub record AreOverUntil (rounds index : ℕ) (puts : List PutPass) (takes : List TakePass) : Type 0 where
  pub putting : IsOverUntil (IsPutOver rounds) index puts
  pub taking : IsOverUntil (IsTakeOver rounds) index takes

-- this holds of all passes: nothing is left for the general to do on its edges
pub record AreOver (rounds : ℕ) (puts : List PutPass) (takes : List TakePass) : Type 0 where
  pub putting : All (IsPutOver rounds) puts
  pub taking : All (IsTakeOver rounds) takes
