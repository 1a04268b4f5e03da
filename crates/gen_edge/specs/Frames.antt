-- The frames of a run that go over an edge, and what an edge has carried of them.
use Rattle.std.specs.Prelude.{ℕ, ◌+◌, Bool, true, false, List, [], ◌∷◌, ◌++◌, map, take, Option, Some, None}
use Rattle.std.specs.List.{range_with_len}
use Rattle.gen_net.specs.Network.{rounds}
use Rattle.gen_scenario.specs.Scenario.{Scenario}
use Rattle.gen_scenario.specs.SignedWorld.{frame_at}
use Rattle.gen_edge.specs.declared.frames.Frame.{Frame}
use Rattle.gen_edge.specs.declared.frames.Frame.TheVariants as variants

-- the bytes of a frame's parcels
abbrev pub Parcels : Type 0
Parcels = List (List ℕ)

-- what goes over an edge: the frame of a round, or the word that no more comes
pub data Carried : Type 0 where
  round : ℕ → Parcels → Carried
  gone : Carried

abbrev pub carried : Frame → Carried
carried (variants.Round number parcels) = round number parcels.items
carried variants.Gone = gone

-- the round of a frame, or none for the last word
abbrev pub number_of : Carried → Option ℕ
number_of (round number parcels) = Some number
number_of gone = None

-- the frames of rounds k + 1, k + 2 and so on
abbrev pub numbered : ℕ → List Parcels → List Carried
numbered k [] = []
numbered k (x ∷ xs) = round (k + 1) x ∷ numbered (k + 1) xs

abbrev pub ending : Bool → List Carried
ending true = gone ∷ []
ending false = []

-- the run's first n frames, and then the word that no more comes, if it was put
abbrev pub row : List Parcels → ℕ → Bool → List Carried
row frames n ended = numbered 0 (take n frames) ++ ending ended

-- the frames of the scenario's run on the edge from a to b, round by round
abbrev pub edge_frames : Scenario → ℕ → ℕ → List Parcels
edge_frames s a b = map (λ l. frame_at s l a b) (range_with_len 1 (rounds s.net))
