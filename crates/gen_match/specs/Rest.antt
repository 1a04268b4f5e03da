-- The entries of the logs of the rest, and what is computed from each.
use Rattle.std.specs.Prelude.{ℕ, ◌<◌, ◌≤◌, ◌&&◌, Bool, not, cond, nat_lt, List, [], length, All, Contains}
use Rattle.std.specs.List.{flat_map, range_with_len}
use Rattle.std.specs.Option.{unwrap_or}
use Rattle.gen_net.specs.Network.{Network}
use Rattle.gen_net.specs.Log.{LogEntry, Sent, Received}
use Rattle.gen_types.specs.Ends.{is_among}
use Rattle.gen_match.specs.Matching.{Logs}

-- the general is of the rest
abbrev pub is_rest : Network → List ℕ → ℕ → Bool
is_rest net faulty g = nat_lt g net.generals && not (is_among faulty g)

-- the entries of a general's log; none if the general isn't of the rest
abbrev pub rest_entries : Network → List ℕ → Logs → ℕ → List LogEntry
rest_entries net faulty logs g = cond (is_rest net faulty g) (unwrap_or (logs g) []) []

-- the numbers that `given` computes from the entries of the rest, each entry with its general
abbrev pub over_rest : (ℕ → LogEntry → List ℕ) → Network → List ℕ → Logs → List ℕ
over_rest given net faulty logs =
    flat_map (λ g. flat_map (given g) (rest_entries net faulty logs g)) (range_with_len 0 net.generals)

-- in a SEND and a RECV, the order and the generals of the path are below 16, and the path has at most 16
-- generals
abbrev pub IsSmall : LogEntry → Type 0
IsSmall (Sent to v path) = (v < 16) × (length path ≤ 16) × All (λ g. g < 16) path
IsSmall (Received from v path) =
    (from < 16) × (v < 16) × (length path ≤ 16) × All (λ g. g < 16) path
IsSmall _ = Unit {0}

-- each entry of the logs of the generals below count is small
abbrev pub AreSmall : Network → List ℕ → Logs → ℕ → Type 0
AreSmall net faulty logs count =
    (g : ℕ) (e : LogEntry) → g < count → Contains (rest_entries net faulty logs g) e → IsSmall e
