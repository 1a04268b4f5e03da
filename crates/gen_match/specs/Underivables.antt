-- How received chains that derive from nothing are found: by the keys of what the rest sent.
use Rattle.std.specs.Prelude.{ℕ, ◌+◌, ◌*◌, ◌&&◌, Bool, true, not, cond, List, [], ◌∷◌, length, Option, Some, None}
use Rattle.gen_net.specs.Network.{Network}
use Rattle.gen_net.specs.Log.{LogEntry, Sent, Received}
use Rattle.gen_types.specs.Ends.{is_among}
use Rattle.gen_match.specs.Matching.{Logs}
use Rattle.gen_match.specs.Prefixes.{source_key, begin_keys, has_between}
use Rattle.gen_match.specs.Ranks.{rank_number}
use Rattle.gen_match.specs.Rest.{is_rest, over_rest}

-- the keys of a SEND to a faulty general
abbrev pub entry_keys : List ℕ → LogEntry → List ℕ
entry_keys faulty (Sent to v path) =
    cond (is_among faulty to) (begin_keys v (length path) 1 path) []
entry_keys faulty _ = []

-- the keys of all that the rest sent the faulty
abbrev pub rest_keys : Network → List ℕ → Logs → List ℕ
rest_keys net faulty logs = over_rest (λ g. entry_keys faulty) net faulty logs

-- the number of the path up to its last general of the rest, or else the number that was found before
abbrev pub rest_begin : Network → List ℕ → ℕ → Option ℕ → List ℕ → Option ℕ
rest_begin net faulty n found [] = found
rest_begin net faulty n found (g ∷ path) = rest_begin net faulty (n * 16 + g)
    (cond (is_rest net faulty g) (Some (n * 16 + g)) found) path

-- one of the keys is of that beginning, of a path with fewer generals; and the received path derives
abbrev pub derives_from : List ℕ → ℕ → ℕ → Option ℕ → Bool
derives_from keys order len None = true
derives_from keys order len (Some n) =
    has_between keys (source_key n order 0) (source_key n order len)

abbrev pub derives : List ℕ → Network → List ℕ → ℕ → List ℕ → Bool
derives keys net faulty order path =
    derives_from keys order (length path) (rest_begin net faulty 1 None path)

-- the rank of an entry that is a chain from a faulty general and doesn't derive
abbrev pub found_at : List ℕ → Network → List ℕ → ℕ → LogEntry → List ℕ
found_at keys net faulty to (Received from v path) =
    cond (is_among faulty from && not (derives keys net faulty v path))
    (rank_number from to (length path) v ∷ []) []
found_at keys net faulty to _ = []

-- the ranks of all received chains from faulty generals that don't derive
abbrev pub found_ranks : List ℕ → Network → List ℕ → Logs → List ℕ
found_ranks keys net faulty logs = over_rest (found_at keys net faulty) net faulty logs
