-- A header as JSON.
use Rattle.std.specs.Prelude.{ℕ, List, [], ◌∷◌, ◌++◌, codes}
use Rattle.std.specs.List.{flat_map}
use Rattle.serde_json.specs.Data.{Data, string}
use Rattle.gen_net.specs.Header.{RunHeader, run_id_of}
use Rattle.gen_net.specs.Version.{slot_in}
use Rattle.gen_plan.specs.EqualRoots.{equal_roots}
use Rattle.gen_file.specs.Kinds.{version_number}
use Rattle.gen_json.specs.JsonData.{digits_data, fields, json_version, list_of, network_data, pair_data, pairs_data, whole}
use Rattle.gen_json.specs.Line.{json_line}

-- a header of a file of this name
unfoldable pub header_data : List ℕ → RunHeader → Data
header_data name h = fields (
    (codes "edges", pairs_data h.network.edges)
    ∷ (codes "file", string name)
    ∷ (codes "format", string (codes "shown header"))
    ∷ (codes "network", network_data h.network)
    ∷ (codes "roots", list_of digits_data h.roots)
    ∷ (codes "run", digits_data (run_id_of h))
    ∷ (codes "run_version", whole (version_number h.version))
    ∷ (codes "slot", whole (slot_in h.version))
    ∷ (codes "version", whole json_version)
    ∷ [])

-- two generals with the same root
unfoldable pub equal_roots_data : ℕ × ℕ → Data
equal_roots_data pair = fields (
    (codes "format", string (codes "shown equal roots"))
    ∷ (codes "generals", pair_data pair)
    ∷ (codes "version", whole json_version)
    ∷ [])

-- the line of two generals with the same root
abbrev pub equal_roots_line : ℕ × ℕ → List ℕ
equal_roots_line pair = json_line (equal_roots_data pair)

-- the lines of a header of a file of this name: the header, and pairs of equal roots
unfoldable pub header_lines : List ℕ → RunHeader → List ℕ
header_lines name h = json_line (header_data name h) ++ flat_map equal_roots_line (equal_roots h)
