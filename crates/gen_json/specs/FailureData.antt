-- A fault in place of an answer, as JSON.
use Rattle.std.specs.Prelude.{ℕ, List, [], ◌∷◌, codes, Option}
use Rattle.serde_json.specs.Data.{Data, string}
use Rattle.gen_json.specs.JsonData.{fields, json_version, whole}
use Rattle.gen_json.specs.OriginData.{maybe}

-- The line of a fault, the kind of the input by its first bytes and the input's name, if there are any, and
-- the exit status.
abbrev pub failure_data : List ℕ → Option (List ℕ) → Option (List ℕ) → ℕ → Data
failure_data line kind name status = fields (
    (codes "fault", string line)
    ∷ (codes "format", string (codes "fault"))
    ∷ (codes "kind", maybe string kind)
    ∷ (codes "name", maybe string name)
    ∷ (codes "status", whole status)
    ∷ (codes "version", whole json_version)
    ∷ [])
