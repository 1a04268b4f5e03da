-- The fault of what doesn't read, as JSON.
use Rattle.std.specs.Prelude.{ℕ, List, [], ◌∷◌, codes}
use Rattle.serde_json.specs.Data.{Data, string}
use Rattle.gen_json.specs.JsonData.{fields, json_version, whole}
use Rattle.gen_json.specs.Line.{json_line}

-- the name of a fault, and the byte up to which the file is shown
unfoldable pub fault_data : List ℕ → ℕ → Data
fault_data name at = fields (
    (codes "byte", whole at)
    ∷ (codes "fault", string name)
    ∷ (codes "format", string (codes "shown fault"))
    ∷ (codes "version", whole json_version)
    ∷ [])

unfoldable pub fault_line : List ℕ → ℕ → List ℕ
fault_line name at = json_line (fault_data name at)
