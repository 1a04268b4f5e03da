-- Decisions as JSON.
use Rattle.std.specs.Prelude.{ℕ, List, [], ◌∷◌, codes, Option, Some, None}
use Rattle.serde_json.specs.Data.{Data, null, string}
use Rattle.gen_net.specs.Network.{Network}
use Rattle.gen_scenario.specs.declared.scenario.Decision.{Decision}
use Rattle.gen_json.specs.JsonData.{whole, list_of, numbers_data, digits_data, fields, json_version, network_data}

-- which order a general decided
abbrev pub decided_data : Decision → Data
decided_data d = fields ((codes "general", whole d.general) ∷ (codes "order", whole d.order) ∷ [])

-- which order a general decided from which set of orders
abbrev pub decision_data : Decision → Data
decision_data d = fields (
    (codes "general", whole d.general) ∷ (codes "order", whole d.order)
    ∷ (codes "set", numbers_data d.orders) ∷ [])

-- a run id, and null for none
abbrev pub run_data : Option (List ℕ) → Data
run_data (Some id) = digits_data id
run_data None = null

-- decisions on a network, with the run id and the generals that have scripts
abbrev pub decisions_data : Network → Option (List ℕ) → List ℕ → List Decision → Data
decisions_data net run faulty decisions = fields (
    (codes "decisions", list_of decision_data decisions)
    ∷ (codes "faulty", numbers_data faulty)
    ∷ (codes "format", string (codes "decisions"))
    ∷ (codes "network", network_data net)
    ∷ (codes "run", run_data run)
    ∷ (codes "version", whole json_version)
    ∷ [])
