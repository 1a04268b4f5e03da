-- Evidence as JSON.
use Rattle.std.specs.Prelude.{Bool, [], ◌∷◌, codes}
use Rattle.serde_json.specs.Data.{Data, boolean, string}
use Rattle.gen_net.specs.Header.{RunHeader, root_of, run_id_of}
use Rattle.gen_convict.specs.Evidence.{Accusation}
use Rattle.gen_json.specs.JsonData.{whole, digits_data, fields, json_version, network_data}
use Rattle.gen_json.specs.ClaimData.{claim_data}
use Rattle.gen_json.specs.ConvictionData.{claim_name}

-- evidence under a header, and whether it holds
abbrev pub evidence_data : RunHeader → Accusation → Bool → Data
evidence_data h e holds = fields (
    (codes "accused", whole e.accused)
    ∷ (codes "claim", claim_data e.claim)
    ∷ (codes "format", string (codes "evidence"))
    ∷ (codes "holds", boolean holds)
    ∷ (codes "kind", string (claim_name e.claim))
    ∷ (codes "network", network_data h.network)
    ∷ (codes "root", digits_data (root_of h e.accused))
    ∷ (codes "run", digits_data (run_id_of h))
    ∷ (codes "version", whole json_version)
    ∷ [])
