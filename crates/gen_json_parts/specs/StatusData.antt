-- What a judgement says of each general, as JSON.
use Rattle.std.specs.Prelude.{ℕ, List, [], ◌∷◌, codes}
use Rattle.std.specs.List.{range_with_len}
use Rattle.serde_json.specs.Data.{Data, string}
use Rattle.gen_net.specs.Network.{Network}
use Rattle.gen_match.specs.declared.finding.Finding.{Finding}
use Rattle.gen_convict.specs.Evidence.{Accusation}
use Rattle.gen_facts.specs.declared.statuses.Status.{Status}
use Rattle.gen_facts.specs.Statuses.{status_of, status_word}
use Rattle.gen_json.specs.JsonData.{whole, list_of, fields}

-- a general and the word for its status
abbrev pub status_data : ℕ → Status → Data
status_data general status =
    fields ((codes "general", whole general) ∷ (codes "status", string (status_word status)) ∷ [])

-- the statuses of all generals, ascending
abbrev pub statuses_data : Network → List ℕ → List Finding → List Accusation → Data
statuses_data net faulty findings convictions =
    list_of (λ g. status_data g (status_of faulty findings convictions g)) (range_with_len 0 net.generals)
