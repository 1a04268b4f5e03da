-- A judgement as JSON.
use Rattle.std.specs.Prelude.{ℕ, List, [], ◌∷◌, codes, Option, Some, None}
use Rattle.serde_json.specs.Data.{Data, Members, null, object, string}
use Rattle.gen_net.specs.Header.{run_id_of}
use Rattle.gen_plan.specs.EqualRoots.{equal_roots}
use Rattle.gen_plan.specs.Parted.{parted_pair}
use Rattle.gen_scenario.specs.declared.scenario.Decision.{Decision}
use Rattle.gen_convict.specs.Evidence.{Accusation}
use Rattle.gen_audit.specs.Bundle.{Bundle}
use Rattle.gen_audit.specs.declared.verdicts.Verdict.{Verdict}
use Rattle.gen_audit.specs.declared.verdicts.Verdict.TheVariants.{Agreed, Explained, No}
use Rattle.gen_audit.specs.Verdict.{findings_in}
use Rattle.gen_json.specs.JsonData.{whole, list_of, numbers_data, pair_data, pairs_data, digits_data, json_version, members, network_data}
use Rattle.gen_json.specs.DecidedLogs.{logs_data}
use Rattle.gen_json_parts.specs.FindingData.{finding_data}
use Rattle.gen_json_parts.specs.StatusData.{statuses_data}
use Rattle.gen_json.specs.DecisionData.{decided_data}
use Rattle.gen_json.specs.ConvictionData.{conviction_data}
use Rattle.gen_json.specs.OriginData.{Origin, maybe, with_origin}

-- the word for a verdict
abbrev pub verdict_word : Verdict → List ℕ
verdict_word (Agreed order) = codes "agreed"
verdict_word (Explained decisions) = codes "explained"
verdict_word (No findings) = codes "no"

-- the order that was agreed on, and null if the verdict is another
abbrev pub order_data : Verdict → Data
order_data (Agreed order) = whole order
order_data (Explained decisions) = null
order_data (No findings) = null

-- the decisions of a verdict that all is explained; none of another verdict
abbrev pub decisions_in : Verdict → List Decision
decisions_in (Agreed order) = []
decisions_in (Explained decisions) = decisions
decisions_in (No findings) = []

-- The fields of a judgement, of its parts and the word for its verdict. They stand in the order of their
-- names.
abbrev pub verdict_members :
    (convictions decisions equal faulty findings logs network order parted run statuses : Data) → List ℕ
    → Members
verdict_members convictions decisions equal faulty findings logs network order parted run statuses w =
    members (
    (codes "convictions", convictions)
    ∷ (codes "decisions", decisions)
    ∷ (codes "equal_roots", equal)
    ∷ (codes "faulty", faulty)
    ∷ (codes "findings", findings)
    ∷ (codes "format", string (codes "verdict"))
    ∷ (codes "logs", logs)
    ∷ (codes "network", network)
    ∷ (codes "order", order)
    ∷ (codes "parted", parted)
    ∷ (codes "run", run)
    ∷ (codes "statuses", statuses)
    ∷ (codes "verdict", string w)
    ∷ (codes "version", whole json_version)
    ∷ [])

-- the fields of a judgement on a bundle
abbrev pub judgement_members : Bundle → Verdict → List Accusation → Members
judgement_members b verdict convictions =
    verdict_members (list_of conviction_data convictions) (list_of decided_data (decisions_in verdict))
    (pairs_data (equal_roots b.header)) (numbers_data b.faulty) (list_of finding_data (findings_in verdict))
    (logs_data b.header b.exhibits) (network_data b.header.network) (order_data verdict)
    (maybe pair_data (parted_pair b.header.network b.faulty)) (digits_data (run_id_of b.header))
    (statuses_data b.header.network b.faulty (findings_in verdict) convictions) (verdict_word verdict)

-- the object of these fields, and of those of where the answer comes from, if that is told
abbrev pub answer_data : Option Origin → Members → Data
answer_data None answer = object answer
answer_data (Some o) answer = object (with_origin o answer)

-- a judgement on a bundle, with where the answer comes from; without it for a run of several
abbrev pub judgement_data : Option Origin → Bundle → Verdict → List Accusation → Data
judgement_data origin b verdict convictions = answer_data origin (judgement_members b verdict convictions)
