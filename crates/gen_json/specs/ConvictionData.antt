-- Convictions as JSON.
use Rattle.std.specs.Prelude.{ℕ, List, [], ◌∷◌, codes}
use Rattle.serde_json.specs.Data.{Data, string}
use Rattle.gen_convict.specs.Contradictions.{Claim, TwoTexts, TwoOrders, MissingFromLog, DepartingLog, AcrossRuns}
use Rattle.gen_convict.specs.Evidence.{Accusation}
use Rattle.gen_json.specs.JsonData.{whole, fields}

-- the name of a claim: K1 is two texts under one leaf, be they of one run or of two
abbrev pub claim_name : Claim → List ℕ
claim_name (TwoTexts first second) = codes "K1"
claim_name (TwoOrders v a w b) = codes "K2"
claim_name (MissingFromLog bytes s signature) = codes "K3"
claim_name (DepartingLog bytes p) = codes "K4"
claim_name (AcrossRuns x y) = codes "K1"

-- which general is convicted, and by which kind of evidence
abbrev pub conviction_data : Accusation → Data
conviction_data x =
    fields ((codes "general", whole x.accused) ∷ (codes "id", string (claim_name x.claim)) ∷ [])
