-- What is printed of the verdict on a campaign has no floats, and nests a few levels deep.
use Rattle.std.proofs.Common.{◌≡◌, ℕ, ◌≤◌, List, [], ◌∷◌, map, false, true, refl, arith}
use Rattle.std.specs.Prelude.{Bool, Option, Some, None}
use Rattle.serde_json.specs.Data.{Data, depth, items_depth}
use Rattle.serde_json.specs.View.{items_of}
use Rattle.serde_json.specs.Written.{has_float, items_have_float}
use Rattle.gen_convict.specs.Contradictions.{Claim, TwoTexts, TwoOrders, MissingFromLog, DepartingLog, AcrossRuns}
use Rattle.gen_convict.specs.Evidence.{Accusation, told_of}
use Rattle.gen_audit.specs.Bundle.{Bundle}
use Rattle.gen_audit.specs.declared.verdicts.Judgement.{Judgement}
use Rattle.gen_campaign.specs.Campaign.{CampaignBundle}
use Rattle.gen_json_files.specs.CampaignData.{across_data, across_data_of, alone_data, campaign_data, run_data, runs_data, several_data}
use Rattle.gen_json.specs.OriginData.{Origin}
use Rattle.gen_json.proofs.Plain.{items_plain, items_shallow}
use Rattle.gen_json.proofs.PlainOrigins.{asked_plain, asked_shallow, input_plain, input_shallow}
use Rattle.gen_json_parts.proofs.PlainVerdicts.{judgement_plain, judgement_shallow}

across_claim_plain : (bundles : List Bundle) (g : ℕ) (c : Claim) → has_float (across_data_of bundles g c) ≡ false
across_claim_plain bundles g (TwoTexts x y) = refl
across_claim_plain bundles g (TwoOrders v a w b) = refl
across_claim_plain bundles g (MissingFromLog bytes s signature) = refl
across_claim_plain bundles g (DepartingLog bytes p) = refl
across_claim_plain bundles g (AcrossRuns x y) = refl

across_claim_shallow : (bundles : List Bundle) (g : ℕ) (c : Claim) → depth (across_data_of bundles g c) ≤ 1
across_claim_shallow bundles g (TwoTexts x y) = omega arith
across_claim_shallow bundles g (TwoOrders v a w b) = omega arith
across_claim_shallow bundles g (MissingFromLog bytes s signature) = omega arith
across_claim_shallow bundles g (DepartingLog bytes p) = omega arith
across_claim_shallow bundles g (AcrossRuns x y) = omega arith

run_plain : (o : Option Origin) (b : Bundle) (j : Judgement) → has_float (run_data o b j) ≡ false
run_plain o b j = judgement_plain o b j.verdict (map told_of j.convictions.items)

run_shallow : (o : Option Origin) (b : Bundle) (j : Judgement) → depth (run_data o b j) ≤ 3
run_shallow o b j = judgement_shallow o b j.verdict (map told_of j.convictions.items)

-- one value more in front of values without floats, and in front of values that nest few levels deep
plain_before : (d : Data) (ds : List Data) → has_float d ≡ false → items_have_float (items_of ds) ≡ false
    → items_have_float (items_of (d ∷ ds)) ≡ false
plain_before d ds first rest = rw first rest

shallow_before : (n : ℕ) (d : Data) (ds : List Data) → depth d ≤ n → items_depth (items_of ds) ≤ n
    → items_depth (items_of (d ∷ ds)) ≤ n
shallow_before n d ds first rest = omega (arith, first, rest)

runs_plain : (bs : List Bundle) (js : List Judgement) → items_have_float (items_of (runs_data bs js)) ≡ false
runs_plain [] js = refl
runs_plain (b ∷ bs) [] = refl
runs_plain (b ∷ bs) (j ∷ js) = plain_before (run_data None b j) (runs_data bs js) (run_plain None b j) (runs_plain bs js)

runs_shallow : (bs : List Bundle) (js : List Judgement) → items_depth (items_of (runs_data bs js)) ≤ 3
runs_shallow [] js = omega arith
runs_shallow (b ∷ bs) [] = omega arith
runs_shallow (b ∷ bs) (j ∷ js) = shallow_before 3 (run_data None b j) (runs_data bs js) (run_shallow None b j) (runs_shallow bs js)

several_plain : (o : Origin) (bs : List Bundle) (js : List Judgement) (xs : List Accusation)
    → has_float (several_data o bs js xs) ≡ false
several_plain o bs js xs =
    rw (
      items_plain (across_data bs) (λ x. across_claim_plain bs x.accused x.claim) xs,
      asked_plain o,
      input_plain o,
      runs_plain bs js,
    )
    refl

several_within : (o : Origin) (bs : List Bundle) (js : List Judgement) (xs : List Accusation)
    → depth (several_data o bs js xs) ≤ 127
several_within o bs js xs =
    omega (
      arith,
      items_shallow (across_data bs) 1 (λ x. across_claim_shallow bs x.accused x.claim) xs,
      asked_shallow o,
      input_shallow o,
      runs_shallow bs js,
    )

alone_plain : (o : Origin) (bs : List Bundle) (js : List Judgement) → has_float (alone_data o bs js) ≡ false
alone_plain o [] js = refl
alone_plain o (b ∷ bs) [] = refl
alone_plain o (b ∷ bs) (j ∷ js) = run_plain (Some o) b j

-- few levels are within the levels that a reader takes
below : (n : ℕ) → n ≤ 3 → n ≤ 127
below n few = omega (arith, few)

alone_within : (o : Origin) (bs : List Bundle) (js : List Judgement) → depth (alone_data o bs js) ≤ 127
alone_within o [] js = omega arith
alone_within o (b ∷ bs) [] = omega arith
alone_within o (b ∷ bs) (j ∷ js) = below (depth (run_data (Some o) b j)) (run_shallow (Some o) b j)

form_plain : (o : Origin) (alone : Bool) (bs : List Bundle) (js : List Judgement) (xs : List Accusation)
    → has_float (campaign_data o (record { alone = alone; bundles = bs }) js xs) ≡ false
form_plain o true bs js xs = alone_plain o bs js
form_plain o false bs js xs = several_plain o bs js xs

form_within : (o : Origin) (alone : Bool) (bs : List Bundle) (js : List Judgement) (xs : List Accusation)
    → depth (campaign_data o (record { alone = alone; bundles = bs }) js xs) ≤ 127
form_within o true bs js xs = alone_within o bs js
form_within o false bs js xs = several_within o bs js xs

pub campaign_plain : (o : Origin) (c : CampaignBundle) (js : List Judgement) (xs : List Accusation)
    → has_float (campaign_data o c js xs) ≡ false
campaign_plain o c js xs = form_plain o c.alone c.bundles js xs

pub campaign_within : (o : Origin) (c : CampaignBundle) (js : List Judgement) (xs : List Accusation)
    → depth (campaign_data o c js xs) ≤ 127
campaign_within o c js xs = form_within o c.alone c.bundles js xs
