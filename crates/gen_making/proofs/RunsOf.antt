-- The bundles of the runs of a campaign, and their bytes.
use Rattle.std.proofs.Common.{◌≡◌, ◌≤◌, ◌++◌, ◌∙◌, ℕ, Bool, true, false, List, [], ◌∷◌, length, map, Ok, refl, ap, arith, Result}
use Rattle.std.specs.Int.{w32, to_be_bytes}
use Rattle.std.specs.List.{AllZip, flat_map}
use Rattle.std.proofs.lemmas.List.{length-map}
use Rattle.std.proofs.lemmas.Slice.Zip.{AllZip-long}
use Rattle.gen_types.specs.Reading.{◌>>=◌, check}
use Rattle.gen_scenario.specs.Scenario.{Scenario}
use Rattle.gen_audit.specs.Bundle.{Bundle}
use Rattle.gen_audit.specs.BundleSpelling.{bundle_spelling}
use Rattle.gen_campaign.specs.CampaignSpelling.{campaign_mark}
use Rattle.gen_campaign.specs.Campaign.{is_run_count}
use Rattle.gen_campaign.specs.Series.{are_alike, ascend_from, campaign_of}
use Rattle.gen_campaign.specs.declared.series_fault.SeriesFault.{SeriesFault}
use Rattle.gen_campaign.specs.declared.series_fault.SeriesFault.TheVariants.{RunCount, Unlike, SlotOrder}
use Rattle.gen_campaign.proofs.RunCounts.{count_known}
use Rattle.gen_making.specs.Campaigning.{AreBundlesOf, AreTextsOf, IsTextOf, MakesTexts}

abbrev tested : Bool → Bool → Bool → List Scenario → Result (List Scenario) SeriesFault
tested a b c runs = do
  few ← check a RunCount
  alike ← check b Unlike
  apart ← check c SlotOrder
  Ok runs

first_passed : (a b c : Bool) (runs xs : List Scenario) → tested a b c runs ≡ Ok xs → a ≡ true
first_passed false b c runs xs e = absurd cc
first_passed true b c runs xs e = refl

-- the texts of the runs of a campaign are few
pub few_texts : (runs : List Scenario) (texts : List (List ℕ)) → campaign_of runs ≡ Ok runs → AreTextsOf runs texts → length texts ≤ 4
few_texts runs texts ok are =
    let few = count_known (length runs) (first_passed (is_run_count (length runs)) (are_alike runs) (ascend_from 0 runs) runs runs ok) in
    omega (arith, few.1, AllZip-long IsTextOf runs texts are)

-- the bundles whose texts they are
bundles_behind : (runs : List Scenario) (texts : List (List ℕ)) → AreTextsOf runs texts → (bundles : List Bundle) × AreBundlesOf runs bundles × (texts ≡ map bundle_spelling bundles)
bundles_behind [] [] are = ([], are, refl)
bundles_behind [] (t ∷ texts) are = absurd are
bundles_behind (s ∷ runs) [] are = absurd are
bundles_behind (s ∷ runs) (t ∷ texts) are =
    let here = are.0 in
    let more = bundles_behind runs texts are.1 in
    (here.0 ∷ more.0, (here.1, more.1), (λ i. here.2 i ∷ more.2 i))

pieces : (bundles : List Bundle) → flat_map (λ (text : List ℕ). text) (map bundle_spelling bundles) ≡ flat_map bundle_spelling bundles
pieces [] = refl
pieces (b ∷ bundles) = ap (λ (xs : List ℕ). bundle_spelling b ++ xs) (pieces bundles)

-- the texts behind the front of so many runs are the campaign's
pub makes_texts : (runs : List Scenario) (texts : List (List ℕ)) (text : List ℕ) → AreTextsOf runs texts
    → text ≡ (to_be_bytes w32 campaign_mark ++ length texts ∷ []) ++ flat_map (λ (t : List ℕ). t) texts → MakesTexts runs text
makes_texts runs texts text are is =
    let behind = bundles_behind runs texts are in
    let bundles = behind.0 in
    let spelled : texts ≡ map bundle_spelling bundles = behind.2 in
    let long : length texts ≡ length bundles = ap (λ (xs : List (List ℕ)). length xs) spelled ∙ length-map bundles bundle_spelling in
    let shown : flat_map (λ (t : List ℕ). t) texts ≡ flat_map bundle_spelling bundles = ap (flat_map (λ (t : List ℕ). t)) spelled ∙ pieces bundles in
    (bundles, behind.1, is ∙ (λ i. (to_be_bytes w32 campaign_mark ++ long i ∷ []) ++ shown i))
