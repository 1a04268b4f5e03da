-- What the job campaign writes the job audit reads, and accepts.
use Rattle.std.proofs.Common.{◌≡◌, ◌<◌, ◌∷◌, ℕ, Bool, true, false, inl, inr, List, [], map, All, AllPairs, Contains, refl, sym, ap, subst, arith, ◌∙◌}
use Rattle.std.specs.Prelude.{None}
use Rattle.std.specs.List.{AllZip, flat_map, range_with_len}
use Rattle.std.proofs.lemmas.List.Elements.{All-contains, All-head, All-tail, Contains-append_right}
use Rattle.std.proofs.lemmas.List.Kept.{AllPairs-cons}
use Rattle.std.proofs.lemmas.Slice.Zip.{AllZip-long}
use Rattle.gen_types.specs.Spelled.{Spells}
use Rattle.gen_types.specs.Members.{Contains_cases, Contains_here, Contains_nil, Contains_there}
use Rattle.gen_types.proofs.Lists.{All_of, AllPairs_head, AllPairs_tail}
use Rattle.gen_types.proofs.Steps.{ok_is}
use Rattle.gen_tree.specs.Rings.{ring_root, seed_of}
use Rattle.gen_net.specs.declared.version.Version.{Version}
use Rattle.gen_net.specs.declared.version.Version.TheVariants.{One, Two}
use Rattle.gen_net.specs.Header.{RunHeader}
use Rattle.gen_net.specs.Version.{height_in, slot_in}
use Rattle.gen_log.specs.Fields.{AreBelow}
use Rattle.gen_log.specs.Writing.{LogBytes}
use Rattle.gen_scenario.specs.Scenario.{Scenario, IsScenario, header_of, scripted}
use Rattle.gen_scenario.proofs.Having.{in_flat}
use Rattle.gen_audit.specs.Bundle.{Bundle, IsBundle}
use Rattle.gen_audit.specs.BundleSpelling.{bundle_spelling}
use Rattle.gen_audit.specs.Supported.{IsSupported}
use Rattle.gen_audit.proofs.RunBundles.{world_is_bundle}
use Rattle.gen_audit.proofs.Worlds.{world_is_supported}
use Rattle.gen_campaign.specs.declared.campaign_fault.CampaignFault.{CampaignFault}
use Rattle.gen_campaign.specs.Campaign.{AreRuns, CampaignBundle, IsCampaign, IsRunBundle, IsSecond, Joins, JoinsRun}
use Rattle.gen_campaign.specs.CampaignSpelling.{campaign_front, campaign_spelling}
use Rattle.gen_campaign.proofs.CampaignLaws.{campaign_only}
use Rattle.gen_campaign.specs.CampaignText.{HasSlot, MayPrecede, SpellsTexts}
use Rattle.gen_jobs.specs.Accepted.{IsSound, IsSoundIf}
use Rattle.gen_jobs.specs.AcceptedCampaigns.{CampaignsAreAccepted, CampaignsAreAcceptedBy, CampaignsAreRead, together}
use Rattle.gen_plan.specs.EqualRoots.{equal_roots}
use Rattle.gen_judging.specs.Asking.{AuditsAs, has_few, have_few, shared_roots}
use Rattle.gen_making.specs.Campaigning.{IsCampaignRun}
use Rattle.gen_judging.specs.Origins.{nothing_asked}
use Rattle.gen_making.specs.Run.{IsOfRun}
use Rattle.gen_jobs.proofs.Accepted.{counts_not, few_scripted, held_shown, is_acceptable, not_strictly, shown_bytes}

-- ---- the scenarios of a campaign

lawful : (text : List ℕ) (runs : List Scenario) → SpellsTexts text runs → (s : Scenario) → Contains runs s → IsScenario s
lawful text [] spelled s at = absurd (Contains_nil s at)
lawful text (first ∷ others) spelled s at = elim (Contains_cases first s others at) [
  | inl same ↦ subst IsScenario same spelled.3.keys_are.lawful
  | inr later ↦ lawful spelled.1 others spelled.4 s later
]

same_height : (v w : Version) → IsSecond v → IsSecond w → height_in v ≡ height_in w
same_height One w one other = absurd one
same_height (Two i) One one other = absurd other
same_height (Two i) (Two j) one other = refl

joins_next : (s t : Scenario) → HasSlot s → HasSlot t → MayPrecede s t → Joins (header_of s) (header_of t)
joins_next s t first second p =
    let height : height_in s.version ≡ height_in t.version = same_height s.version t.version first second in
    record {
      generals = p.generals;
      roots = λ i. map (λ g. ring_root (seed_of (p.seed i) g) (height i)) (range_with_len 0 (p.generals i));
      slot = omega (arith, p.slot);
      other = λ same. let slots : slot_in s.version ≡ slot_in t.version = ap (λ (h : RunHeader). slot_in h.version) same in omega (arith, p.slot, slots);
    }

-- ---- the bundles of their runs

-- each bundle is of one of the runs
of_run : (runs : List Scenario) (bundles : List Bundle) → AllZip IsOfRun runs bundles → (b : Bundle) → Contains bundles b → (s : Scenario) × Contains runs s × IsOfRun s b
of_run [] [] are b at = absurd (Contains_nil b at)
of_run [] (c ∷ bundles) are b at = absurd are
of_run (s ∷ runs) [] are b at = absurd are
of_run (s ∷ runs) (c ∷ bundles) are b at = elim (Contains_cases c b bundles at) [
  | inl same ↦ (s, Contains_here s runs, subst (IsOfRun s) same are.0)
  | inr later ↦ let r = of_run runs bundles are.1 b later in (r.0, Contains_there s r.0 runs r.1, r.2)
]

header_is : (s : Scenario) (b : Bundle) → IsOfRun s b → b.header ≡ header_of s
header_is s b is = ap (λ (k : Bundle). k.header) is.2

joined : (runs : List Scenario) (bundles : List Bundle) → All HasSlot runs → AllPairs MayPrecede runs → AllZip IsOfRun runs bundles → AllPairs JoinsRun bundles
joined [] [] slots ordered are = λ i j d less more. absurd (omega (arith, more))
joined [] (c ∷ bundles) slots ordered are = absurd are
joined (s ∷ runs) [] slots ordered are = absurd are
joined (s ∷ runs) (b ∷ bundles) slots ordered are =
    let first : HasSlot s = All-contains HasSlot (s ∷ runs) s slots (Contains_here s runs) in
    let others : All HasSlot runs = All_of HasSlot runs (λ t at. All-contains HasSlot (s ∷ runs) t slots (Contains_there s t runs at)) in
    let behind : All (MayPrecede s) runs = AllPairs_head MayPrecede s runs ordered in
    AllPairs-cons JoinsRun b bundles (All_of (JoinsRun b) bundles (λ c at.
    let r = of_run runs bundles are.1 c at in
    let joins : Joins (header_of s) (header_of r.0) = joins_next s r.0 first (All-contains HasSlot runs r.0 others r.1) (All-contains (MayPrecede s) runs r.0 behind r.1) in
    subst (λ (h : RunHeader). Joins h c.header) (sym (header_is s b are.0)) (subst (Joins (header_of s)) (sym (header_is r.0 c r.2)) joins))) (joined runs bundles others (AllPairs_tail MayPrecede s runs ordered) are.1)

is_run : (s : Scenario) (b : Bundle) → IsScenario s → HasSlot s → IsOfRun s b → ((x : LogBytes) → Contains b.exhibits x → AreBelow 256 x.bytes) → IsRunBundle b
is_run s b ok slot is below = record {
  bundle = subst IsBundle (sym is.2) (world_is_bundle s is.0 ok is.1 (subst (λ (k : Bundle). (x : LogBytes) → Contains k.exhibits x → AreBelow 256 x.bytes) is.2 below));
  second = subst (λ (k : Bundle). IsSecond k.header.version) (sym is.2) slot;
}

-- what is shown in a bundle of a campaign is of bytes, where its spelling is
below_in : (bundles : List Bundle) (text : List ℕ) → text ≡ campaign_spelling (together bundles) → AreBelow 256 text → (b : Bundle) → Contains bundles b → (x : LogBytes) → Contains b.exhibits x → AreBelow 256 x.bytes
below_in bundles text is below b at x shown = All_of (λ v. v < 256) x.bytes (λ v h.
    let all : Contains (flat_map bundle_spelling bundles) v = in_flat bundle_spelling bundles b v at (shown_bytes b x v shown h) in
    All-contains (λ v. v < 256) text v below (subst (λ (t : List ℕ). Contains t v) (sym is) (Contains-append_right (campaign_front (together bundles)) (flat_map bundle_spelling bundles) v all)))

-- ---- the laws

spelled_together : (input text : List ℕ) (said : Bool) (run : IsCampaignRun input text said) → AreBelow 256 text → Spells IsCampaign campaign_spelling text (together run.makes.0)
spelled_together input text said run below =
    let bundles = run.makes.0 in
    let are = run.makes.1 in
    let one = run.spelled.lawful in
    let long = AllZip-long IsOfRun run.runs bundles are in
    let runs : AreRuns bundles = record {
      some = omega (arith, one.some, long);
      few = omega (arith, one.few, long);
      each = All_of IsRunBundle bundles (λ b at.
          let r = of_run run.runs bundles are b at in
          is_run r.0 b (lawful run.spelled.behind run.runs run.spelled.texts_are r.0 r.1) (All-contains HasSlot run.runs r.0 one.slots r.1) r.2 (below_in bundles text run.makes.2 below b at));
      joined = joined run.runs bundles one.slots one.ordered are;
    } in
    record { fits = runs; spelled = run.makes.2 }

pub campaigns_are_read : CampaignsAreRead
campaigns_are_read input text said run below = campaign_only text (together run.makes.0) (spelled_together input text said run below)

-- what is read of the output of a campaign are the bundles of the runs
shown_together : (input text : List ℕ) (said : Bool) (run : IsCampaignRun input text said) → AreBelow 256 text → (shown : CampaignBundle) → Spells IsCampaign campaign_spelling text shown → shown ≡ together run.makes.0
shown_together input text said run below shown spelled =
    ok_is {F = CampaignFault} shown (together run.makes.0) (sym (campaign_only text shown spelled) ∙ campaigns_are_read input text said run below)

-- each bundle of a sound campaign supports a yes
all_supported : (input text : List ℕ) (said : Bool) (run : IsCampaignRun input text said) → All IsSound run.runs → All IsSupported run.makes.0
all_supported input text said run sound = All_of IsSupported run.makes.0 (λ b at.
    let r = of_run run.runs run.makes.0 run.makes.1 b at in
    let ok = lawful run.spelled.behind run.runs run.spelled.texts_are r.0 r.1 in
    let fine = is_acceptable r.0 r.2.0 ok r.2.1 (All-contains IsSound run.runs r.0 sound r.1) in
    subst IsSupported (sym r.2.2) (world_is_supported r.0 r.2.0 fine))

few_held : (strict : Bool) (runs : List Scenario) (bundles : List Bundle) → AllZip IsOfRun runs bundles → All (IsSoundIf strict) runs → strict ≡ true → have_few bundles ≡ true
few_held strict [] [] are sound e = refl
few_held strict [] (b ∷ bundles) are sound e = absurd are
few_held strict (s ∷ runs) [] are sound e = absurd are
few_held strict (s ∷ runs) (b ∷ bundles) are sound e =
    let of_bundle : has_few b.header.network b.faulty ≡ has_few s.net (scripted s.scripts) = ap (λ (k : Bundle). has_few k.header.network k.faulty) are.0.2 in
    let first = of_bundle ∙ few_scripted s (All-head (IsSoundIf strict) s runs sound e) in
    rw first (few_held strict runs bundles are.1 (All-tail (IsSoundIf strict) s runs sound) e)

roots_apart : (strict : Bool) (runs : List Scenario) (bundles : List Bundle) → AllZip IsOfRun runs bundles → All (IsSoundIf strict) runs → strict ≡ true → shared_roots bundles ≡ []
roots_apart strict [] [] are sound e = refl
roots_apart strict [] (b ∷ bundles) are sound e = absurd are
roots_apart strict (s ∷ runs) [] are sound e = absurd are
roots_apart strict (s ∷ runs) (b ∷ bundles) are sound e =
    ap (λ (k : Bundle). equal_roots k.header) are.0.2 ∙ (All-head (IsSoundIf strict) s runs sound e).apart

pub campaigns_are_accepted_by : CampaignsAreAcceptedBy
campaigns_are_accepted_by input text report said negative asked origin strict run below sound strictly listed audited =
    let bundles = run.makes.0 in
    let are = run.makes.1 in
    let same = shown_together input text said run below audited.shown audited.spelled in
    let by : AuditsAs origin strict (together bundles) report negative = held_shown asked origin strict text report negative (together bundles) listed audited same in
    let not_said = by.is_said.supported.1 (all_supported input text said run sound) in
    by.negative_is ∙ counts_not strict by.no (have_few bundles) (shared_roots bundles) not_said
    (few_held strict run.runs bundles are strictly) (roots_apart strict run.runs bundles are strictly)

-- the same where nothing is asked
pub campaigns_are_accepted : CampaignsAreAccepted
campaigns_are_accepted input text report said negative run below sound audited =
    let not_strict = All_of (IsSoundIf false) run.runs (λ s at. not_strictly s) in
    campaigns_are_accepted_by input text report said negative nothing_asked None false run below sound not_strict refl audited
