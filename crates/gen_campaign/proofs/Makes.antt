-- Scenarios that the text of a campaign says make a campaign.
use Rattle.std.proofs.Common.{◌≡◌, ℕ, ◌+◌, ◌≤◌, Bool, true, false, ◌&&◌, eqb, eq-eqb, ltb, List, [], ◌∷◌, length, All, AllPairs, Ok, refl, sym, ap, arith, inl, inr}
use Rattle.std.specs.Bool.{nat_eq}
use Rattle.std.specs.Cmp.Lexicographic.{pointwise}
use Rattle.std.proofs.lemmas.Bool.{le-ltb}
use Rattle.std.proofs.lemmas.List.Elements.{All-head, All-contains, All-weaker}
use Rattle.std.proofs.lemmas.List.Sums.{list_all-from_AllPass}
use Rattle.std.proofs.lemmas.Slice.Eq.{bytes_eq-Decides}
use Rattle.gen_types.proofs.Lists.{All_of, Contains_cases, AllPairs_head, AllPairs_tail}
use Rattle.gen_net.specs.declared.version.Version.{Version}
use Rattle.gen_net.specs.declared.version.Version.TheVariants.{One, Two}
use Rattle.gen_net.specs.Version.{slot_in}
use Rattle.gen_scenario.specs.Scenario.{Scenario}
use Rattle.gen_convict.specs.SharedLeaves.{is_two}
use Rattle.gen_campaign.specs.Campaign.{IsSecond, is_run_count}
use Rattle.gen_campaign.specs.Series.{is_like, are_alike, ascend_from, campaign_of}
use Rattle.gen_campaign.specs.CampaignText.{MayPrecede, HasSlot, AreOneCampaign}
use Rattle.gen_campaign.proofs.RunCounts.{count_fits}

two_by : (v : Version) → IsSecond v → is_two v ≡ true
two_by One is = absurd is
two_by (Two u) is = refl

and_so : (a b : Bool) → a ≡ true → b ≡ true → (a && b) ≡ true
and_so true b e f = f
and_so false b e f = absurd cc

like : (first s : Scenario) → HasSlot s → s.net.generals ≡ first.net.generals → s.master ≡ first.master → is_like first s ≡ true
like first s slot generals seed =
    and_so (is_two s.version) (eqb s.net.generals first.net.generals && pointwise nat_eq s.master first.master) (two_by s.version slot)
    (and_so (eqb s.net.generals first.net.generals) (pointwise nat_eq s.master first.master) (eq-eqb s.net.generals first.net.generals generals) ((bytes_eq-Decides s.master first.master).1 seed))

alike : (runs : List Scenario) → All HasSlot runs → AllPairs MayPrecede runs → are_alike runs ≡ true
alike [] slots ordered = refl
alike (first ∷ others) slots ordered =
    let behind : All (MayPrecede first) others = AllPairs_head MayPrecede first others ordered in
    list_all-from_AllPass (is_like first) (first ∷ others) (All_of (λ (s : Scenario). is_like first s ≡ true) (first ∷ others) (λ s at.
    let slot : HasSlot s = All-contains HasSlot (first ∷ others) s slots at in
    elim (Contains_cases first s others at) [
      | inl same ↦ like first s slot (ap (λ (t : Scenario). t.net.generals) (sym same)) (ap (λ (t : Scenario). t.master) (sym same))
      | inr later ↦ (let p : MayPrecede first s = All-contains (MayPrecede first) others s behind later in like first s slot (sym p.generals) (sym p.seed))
    ]))

abbrev IsFrom : ℕ → Scenario → Type 0
IsFrom least s = least ≤ slot_in s.version

ascending : (least : ℕ) (runs : List Scenario) → All (IsFrom least) runs → AllPairs MayPrecede runs → ascend_from least runs ≡ true
unfolding ascend_from
ascending least [] from ordered = refl
ascending least (s ∷ others) from ordered =
    let high : ltb (slot_in s.version) least ≡ false = le-ltb (slot_in s.version) least (All-head (IsFrom least) s others from) in
    let later : All (IsFrom (slot_in s.version + 1)) others =
    All-weaker (MayPrecede s) (IsFrom (slot_in s.version + 1)) (λ t p. omega (arith, p.slot)) others (AllPairs_head MayPrecede s others ordered) in
    let rest = ascending (slot_in s.version + 1) others later (AllPairs_tail MayPrecede s others ordered) in
    rw (high, rest) refl

pub makes : (runs : List Scenario) → AreOneCampaign runs → campaign_of runs ≡ Ok runs
makes runs are =
    let count : is_run_count (length runs) ≡ true = count_fits (length runs) are.some are.few in
    let same : are_alike runs ≡ true = alike runs are.slots are.ordered in
    let apart : ascend_from 0 runs ≡ true = ascending 0 runs (All_of (IsFrom 0) runs (λ s at. omega arith)) are.ordered in
    rw (count, same, apart) refl
