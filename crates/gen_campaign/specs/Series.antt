-- Campaigns: runs that are served by one tree of keys for each general, each in a slot of its own.
use Rattle.std.specs.Prelude.{ℕ, Bool, true, false, ◌&&◌, ◌==◌, ◌+◌, List, [], ◌∷◌, length, Result, Ok, if◌then◌else◌, nat_lt}
use Rattle.std.specs.Bool.{nat_eq}
use Rattle.std.specs.Cmp.Lexicographic.{pointwise}
use Rattle.std.specs.List.{list_all}
use Rattle.gen_types.specs.Reading.{◌>>=◌, check}
use Rattle.gen_net.specs.Version.{slot_in}
use Rattle.gen_convict.specs.SharedLeaves.{is_two}
use Rattle.gen_scenario.specs.Scenario.{Scenario}
use Rattle.gen_campaign.specs.Campaign.{is_run_count}
use Rattle.gen_campaign.specs.declared.series_fault.SeriesFault.{SeriesFault}
use Rattle.gen_campaign.specs.declared.series_fault.SeriesFault.TheVariants.{RunCount, Unlike, SlotOrder}

-- the scenario is of version 2, and has the same number of generals and the same master seed as the first
abbrev pub is_like : Scenario → Scenario → Bool
is_like first s =
    is_two s.version && (s.net.generals == first.net.generals && pointwise nat_eq s.master first.master)

-- each scenario is like the first
abbrev pub are_alike : List Scenario → Bool
are_alike [] = true
are_alike (first ∷ others) = list_all (is_like first) (first ∷ others)

-- the slots ascend strictly, and the first is at least this one
unfoldable pub ascend_from : ℕ → List Scenario → Bool
ascend_from least [] = true
ascend_from least (s ∷ others) =
    if nat_lt (slot_in s.version) least then false else ascend_from (slot_in s.version + 1) others

-- the campaign of these scenarios, or the first rule that they break
abbrev pub campaign_of : List Scenario → Result (List Scenario) SeriesFault
campaign_of runs = do
  few ← check (is_run_count (length runs)) RunCount
  alike ← check (are_alike runs) Unlike
  apart ← check (ascend_from 0 runs) SlotOrder
  Ok runs
