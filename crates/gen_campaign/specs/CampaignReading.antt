-- Reading what is shown of a campaign, from left to right, with the first fault that is met.
use Rattle.std.specs.Prelude.{ℕ, zero, suc, Bool, true, false, not, ◌&&◌, ◌==◌, List, [], ◌∷◌, ◌++◌, length, drop, Result, Ok, Err, nat_le, if◌then◌else◌}
use Rattle.std.specs.List.{list_all}
use Rattle.std.specs.Int.{w32}
use Rattle.gen_types.specs.Reading.{◌>>=◌, check, map_fault}
use Rattle.gen_types.specs.Bytes.{byte_at, number_at}
use Rattle.gen_net.specs.Header.{RunHeader, slot_of}
use Rattle.gen_net.specs.SameHeaders.{same_roots, same_header}
use Rattle.gen_audit.specs.declared.bundle_fault.BundleFault.{BundleFault}
use Rattle.gen_audit.specs.declared.bundle_fault.BundleFault.TheVariants as rules
use Rattle.gen_audit.specs.Bundle.{Bundle}
use Rattle.gen_audit.specs.BundleReading.{bundle_at}
use Rattle.gen_audit.specs.BundleSpelling.{bundle_marks}
use Rattle.gen_campaign.specs.declared.campaign_fault.CampaignFault.{CampaignFault}
use Rattle.gen_campaign.specs.declared.campaign_fault.CampaignFault.TheVariants as faults
use Rattle.gen_campaign.specs.Campaign.{CampaignBundle, is_run_count}
use Rattle.gen_campaign.specs.CampaignSpelling.{campaign_mark}

-- a bundle of version 2, and the bytes after it
unfoldable pub second_bundle_at : List ℕ → Result (Bundle × List ℕ) BundleFault
second_bundle_at bytes = do
  mark ← number_at rules.Truncated w32 bytes
  two ← check (mark.0 == bundle_marks.two) rules.UnknownMark
  bundle_at bytes

-- a bundle of version 2 as that of run place, and the bytes after it; its faults are those of this run
abbrev pub counted_at : ℕ → List ℕ → Result (Bundle × List ℕ) CampaignFault
counted_at place bytes = map_fault (faults.BadRun place) (second_bundle_at bytes)

-- two runs have the same number of generals, and the same roots
abbrev pub has_keys_of : RunHeader → RunHeader → Bool
has_keys_of before h =
    before.network.generals == h.network.generals && same_roots before.roots h.roots

-- a run with the header h may stand behind a run with the header before
abbrev pub joins : RunHeader → RunHeader → Bool
joins before h =
    has_keys_of before h && (nat_le (slot_of before) (slot_of h) && not (same_header before h))

-- a run with the header h may stand behind each of these runs
abbrev pub may_join : List Bundle → RunHeader → Bool
may_join before h = list_all (λ b. joins b.header h) before

-- a run behind those before it, and the bytes after it
unfoldable pub run_at : List Bundle → List ℕ → Result (Bundle × List ℕ) CampaignFault
run_at before bytes = do
  run ← counted_at (length before) bytes
  joined ← check (may_join before run.0.header) faults.Unjoined
  Ok run

-- n runs behind those before them, and the bytes after the last
unfoldable pub runs_at : List Bundle → ℕ → List ℕ → Result (List Bundle × List ℕ) CampaignFault
runs_at before zero bytes = Ok ([], bytes)
runs_at before (suc n) bytes = do
  run ← run_at before bytes
  others ← runs_at (before ++ run.0 ∷ []) n run.1
  Ok (run.0 ∷ others.0, others.1)

-- the number of runs, and then the runs; and the bytes after them
unfoldable pub several_at : List ℕ → Result (CampaignBundle × List ℕ) CampaignFault
several_at bytes = do
  count ← byte_at faults.NoCount bytes
  known ← check (is_run_count count.0) faults.RunCount
  runs ← runs_at [] count.0 count.1
  Ok (record { alone = false; bundles = runs.0 }, runs.1)

-- a bundle that stands alone, and the bytes after it
abbrev pub sole_at : List ℕ → Result (Bundle × List ℕ) CampaignFault
sole_at bytes = map_fault faults.Alone (bundle_at bytes)

unfoldable pub alone_at : List ℕ → Result (CampaignBundle × List ℕ) CampaignFault
alone_at bytes = do
  b ← sole_at bytes
  Ok (record { alone = true; bundles = b.0 ∷ [] }, b.1)

-- the first four bytes are the mark of several runs, `SMC2`
abbrev pub says_several : {F : Type 0} → Result (ℕ × List ℕ) F → Bool
says_several (Ok mark) = mark.0 == campaign_mark
says_several (Err fault) = false

abbrev pub is_marked : List ℕ → Bool
is_marked bytes = says_several (number_at faults.NoCount w32 bytes)

-- what is shown of a campaign in either form, and the bytes after it
unfoldable pub campaign_at : List ℕ → Result (CampaignBundle × List ℕ) CampaignFault
campaign_at bytes = if is_marked bytes then several_at (drop 4 bytes) else alone_at bytes

-- the fault of bytes that are left over
abbrev pub left_over : CampaignBundle → CampaignFault
left_over c = if c.alone then faults.Alone rules.LeftOver else faults.LeftOver

-- what the bytes show of a campaign, of which none may be left over
unfoldable pub whole_campaign : List ℕ → Result CampaignBundle CampaignFault
whole_campaign bytes = do
  c ← campaign_at bytes
  all ← check (length c.1 == 0) (left_over c.0)
  Ok c.0
