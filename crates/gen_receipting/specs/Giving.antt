-- What the job receipt makes of its input.
use Rattle.std.specs.Prelude.{ℕ, ◌≡◌, Bool, true, false, List, [], ◌∷◌, ◌++◌, All, Err}
use Rattle.gen_types.specs.Spelled.{Spells}
use Rattle.gen_net.specs.Header.{RunHeader, run_id_of}
use Rattle.gen_log.specs.Writing.{LogBytes}
use Rattle.gen_audit.specs.Bundle.{Bundle, IsBundle}
use Rattle.gen_audit.specs.BundleReading.{whole_bundle}
use Rattle.gen_audit.specs.BundleSpelling.{bundle_spelling}
use Rattle.gen_campaign.specs.declared.campaign_fault.CampaignFault.TheVariants.{Alone}
use Rattle.gen_receipt.specs.declared.receipts.Receipt.{Receipt}
use Rattle.gen_receipt.specs.Receipts.{IsReceiptOfBytes, ReceiptHolds}
use Rattle.gen_receipt.specs.ReceiptSpelling.{receipt_spelling}
use Rattle.gen_asked.specs.AskedRuns.{AreAsked}
use Rattle.gen_asked.specs.declared.asked_runs.AskedRuns.{AskedRuns}
use Rattle.gen_ends.specs.declared.ends.JobFault.{JobFault}
use Rattle.gen_ends.specs.declared.ends.JobFault.TheVariants as faults

-- The exhibit is the general's and reads as a log, and the receipt of this log holds.
pub record GivesReceipt (h : RunHeader) (g : ℕ) (x : LogBytes) (r : Receipt) : Type 0 where
  pub whose : x.general ≡ g
  pub of_bytes : IsReceiptOfBytes h g x.bytes r
  pub holds : ReceiptHolds h r

-- the exhibit gives no receipt of the general
abbrev pub GivesNone : RunHeader → ℕ → LogBytes → Type 0
GivesNone h g x = (r : Receipt) → GivesReceipt h g x r → ⊥

-- The text is the receipt of the first exhibit that gives one of the general. Otherwise no exhibit gives one,
-- the text is empty, and it says no.
abbrev pub GivesFirst : RunHeader → List LogBytes → ℕ → List ℕ → Bool → Type 0
GivesFirst h exhibits g text false =
    (before : List LogBytes) × (x : LogBytes) × (after : List LogBytes) × (r : Receipt)
    × (exhibits ≡ before ++ x ∷ after) × All (GivesNone h g) before × GivesReceipt h g x r
    × (text ≡ receipt_spelling h r)
GivesFirst h exhibits g text true = All (GivesNone h g) exhibits × (text ≡ [])

-- The input spells a bundle of the run that is asked for, and the text is the receipt of the general that its
-- exhibits give first, if they give one.
pub record IsReceiptIn (asked : AskedRuns) (general : ℕ) (input text : List ℕ) (negative : Bool)
    : Type 0 where
  pub bundle : Bundle
  pub spelled : Spells IsBundle bundle_spelling input bundle
  pub run : AreAsked asked (run_id_of bundle.header ∷ [])
  pub gives : GivesFirst bundle.header bundle.exhibits general text negative

-- The input spells a bundle, and not of the run that is asked for.
pub record IsOtherBundle (asked : AskedRuns) (input : List ℕ) : Type 0 where
  pub bundle : Bundle
  pub spelled : Spells IsBundle bundle_spelling input bundle
  pub other : AreAsked asked (run_id_of bundle.header ∷ []) → ⊥

-- the first fault of an input that spells no bundle; that it is of another run; or memory was refused
abbrev pub IsReceiptFault : AskedRuns → List ℕ → JobFault → Type 0
IsReceiptFault asked input faults.Memory = Unit {0}
IsReceiptFault asked input faults.OtherRun = IsOtherBundle asked input
IsReceiptFault asked input (faults.Campaign (Alone f)) = whole_bundle input ≡ Err f
IsReceiptFault asked input _ = ⊥
