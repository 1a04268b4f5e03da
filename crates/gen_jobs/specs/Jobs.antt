-- The jobs, and what each makes of its input.
use Rattle.std.specs.Prelude.{ℕ, Bool, List, Option}
use Rattle.gen_judging.specs.Asking.{IsAccusedOf, IsAuditedBy, IsCheckedIn, IsDrawnBy, IsEvidenceFaultOf, IsHeldFault, IsShowFault}
use Rattle.gen_jobs.specs.Judging.{IsJudgedAs}
use Rattle.gen_judging.specs.Audit.{ByWorkers}
use Rattle.gen_making.specs.Campaigning.{IsCampaignFault, IsCampaignRun}
use Rattle.gen_receipting.specs.Accusing.{AccusesByReceipts}
use Rattle.gen_receipting.specs.Giving.{IsReceiptFault, IsReceiptIn}
use Rattle.gen_receipting.specs.Telling.{AreReceiptsFault, AreReceiptsTold}
use Rattle.gen_telling.specs.Decide.{IsDecidedIn, IsDecideFault}
use Rattle.gen_telling.specs.Planning.{IsPlan, IsPlanFault}
use Rattle.gen_making.specs.Preparing.{IsHeaderFault, IsHeaderOf, IsRoot, IsRootFault}
use Rattle.gen_making.specs.Run.{IsRunAnswer, IsRunFault}
use Rattle.gen_telling.specs.Showing.{IsShownFault, IsShownIn}
use Rattle.gen_telling.specs.Telling.{IsMemory, IsTold}
use Rattle.gen_ends.specs.declared.ends.JobFault.{JobFault}
use Rattle.gen_asked.specs.declared.jobs.Job.{Job}
use Rattle.gen_asked.specs.declared.jobs.Job.TheVariants as jobs

-- The text is an answer of the job to the input, which has this name if it has one, and says no if `negative`
-- is true. Verdicts in JSON alone tell the name.
abbrev pub JobAnswers : Job → Option (List ℕ) → List ℕ → List ℕ → Bool → Type 0
JobAnswers (jobs.Decide form) name input text negative = IsDecidedIn form input text negative
JobAnswers (jobs.Run n) name input text negative = IsRunAnswer input text negative
JobAnswers (jobs.Judge n w strict form) name input text negative =
    IsJudgedAs form strict name input text negative
JobAnswers (jobs.Campaign n) name input text negative = IsCampaignRun input text negative
JobAnswers (jobs.Audit w asked strict form) name input text negative =
    IsAuditedBy asked form strict name input text negative
JobAnswers (jobs.Draw w asked) name input text negative = IsDrawnBy asked input text negative
JobAnswers (jobs.Accuse g asked) name input text negative = IsAccusedOf asked g input text negative
JobAnswers (jobs.AccuseReceipts g asked) name input text negative =
    AccusesByReceipts asked g input text negative
JobAnswers (jobs.Evidence asked form) name input text negative = IsCheckedIn form asked input text negative
JobAnswers (jobs.Receipt g asked) name input text negative = IsReceiptIn asked g input text negative
JobAnswers (jobs.Receipts asked form) name input text negative =
    AreReceiptsTold form asked input text negative
JobAnswers (jobs.Show asked form) name input text negative = IsShownIn form asked input text negative
JobAnswers (jobs.Root height) name input text negative = IsRoot height input text negative
JobAnswers (jobs.Header version) name input text negative = IsHeaderOf version input text negative
JobAnswers (jobs.Plan version) name input text negative = IsPlan version input text negative
JobAnswers (jobs.Tell what) name input text negative = IsTold what input text negative

-- the fault is one that the job has at the input; accuse works with one worker
abbrev pub JobFails : Job → List ℕ → JobFault → Type 0
JobFails (jobs.Decide form) input fault = IsDecideFault input fault
JobFails (jobs.Run n) input fault = IsRunFault input fault
JobFails (jobs.Judge n w strict form) input fault = IsRunFault input fault
JobFails (jobs.Campaign n) input fault = IsCampaignFault input fault
JobFails (jobs.Audit w asked strict form) input fault = ByWorkers w (IsHeldFault asked input) fault
JobFails (jobs.Draw w asked) input fault = ByWorkers w (IsHeldFault asked input) fault
JobFails (jobs.Accuse g asked) input fault = ByWorkers 1 (IsShowFault asked input) fault
JobFails (jobs.AccuseReceipts g asked) input fault = AreReceiptsFault asked input fault
JobFails (jobs.Evidence asked form) input fault = IsEvidenceFaultOf asked input fault
JobFails (jobs.Receipt g asked) input fault = IsReceiptFault asked input fault
JobFails (jobs.Receipts asked form) input fault = AreReceiptsFault asked input fault
JobFails (jobs.Show asked form) input fault = IsShownFault asked input fault
JobFails (jobs.Root height) input fault = IsRootFault height input fault
JobFails (jobs.Header version) input fault = IsHeaderFault version input fault
JobFails (jobs.Plan version) input fault = IsPlanFault version input fault
JobFails (jobs.Tell what) input fault = IsMemory fault
