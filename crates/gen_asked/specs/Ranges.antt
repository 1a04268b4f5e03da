-- The ranges of the numbers that jobs have.
use Rattle.std.specs.Prelude.{◌≤◌, ◌<◌}
use Rattle.gen_net.specs.Version.{greatest_slot, slot_in}
use Rattle.gen_asked.specs.declared.jobs.Job.{Job}
use Rattle.gen_asked.specs.declared.jobs.Job.TheVariants as jobs

-- the numbers of a job are in their ranges
abbrev pub IsInRange : Job → Type 0
IsInRange (jobs.Run n) = (1 ≤ n) × (n ≤ 16)
IsInRange (jobs.Judge n w strict form) = (1 ≤ n) × (n ≤ 16) × (1 ≤ w) × (w ≤ 16)
IsInRange (jobs.Campaign n) = (1 ≤ n) × (n ≤ 16)
IsInRange (jobs.Audit w asked strict form) = (1 ≤ w) × (w ≤ 16)
IsInRange (jobs.Draw w asked) = (1 ≤ w) × (w ≤ 16)
IsInRange (jobs.Accuse g asked) = g < 16
IsInRange (jobs.AccuseReceipts g asked) = g < 16
IsInRange (jobs.Receipt g asked) = g < 16
IsInRange (jobs.Header version) = slot_in version ≤ greatest_slot
IsInRange (jobs.Plan version) = slot_in version ≤ greatest_slot
IsInRange _ = Unit {0}
