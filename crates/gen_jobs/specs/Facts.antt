-- What is found by a job, as facts: rows of numbers.
use Rattle.std.specs.Prelude.{◌≡◌, ℕ, List, []}
use Rattle.gen_facts.specs.declared.fact.Fact.{Fact}
use Rattle.gen_asked.specs.declared.jobs.Job.{Job}
use Rattle.gen_asked.specs.declared.jobs.Job.TheVariants as jobs
use Rattle.gen_judging.specs.AuditFacts.{HeldFacts}
use Rattle.gen_receipting.specs.Telling.{ReceiptsFacts}
use Rattle.gen_telling.specs.Decide.{DecidedFacts}

-- The facts are what the job finds in the input. A job that neither judges nor decides, nor tells of
-- receipts, finds none. The form of the answer, its name and what counts as a no change nothing here.
abbrev pub JobFacts : Job → List ℕ → List Fact → Type 0
JobFacts (jobs.Decide form) input facts = DecidedFacts input facts
JobFacts (jobs.Audit w asked strict form) input facts = HeldFacts asked input facts
JobFacts (jobs.Receipts asked form) input facts = ReceiptsFacts asked input facts
JobFacts _ input facts = facts ≡ []
