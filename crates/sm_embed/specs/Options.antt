-- What a caller in another language asks for.
use Rattle.std.specs.Prelude.{ℕ, ◌==◌, not, if◌then◌else◌, Bool, List, [], ◌∷◌, length, Option, Some, None, option_map, option_and_then}
use Rattle.gen_asked.specs.AskedRuns.{few_runs}
use Rattle.gen_asked.specs.declared.asked_runs.AskedRuns.{AskedRuns}
use Rattle.gen_asked.specs.declared.asked_runs.AskedRuns.TheVariants.{Any}
use Rattle.gen_asked.specs.declared.faulty.Faulty.TheVariants.{Listed}
use Rattle.gen_asked.specs.declared.forms.Form.{Form}
use Rattle.gen_asked.specs.declared.forms.Form.TheVariants.{Text, Json}
use Rattle.gen_asked.specs.declared.jobs.Job.{Job}
use Rattle.gen_asked.specs.declared.jobs.Job.TheVariants as jobs
use Rattle.sm_embed.specs.declared.options.SmOptions.{SmOptions}
use Rattle.sm_embed.specs.declared.options.Wanted.{Wanted}
use Rattle.sm_embed.specs.declared.options.Task.{Task}
use Rattle.sm_embed.specs.declared.options.Task.TheVariants.{Audit, Draw, Evidence, Receipts, Decide, Show}
use Rattle.sm_embed.specs.declared.options.GeneralTask.{GeneralTask}
use Rattle.sm_embed.specs.declared.options.GeneralTask.TheVariants.{Accuse, Receipt}

-- the runs with these ids: any for none, and None for more than four
abbrev pub asked_in : List (List ℕ) → Option AskedRuns
asked_in [] = Some Any
asked_in (id ∷ ids) = few_runs (id ∷ ids)

-- the form with this number: text for 0, JSON for 1, and None for any other
abbrev pub form_in : ℕ → Option Form
form_in number = if number == 0 then Some Text else if number == 1 then Some Json else None

-- whether a number says yes: any but 0
abbrev pub says_yes : ℕ → Bool
says_yes number = not (number == 0)

-- the id of a system that bytes are: none for no bytes, and None for other than 32 bytes
abbrev pub system_in : List ℕ → Option (Option (List ℕ))
system_in bytes =
    if length bytes == 0 then Some None else if length bytes == 32 then Some (Some bytes) else None

-- The system that an admission must be of, if there is one, and one is asked for. None if ids of runs stand
-- beside an admission, if a system stands there without one, and if it is no id.
abbrev pub sought_in : SmOptions → Option (Option (List ℕ))
sought_in options =
    if length options.admission.now == 0
    then (if length options.system.now == 0 then Some None else None)
    else (if length options.runs.now == 0 then system_in options.system.now else None)

-- what options ask for, if their runs are at most four, their form is one, and an admission and a system may
-- stand there
abbrev pub wanted_in : SmOptions → Option Wanted
wanted_in options =
    option_and_then
    (λ runs. option_and_then
    (λ form. option_map
    (λ system. record {
      runs = runs;
      strict = says_yes options.strict;
      form = form;
      receipts = says_yes options.receipts;
      system = system;
    })
    (sought_in options))
    (form_in options.form))
    (asked_in options.runs.now)

-- the job of a task, by one worker where it takes any, of the generals that the input lists
abbrev pub job_of : Task → Wanted → Job
job_of Audit w = jobs.Audit 1 (record { runs = w.runs; faulty = Listed }) w.strict w.form
job_of Draw w = jobs.Draw 1 (record { runs = w.runs; faulty = Listed })
job_of Evidence w = jobs.Evidence w.runs w.form
job_of Receipts w = jobs.Receipts w.runs w.form
job_of Decide w = jobs.Decide w.form
job_of Show w = jobs.Show w.runs w.form

-- the job of a task about a general: it is accused by receipts or by a bundle, or its receipt is written
abbrev pub job_about : GeneralTask → ℕ → Wanted → Job
job_about Accuse general w =
    if w.receipts then jobs.AccuseReceipts general w.runs else jobs.Accuse general w.runs
job_about Receipt general w = jobs.Receipt general w.runs
