-- What is made of an answer of runs that an admission admits.
use Rattle.std.specs.Prelude.{ℕ, ◌≡◌, ◌<◌, ◌++◌, ◌⊎◌, Bool, List, length, map, Option, Some, None}
use Rattle.gen_asked.specs.declared.jobs.Job.{Job}
use Rattle.gen_enrolling.specs.declared.admitted.AdmittedRuns.{AdmittedRuns}
use Rattle.gen_enrolling.specs.Admitted.{AreAdmitted, IsRunsFault, told_run}
use Rattle.gen_enrolling.specs.Among.{IsTold, form_of, ids_of, job_among, only}
use Rattle.gen_ends.specs.declared.ends.JobFault.{JobFault}
use Rattle.gen_facts.specs.declared.fact.Fact.{Fact}
use Rattle.gen_jobs.specs.Facts.{JobFacts}
use Rattle.gen_jobs.specs.Jobs.{JobAnswers, JobFails}
use Rattle.sm_embed.specs.Knowing.{IsMadeAbout, Knows, MakesKnown}
use Rattle.sm_embed.specs.Making.{IsMade, IsMisuse, MakesJob}
use Rattle.sm_embed.specs.RunFacts.{facts_of}
use Rattle.sm_embed.specs.Systems.{HoldsEnrollFault}
use Rattle.sm_embed.specs.declared.kept.Kept.{Kept}
use Rattle.sm_embed.specs.declared.options.Wanted.{Wanted}

-- ---- what is told

-- the facts of the runs in front of those of the answer
abbrev pub told_facts : AdmittedRuns → Option (List (List ℕ)) → List Fact → List Fact
told_facts all None own = own
told_facts all (Some ids) own = facts_of all.system (map told_run (only all ids)) ++ own

-- the text is the job's answer of runs that are admitted, with those of the input in front of it
abbrev pub AnswersTold : Job → AdmittedRuns → List ℕ → List ℕ → Bool → Type 0
AnswersTold job all input text negative =
    (own : List ℕ) × JobAnswers (job_among job all input) None input own negative
    × IsTold (form_of job) all (ids_of job input) own text

-- the facts are the job's of runs that are admitted, with those of the input in front of them
abbrev pub FactsTold : Job → AdmittedRuns → List ℕ → List Fact → Type 0
FactsTold job all input facts =
    (own : List Fact) × JobFacts (job_among job all input) input own
    × (facts ≡ told_facts all (ids_of job input) own)

-- the fault is one of the job of runs that are admitted
abbrev pub FailsTold : Job → AdmittedRuns → List ℕ → JobFault → Type 0
FailsTold job all input fault = JobFails (job_among job all input) input fault

-- what is made of this job's answer, of runs that are admitted
abbrev pub MakesTold : Job → List ℕ → AdmittedRuns → Option Kept → ℕ → Type 0
MakesTold job input all held status =
    IsMade (AnswersTold job all input) (FactsTold job all input) (FailsTold job all input) held status

-- what is made of this job's answer about a general, of runs that are admitted
abbrev pub MakesToldAbout : Job → ℕ → List ℕ → AdmittedRuns → Option Kept → ℕ → Type 0
MakesToldAbout job general input all held status =
    IsMadeAbout (Knows job general input) (AnswersTold job all input) (FactsTold job all input)
    (FailsTold job all input) held status

-- The admission has a fault, whose line is held. Or it admits runs, and this is made of them. Or memory was
-- refused, and nothing is held.
abbrev pub MakesOfRuns : (AdmittedRuns → Option Kept → ℕ → Type 0) → List ℕ → Option (List ℕ)
    → Option Kept → ℕ → Type 0
MakesOfRuns Makes admission system held status =
    HoldsEnrollFault (IsRunsFault system admission) held status
    ⊎ (((all : AdmittedRuns) × AreAdmitted system admission all × Makes all held status)
    ⊎ ((status ≡ 4) × (held ≡ None)))

-- what is made of this job's answer, of runs that an admission admits
abbrev pub MakesAmong : Job → List ℕ → Option (List ℕ) → List ℕ → Option Kept → ℕ → Type 0
MakesAmong job admission system input held status =
    MakesOfRuns (MakesTold job input) admission system held status

-- what is made of this job's answer about a general, of runs that an admission admits
abbrev pub MakesAmongAbout : Job → ℕ → List ℕ → Option (List ℕ) → List ℕ → Option Kept → ℕ → Type 0
MakesAmongAbout job general admission system input held status =
    MakesOfRuns (MakesToldAbout job general input) admission system held status

-- ---- what options ask for

-- what is made of this job's answer, of runs that an admission admits if there is one
abbrev pub MakesAsked : Job → List ℕ → Option (List ℕ) → List ℕ → Option Kept → ℕ → Type 0
MakesAsked job admission system input held status =
    (length admission ≡ 0) × MakesJob job input held status
    ⊎ (0 < length admission) × MakesAmong job admission system input held status

-- Options are given, perhaps with an admission. If they are none, that is misuse; else what is made is what
-- this job for them answers.
abbrev pub MakesBy : (Wanted → Job) → List ℕ → List ℕ → Option Wanted → Option Kept → ℕ → Type 0
MakesBy job input admission None held status = IsMisuse held status
MakesBy job input admission (Some wanted) held status =
    MakesAsked (job wanted) admission wanted.system input held status

-- what is made of this job's answer about a general, of runs that an admission admits if there is one
abbrev pub MakesKnownAsked : Job → ℕ → List ℕ → Option (List ℕ) → List ℕ → Option Kept → ℕ → Type 0
MakesKnownAsked job general admission system input held status =
    (length admission ≡ 0) × MakesKnown job general input held status
    ⊎ (0 < length admission) × MakesAmongAbout job general admission system input held status

-- the same of what this job for them answers about a general
abbrev pub MakesAbout : (Wanted → Job) → ℕ → List ℕ → List ℕ → Option Wanted → Option Kept → ℕ → Type 0
MakesAbout job general input admission None held status = IsMisuse held status
MakesAbout job general input admission (Some wanted) held status =
    MakesKnownAsked (job wanted) general admission wanted.system input held status
