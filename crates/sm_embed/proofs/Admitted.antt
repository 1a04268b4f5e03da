-- What is made of an answer of runs that an admission admits.
use native.Mathlib.Omega.{arith}
use Rattle.std.proofs.Common.{◌≡◌, ◌<◌, ◌≤◌, ℕ, Bool, true, false, List, Option, Some, None, Result, Ok, Err, ◌⊎◌, inl, inr, subst}
use Rattle.std.specs.Prelude.{IfOk, IfErr}
use Rattle.gen_asked.specs.declared.forms.Form.{Form}
use Rattle.gen_asked.specs.declared.jobs.Job.{Job}
use Rattle.gen_ends.specs.declared.ends.JobFault.{JobFault}
use Rattle.gen_ends.specs.declared.ends.JobFault.TheVariants as jobs
use Rattle.gen_facts.specs.declared.fact.Fact.{Fact}
use Rattle.gen_jobs.specs.declared.in_place.Answered.{Answered}
use Rattle.gen_jobs.specs.Facts.{JobFacts}
use Rattle.gen_jobs.specs.Jobs.{JobAnswers, JobFails}
use Rattle.gen_enrolling.specs.declared.admitted.AdmittedRuns.{AdmittedRuns}
use Rattle.gen_enrolling.specs.declared.among.JobAmong.{JobAmong}
use Rattle.gen_enrolling.specs.declared.enroll_fault.EnrollFault.{EnrollFault}
use Rattle.gen_enrolling.specs.declared.enroll_fault.EnrollFault.TheVariants as faults
use Rattle.gen_enrolling.specs.Admitted.{IsRunsFault}
use Rattle.gen_enrolling.specs.Among.{AreOwn, IsAskedAmong, IsTold, form_of, ids_of, job_among}
use Rattle.gen_types.specs.declared.reading.ReadError.{ReadError}
use Rattle.gen_types.specs.declared.reading.ReadError.TheVariants as errors
use Rattle.sm_embed.specs.Among.{AnswersTold, FactsTold, FailsTold, MakesAmong, MakesAmongAbout, told_facts}
use Rattle.sm_embed.specs.EnrollLines.{enroll_number}
use Rattle.sm_embed.specs.Knowing.{Knows}
use Rattle.sm_embed.specs.Loops.Keeping.{HasFault, Keeps, KeepsMade}
use Rattle.sm_embed.specs.Loops.Telling.{AnswersAsked, FactsAsked, TellsText, facts_behind}
use Rattle.sm_embed.proofs.Given.{about_fault, about_known, about_nobody, is_made_or}
use Rattle.sm_embed.specs.declared.kept.Kept.{Kept}

-- ---- the runs of an input

text_told : (form : Option Form) (all : AdmittedRuns) (ids : Option (List (List ℕ))) (runs : Option AdmittedRuns) (own text : List ℕ) → AreOwn all ids runs → TellsText form runs own text → IsTold form all ids own text
text_told form all None None own text are tells = tells
text_told form all None (Some runs) own text are tells = absurd cc
text_told form all (Some ids) None own text are tells = absurd are
text_told form all (Some ids) (Some runs) own text are tells = (runs, are, tells)

facts_told : (all : AdmittedRuns) (ids : Option (List (List ℕ))) (runs : Option AdmittedRuns) (own facts : List Fact) → AreOwn all ids runs → facts ≡ facts_behind runs own → facts ≡ told_facts all ids own
facts_told all None None own facts are is = is
facts_told all None (Some runs) own facts are is = absurd cc
facts_told all (Some ids) None own facts are is = absurd are
facts_told all (Some ids) (Some runs) own facts are is = rw (are.0, are.1) at is

-- ---- what is made of them

answer_told : (job : Job) (admission : List ℕ) (system : Option (List ℕ)) (input : List ℕ) (asked : JobAmong) (is : IsAskedAmong job admission system input asked) (text : List ℕ) (negative : Bool) → AnswersAsked asked input text negative → AnswersTold job is.all input text negative
answer_told job admission system input asked is text negative a =
    let own : List ℕ = a.0 in
    let answers : JobAnswers (job_among job is.all input) None input own negative = subst (λ (j : Job). JobAnswers j None input own negative) is.job_is a.1 in
    let tells : TellsText (form_of job) asked.runs own text = subst (λ (f : Option Form). TellsText f asked.runs own text) is.form_is a.2 in
    (own, answers, text_told (form_of job) is.all (ids_of job input) asked.runs own text is.own tells)

facts_asked : (job : Job) (admission : List ℕ) (system : Option (List ℕ)) (input : List ℕ) (asked : JobAmong) (is : IsAskedAmong job admission system input asked) (facts : List Fact) → FactsAsked asked input facts → FactsTold job is.all input facts
facts_asked job admission system input asked is facts a =
    let own : List Fact = a.0 in
    let found : JobFacts (job_among job is.all input) input own = subst (λ (j : Job). JobFacts j input own) is.job_is a.1 in
    (own, found, facts_told is.all (ids_of job input) asked.runs own facts is.own a.2)

by_asked : (job : Job) (admission : List ℕ) (system : Option (List ℕ)) (input : List ℕ) (asked : JobAmong) (is : IsAskedAmong job admission system input asked) (told : Result Answered JobFault)
    → IfOk told (λ a. AnswersAsked asked input a.output.text.items a.output.negative) → IfOk told (λ a. AnswersTold job is.all input a.output.text.items a.output.negative)
by_asked job admission system input asked is (Ok a) h = answer_told job admission system input asked is a.output.text.items a.output.negative h
by_asked job admission system input asked is (Err f) h = tt

facts_by_asked : (job : Job) (admission : List ℕ) (system : Option (List ℕ)) (input : List ℕ) (asked : JobAmong) (is : IsAskedAmong job admission system input asked) (told : Result Answered JobFault)
    → IfOk told (λ a. FactsAsked asked input a.facts.items) → IfOk told (λ a. FactsTold job is.all input a.facts.items)
facts_by_asked job admission system input asked is (Ok a) h = facts_asked job admission system input asked is a.facts.items h
facts_by_asked job admission system input asked is (Err f) h = tt

-- the answer of a job of runs that are admitted
pub among_told : (job : Job) (admission : List ℕ) (system : Option (List ℕ)) (input : List ℕ) (asked : JobAmong) (told : Result Answered JobFault) (held : Option Kept) (status : ℕ)
    → IsAskedAmong job admission system input asked
    → IfOk told (λ a. AnswersAsked asked input a.output.text.items a.output.negative)
    → IfOk told (λ a. FactsAsked asked input a.facts.items)
    → IfErr told (λ f. JobFails asked.job input f ⊎ (f ≡ jobs.Memory))
    → Keeps told held status → MakesAmong job admission system input held status
among_told job admission system input asked told held status is answer facts fault keeps =
    let fails : IfErr told (λ f. FailsTold job is.all input f ⊎ (f ≡ jobs.Memory)) = subst (λ (j : Job). IfErr told (λ f. JobFails j input f ⊎ (f ≡ jobs.Memory))) is.job_is fault in
    inr (inl (
      is.all,
      is.are,
      is_made_or (AnswersTold job is.all input) (FactsTold job is.all input) (FailsTold job is.all input) told held status (by_asked job admission system input asked is told answer)
          (facts_by_asked job admission system input asked is told facts) fails keeps,
    ))

-- the fault of an admission
pub among_fault : (job : Job) (admission : List ℕ) (system : Option (List ℕ)) (input : List ℕ) (made : Result Kept (ReadError EnrollFault)) (held : Option Kept) (status : ℕ)
    → IfOk made (λ kept. ⊥) → IfErr made (HasFault (IsRunsFault system admission)) → KeepsMade made held status → MakesAmong job admission system input held status
among_fault job admission system input (Ok kept) held status none fault keeps = absurd none
among_fault job admission system input (Err errors.Memory) held status none fault keeps = inr (inr keeps)
among_fault job admission system input (Err (errors.Fault f)) held status none fault (inl x) = inl (f, fault, x.0, x.1)
among_fault job admission system input (Err (errors.Fault f)) held status none fault (inr x) = inr (inr x)

-- ---- about a general

-- the number for the line of a fault is none of an answer
enroll_numbered : (f : EnrollFault) → 3 ≤ enroll_number f
enroll_numbered (faults.Secret f) = omega arith
enroll_numbered (faults.Roots f) = omega arith
enroll_numbered (faults.Text f) = omega arith
enroll_numbered (faults.System f) = omega arith
enroll_numbered (faults.Admission f) = omega arith
enroll_numbered faults.Fails = omega arith
enroll_numbered faults.OtherSet = omega arith
enroll_numbered faults.FileCount = omega arith
enroll_numbered (faults.OtherIdentity node) = omega arith
enroll_numbered faults.OtherSystem = omega arith

-- nothing is answered, so it does not matter whose the general is
pub among_of_fault : (job : Job) (general : ℕ) (admission : List ℕ) (system : Option (List ℕ)) (input : List ℕ) (held : Option Kept) (status : ℕ) → 1 < status → MakesAmong job admission system input held status → MakesAmongAbout job general admission system input held status
among_of_fault job general admission system input held status more (inl x) = inl x
among_of_fault job general admission system input held status more (inr (inl x)) =
    inr (inl (x.0, x.1, about_fault (AnswersTold job x.0 input) (FactsTold job x.0 input) (FailsTold job x.0 input) (Knows job general input) held status more x.2))
among_of_fault job general admission system input held status more (inr (inr x)) = inr (inr x)

-- the general is one of a run's
pub among_of_known : (job : Job) (general : ℕ) (admission : List ℕ) (system : Option (List ℕ)) (input : List ℕ) (held : Option Kept) (status : ℕ) → MakesAmong job admission system input held status → Knows job general input true → MakesAmongAbout job general admission system input held status
among_of_known job general admission system input held status (inl x) known = inl x
among_of_known job general admission system input held status (inr (inl x)) known =
    inr (inl (x.0, x.1, about_known (AnswersTold job x.0 input) (FactsTold job x.0 input) (FailsTold job x.0 input) (Knows job general input) held status x.2 known))
among_of_known job general admission system input held status (inr (inr x)) known = inr (inr x)

-- the general is no run's, so what was made is dropped
pub among_of_nobody : (job : Job) (general : ℕ) (admission : List ℕ) (system : Option (List ℕ)) (input : List ℕ) (made left : Option Kept) (status : ℕ) → status ≤ 1 → MakesAmong job admission system input made status → Knows job general input false → left ≡ None → MakesAmongAbout job general admission system input left 6
among_of_nobody job general admission system input made left status few (inl x) nobody empty = let is : enroll_number x.0 ≡ status = x.2 in let more = enroll_numbered x.0 in absurd (omega arith)
among_of_nobody job general admission system input made left status few (inr (inl x)) nobody empty =
    inr (inl (x.0, x.1, about_nobody (AnswersTold job x.0 input) (FactsTold job x.0 input) (FailsTold job x.0 input) (Knows job general input) made left status few x.2 nobody empty))
among_of_nobody job general admission system input made left status few (inr (inr x)) nobody empty = let is : status ≡ 4 = x.0 in absurd (omega arith)
