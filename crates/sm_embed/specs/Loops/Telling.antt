-- The admitted runs of an input in front of an answer.
use Rattle.std.specs.Prelude.{ℕ, ◌≡◌, ◌++◌, Bool, List, map, Option, Some, None}
use Rattle.gen_asked.specs.declared.forms.Form.{Form}
use Rattle.gen_enrolling.specs.declared.admitted.AdmittedRuns.{AdmittedRuns}
use Rattle.gen_enrolling.specs.declared.among.JobAmong.{JobAmong}
use Rattle.gen_enrolling.specs.Admitted.{told_run}
use Rattle.gen_enrolling.specs.Among.{told_text}
use Rattle.gen_facts.specs.declared.fact.Fact.{Fact}
use Rattle.gen_jobs.specs.Facts.{JobFacts}
use Rattle.gen_jobs.specs.Jobs.{JobAnswers}
use Rattle.sm_embed.specs.RunFacts.{facts_of}

-- the text is that of the answer, behind these runs if there are some
abbrev pub TellsText : Option Form → Option AdmittedRuns → List ℕ → List ℕ → Type 0
TellsText form None own text = text ≡ own
TellsText form (Some runs) own text = text ≡ told_text form runs own

-- the facts of an answer, behind those of these runs if there are some
abbrev pub facts_behind : Option AdmittedRuns → List Fact → List Fact
facts_behind None own = own
facts_behind (Some runs) own = facts_of runs.system (map told_run runs.runs.items) ++ own

-- the text is the answer that is asked, behind the runs
abbrev pub AnswersAsked : JobAmong → List ℕ → List ℕ → Bool → Type 0
AnswersAsked asked input text negative =
    (own : List ℕ) × JobAnswers asked.job None input own negative × TellsText asked.form asked.runs own text

-- the facts are those that are asked, behind those of the runs
abbrev pub FactsAsked : JobAmong → List ℕ → List Fact → Type 0
FactsAsked asked input facts =
    (own : List Fact) × JobFacts asked.job input own × (facts ≡ facts_behind asked.runs own)
