-- The runs that an admission asks an input to be of.
use Rattle.std.specs.Prelude.{ℕ, Bool, if◌then◌else◌, List, [], ◌∷◌, replicate, Option, Some, None, unwrap_or}
use Rattle.std.specs.Bool.{nat_eq}
use Rattle.std.specs.Cmp.Lexicographic.{pointwise}
use Rattle.std.specs.List.{list_all, list_any}
use Rattle.gen_asked.specs.AskedRuns.{few_runs}
use Rattle.gen_asked.specs.declared.asked_runs.AskedRuns.{AskedRuns}
use Rattle.gen_asked.specs.declared.asked_runs.AskedRuns.TheVariants.{One}
use Rattle.gen_enrolling.specs.declared.admitted.AdmittedRun.{AdmittedRun}

-- whether an id is one of these
abbrev pub is_among : List (List ℕ) → List ℕ → Bool
is_among ids id = list_any (λ other. pointwise nat_eq other id) ids

-- whether an id is that of one of these runs
abbrev pub is_admitted : List AdmittedRun → List ℕ → Bool
is_admitted runs id = list_any (λ r. pointwise nat_eq r.id id) runs

-- whether each id is that of one of these runs
abbrev pub are_admitted : List AdmittedRun → List (List ℕ) → Bool
are_admitted runs ids = list_all (λ id. is_admitted runs id) ids

-- the runs with these ids, if there are one to four, and each is one of these runs
unfoldable pub few_found : List AdmittedRun → List (List ℕ) → Option AskedRuns
few_found runs ids = if are_admitted runs ids then few_runs ids else None

-- the id of the first run; zeros if there is none
abbrev pub first_id : List AdmittedRun → List ℕ
first_id [] = replicate 32 0
first_id (run ∷ runs) = run.id

-- the first run that is admitted, alone
abbrev pub first_asked : List AdmittedRun → AskedRuns
first_asked runs = One (first_id runs ∷ [])

-- The runs of which an input must be that is of runs with these ids, or that does not read. They are its
-- runs, if each is admitted, and else the first that is admitted.
abbrev pub asked_by : List AdmittedRun → Option (List (List ℕ)) → AskedRuns
asked_by runs None = first_asked runs
asked_by runs (Some ids) = unwrap_or (few_found runs ids) (first_asked runs)
