-- Where the answer of a job comes from.
use Rattle.std.specs.Prelude.{ℕ, List, Option, Some, None}
use Rattle.gen_json.specs.OriginData.{Origin, origin_of}
use Rattle.gen_asked.specs.declared.asked.Asked.{Asked}
use Rattle.gen_asked.specs.declared.asked_runs.AskedRuns.{AskedRuns}
use Rattle.gen_asked.specs.declared.asked_runs.AskedRuns.TheVariants.{Any, One, Two, Three, Four}
use Rattle.gen_asked.specs.declared.faulty.Faulty.{Faulty}
use Rattle.gen_asked.specs.declared.faulty.Faulty.TheVariants.{Listed, These}
use Rattle.gen_asked.specs.declared.forms.Form.{Form}
use Rattle.gen_asked.specs.declared.forms.Form.TheVariants.{Text, Json}

-- the ids of the runs that are asked for, if any are
abbrev pub ids_asked : AskedRuns → Option (List (List ℕ))
ids_asked Any = None
ids_asked (One ids) = Some ids
ids_asked (Two ids) = Some ids
ids_asked (Three ids) = Some ids
ids_asked (Four ids) = Some ids

-- the generals that are asked for as faulty, if any list is
abbrev pub list_asked : Faulty → Option (List ℕ)
list_asked Listed = None
list_asked (These faulty) = Some faulty

-- nothing is asked
abbrev pub nothing_asked : Asked
nothing_asked = record { runs = Any; faulty = Listed }

-- Where the answer in a form comes from, of an input with this name and of what is asked. An answer as text
-- doesn't tell it.
abbrev pub origin_in : Form → Option (List ℕ) → Asked → List ℕ → Option Origin
origin_in Text name asked input = None
origin_in Json name asked input = Some (origin_of name input (list_asked asked.faulty) (ids_asked asked.runs))
