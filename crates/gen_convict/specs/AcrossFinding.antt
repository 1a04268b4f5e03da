-- How the first rivals are found: the texts of one general, run by run, as reports have them, and tests on
-- them.
use Rattle.std.specs.Prelude.{ℕ, Bool, ◌&&◌, ◌||◌, not, List, [], ◌∷◌, Option, Some, None, map}
use Rattle.std.specs.Bool.{nat_eq}
use Rattle.std.specs.List.{find, flat_map}
use Rattle.std.specs.Cmp.Lexicographic.{pointwise}
use Rattle.gen_net.specs.Header.{RunHeader, run_id_of}
use Rattle.gen_net.specs.SameHeaders.{same_header}
use Rattle.gen_local.specs.Report.{LocalReport}
use Rattle.gen_convict.specs.declared.run_texts.RunText.{RunText}
use Rattle.gen_convict.specs.Across.{of_run}
use Rattle.gen_convict.specs.Contradictions.{AcrossRuns}
use Rattle.gen_convict.specs.Evidence.{Accusation}
use Rattle.gen_convict.specs.Finding.{his_texts, is_like, is_unlike}
use Rattle.gen_convict.specs.SharedLeaves.{share_leaves}

-- two texts are rivals
unfoldable pub is_rival : RunText → RunText → Bool
is_rival x y =
    is_like x.text.text y.text.text
    && (share_leaves x.header y.header
    && (not (pointwise nat_eq (run_id_of x.header) (run_id_of y.header))
    || is_unlike x.text.text y.text.text))

-- two texts stand under one leaf, in two runs that use the same leaves; they may be equal or differ
unfoldable pub meets : RunText → RunText → Bool
meets x y = is_like x.text.text y.text.text && share_leaves x.header y.header

-- two texts are of one run, and have one subject
unfoldable pub is_beside : RunText → RunText → Bool
is_beside x y = is_like x.text.text y.text.text && same_header x.header y.header

-- the first text that has a rival after it, with the first such rival
abbrev pub with_rival : RunText → Option RunText → Option (RunText × RunText) → Option (RunText × RunText)
with_rival x (Some y) more = Some (x, y)
with_rival x None more = more

abbrev pub first_rivals : List RunText → Option (RunText × RunText)
first_rivals [] = None
first_rivals (x ∷ others) = with_rival x (find (is_rival x) others) (first_rivals others)

-- the reports of a run, and its header
pub record RunReports : Type 0 where
  pub header : RunHeader
  pub reports : List LocalReport

-- the texts of a general in the reports of a run, and in those of all runs, run by run
abbrev pub his_in_run : ℕ → RunReports → List RunText
his_in_run general r = map (of_run r.header) (his_texts general r.reports)

abbrev pub his_across : ℕ → List RunReports → List RunText
his_across general runs = flat_map (his_in_run general) runs

abbrev pub accusing_across : ℕ → Option (RunText × RunText) → List Accusation
accusing_across general None = []
accusing_across general (Some p) = record { accused = general; claim = AcrossRuns p.0 p.1 } ∷ []

unfoldable pub accusations_across : List RunReports → List ℕ → List Accusation
accusations_across runs generals =
    flat_map (λ g. accusing_across g (first_rivals (his_across g runs))) generals

-- each header with the list of reports at its index
abbrev pub runs_of : List RunHeader → List (List LocalReport) → List RunReports
runs_of [] lists = []
runs_of (h ∷ headers) [] = []
runs_of (h ∷ headers) (reports ∷ lists) = record { header = h; reports = reports } ∷ runs_of headers lists
