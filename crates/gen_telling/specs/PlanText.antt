-- A plan as lines.
use Rattle.std.specs.Prelude.{ℕ, List, ◌++◌, codes, Option, Some, None}
use Rattle.std.specs.Fmt.{decimal}
use Rattle.gen_plan.specs.declared.plans.PlanFailure.{PlanFailure}
use Rattle.gen_plan.specs.declared.plans.PlanResult.{PlanResult}
use Rattle.gen_plan.specs.declared.plans.PlanResult.TheVariants.{Holds, Fails}
use Rattle.gen_plan.specs.declared.sizes.RunSizes.{RunSizes}
use Rattle.gen_file.specs.Lists.{listed}

-- a number, or the word `none`
abbrev pub number_words : Option ℕ → List ℕ
number_words None = codes "none"
number_words (Some n) = decimal n

-- the lines of why a plan fails: the set that cuts, the pair that it cuts apart, and what would do in the
-- place of d, or of m
unfoldable pub failure_lines : PlanFailure → List ℕ
failure_lines failure =
    codes "plan fails\nwithout " ++ listed failure.faulty
    ++ (codes "\npair " ++ decimal failure.a ++ codes " " ++ decimal failure.b ++ codes "\nleast diameter ")
    ++ number_words failure.least_diameter
    ++ codes "\nmost traitors " ++ number_words failure.most_traitors ++ codes "\n"

-- the lines of whether a plan holds
abbrev pub result_lines : PlanResult → List ℕ
result_lines Holds = codes "plan holds\n"
result_lines (Fails failure) = failure_lines failure

-- the line of a number behind its name
abbrev pub number_line : List ℕ → ℕ → List ℕ
number_line name number = name ++ codes " " ++ decimal number ++ codes "\n"

-- the lines of the sizes of a run
unfoldable pub size_lines : RunSizes → List ℕ
size_lines sizes =
    number_line (codes "rounds") sizes.rounds ++ number_line (codes "longest frame") sizes.longest_frame
    ++ number_line (codes "longest log") sizes.longest_log
    ++ number_line (codes "bytes of a run") sizes.run_bytes

-- the text on a plan
unfoldable pub plan_text : PlanResult → RunSizes → List ℕ
plan_text plan sizes = result_lines plan ++ size_lines sizes ++ codes "end\n"
