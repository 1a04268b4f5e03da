-- Which number stands for a rule.
use Rattle.std.specs.Prelude.{ℕ, zero, suc, Option, Some, None}
use Rattle.gen_combine.specs.declared.combining.Combination.{Combination}
use Rattle.gen_combine.specs.declared.combining.Combination.TheVariants.{Median, Majority, All}

-- the number that stands for a rule
abbrev pub combination_number : Combination → ℕ
combination_number Median = 0
combination_number Majority = 1
combination_number All = 2

-- the rule that a number stands for, if any
abbrev pub combination_numbered : ℕ → Option Combination
combination_numbered zero = Some Median
combination_numbered (suc zero) = Some Majority
combination_numbered (suc (suc zero)) = Some All
combination_numbered (suc (suc (suc more))) = None
