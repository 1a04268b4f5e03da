-- What a rule makes of decided values.
use Rattle.std.specs.Prelude.{ℕ, ◌≡◌, ◌<◌, ◌≤◌, ◌*◌, ◌==◌, ◌||◌, not, ◌⊎◌, nat_le, nat_lt, List, length, count_by}
use Rattle.gen_combine.specs.declared.combining.Combination.{Combination}
use Rattle.gen_combine.specs.declared.combining.Combination.TheVariants.{Median, Majority, All}

-- how many of the values are at most v
abbrev pub count_up_to : List ℕ → ℕ → ℕ
count_up_to decided v = count_by (λ x. nat_le x v) decided

-- how many of the values are v
abbrev pub count_of : List ℕ → ℕ → ℕ
count_of decided v = count_by (λ x. x == v) decided

-- at least half of the values are at most v
abbrev pub ReachesHalf : List ℕ → ℕ → Type 0
ReachesHalf decided v = length decided ≤ 2 * count_up_to decided v

-- v is the least number such that at least half of the values are at most v
pub record IsMedian (decided : List ℕ) (v : ℕ) : Type 0 where
  pub half : ReachesHalf decided v
  pub least : (w : ℕ) → w < v → ReachesHalf decided w → ⊥

-- more than half of the values are v
abbrev pub IsOfMost : List ℕ → ℕ → Type 0
IsOfMost decided v = length decided < 2 * count_of decided v

-- all of the values are v
abbrev pub IsOfAll : List ℕ → ℕ → Type 0
IsOfAll decided v = count_of decided v ≡ length decided

-- the fact holds of v; or it holds of no number, and v is 0
abbrev pub IsOneOrZero : (ℕ → Type 0) → ℕ → Type 0
IsOneOrZero P v = P v ⊎ ((w : ℕ) → P w → ⊥) × (v ≡ 0)

-- v is what the rule makes of the values
abbrev pub IsCombined : Combination → List ℕ → ℕ → Type 0
IsCombined Median decided v = IsMedian decided v
IsCombined Majority decided v = IsOneOrZero (IsOfMost decided) v
IsCombined All decided v = IsOneOrZero (IsOfAll decided) v

-- how many of the values are below a or above b
abbrev pub outside : ℕ → ℕ → List ℕ → ℕ
outside a b decided = count_by (λ x. nat_lt x a || nat_lt b x) decided

-- how many of the values are other than v
abbrev pub differing : ℕ → List ℕ → ℕ
differing v decided = count_by (λ x. not (x == v)) decided
