-- Which choice a kind is, and which number stands for it.
use Rattle.std.specs.Prelude.{ℕ, ◌≡◌, List, [], ◌∷◌, Option, Some, None, refl, zero, suc}
use Rattle.gen_types.specs.Choices.{only_or_retreat, median}
use Rattle.gen_types.specs.declared.choices.ChoiceKind.{ChoiceKind}
use Rattle.gen_types.specs.declared.choices.ChoiceKind.TheVariants.{Only, Median}

-- the choice function of each kind
abbrev pub choice_of : ChoiceKind → List ℕ → ℕ
choice_of Only = only_or_retreat
choice_of Median = median

-- the number that stands for a kind
abbrev pub choice_number : ChoiceKind → ℕ
choice_number Only = 0
choice_number Median = 1

-- the kind that a number stands for, if any
abbrev pub choice_numbered : ℕ → Option ChoiceKind
choice_numbered zero = Some Only
choice_numbered (suc zero) = Some Median
choice_numbered (suc (suc more)) = None

-- of a set of one order each kind chooses this order
pub choice_of-one : (c : ChoiceKind) (v : ℕ) → choice_of c (v ∷ []) ≡ v
choice_of-one Only v = refl
choice_of-one Median v = refl

-- of the empty set each kind chooses RETREAT
pub choice_of-none : (c : ChoiceKind) → choice_of c [] ≡ 0
choice_of-none Only = refl
choice_of-none Median = refl
