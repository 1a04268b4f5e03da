-- Examples: two rows of attempts and their answers, which follow from the definitions alone.
use Rattle.std.specs.Prelude.{ℕ, ◌≡◌, List, [], ◌∷◌, None}
use Rattle.gen_types.specs.declared.choices.ChoiceKind.TheVariants.{Only}
use Rattle.gen_net.specs.Network.{Network}
use Rattle.gen_async.specs.declared.acts.Moved.{Moved}
use Rattle.gen_async.specs.declared.acts.Moved.TheVariants.{Put, Took, Blocked, Done}
use Rattle.gen_async.specs.Machine.{at_start, answer, step, after, mover}

-- the answers to the attempts of these generals, one after another
abbrev pub answers : Network → ℕ → List ℕ → List ℕ → List Moved
answers net capacity progress [] = []
answers net capacity progress (g ∷ more) =
    answer net capacity progress g ∷ answers net capacity (step net capacity progress g) more

abbrev pub pair : Network
pair = record { generals = 2; edges = (0, 1) ∷ []; traitors = 0; diameter = 1; orders = 2; choice = Only }

abbrev pub triangle : Network
triangle = record {
  generals = 3;
  edges = (0, 1) ∷ (0, 2) ∷ (1, 2) ∷ [];
  traitors = 1;
  diameter = 1;
  orders = 2;
  choice = Only;
}

abbrev pub PairRow : Type 0
PairRow =
    answers pair 1 (at_start pair) (1 ∷ 1 ∷ 0 ∷ 1 ∷ 1 ∷ 0 ∷ 0 ∷ [])
    ≡ Put ∷ Blocked ∷ Put ∷ Took ∷ Done ∷ Took ∷ Done ∷ []

abbrev pub PairEnds : Type 0
PairEnds = mover pair 1 (after pair 1 (at_start pair) (1 ∷ 1 ∷ 0 ∷ 1 ∷ 1 ∷ 0 ∷ 0 ∷ [])) ≡ None

abbrev pub TriangleRow : Type 0
TriangleRow =
    answers triangle 1 (at_start triangle) (0 ∷ 0 ∷ 2 ∷ 2 ∷ 1 ∷ 1 ∷ 1 ∷ 1 ∷ 1 ∷ [])
    ≡ Put ∷ Put ∷ Put ∷ Put ∷ Put ∷ Put ∷ Took ∷ Took ∷ Blocked ∷ []

abbrev pub TriangleTwo : Type 0
TriangleTwo =
    answers triangle 2 (at_start triangle) (0 ∷ 0 ∷ 2 ∷ 2 ∷ 1 ∷ 1 ∷ 1 ∷ 1 ∷ 1 ∷ [])
    ≡ Put ∷ Put ∷ Put ∷ Put ∷ Put ∷ Put ∷ Took ∷ Took ∷ Put ∷ []
