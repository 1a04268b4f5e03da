-- Roots that workers made of the states that they took.
use Rattle.std.specs.Prelude.{ℕ, ◌≡◌, ◌<◌, List, [], length, slice_index_or, Option, None, Result, IfOk, IfSome, IsSome}
use Rattle.std.specs.List.{All}
use Rattle.std.specs.Global.{Vec}
use Rattle.gen_types.specs.declared.heights.TreeHeight.{TreeHeight}
use Rattle.gen_tree.specs.Rings.{ring_root}
use Rattle.gen_identity.specs.States.{set_seed}
use Rattle.gen_enroll.specs.declared.taking.MadeRoot.{MadeRoot}

-- a root is that of the state at its place
pub record IsMade (states : List (List ℕ)) (height : TreeHeight) (made : MadeRoot) : Type 0 where
  pub within : made.place < length states
  pub root : made.root ≡ ring_root (set_seed (slice_index_or states made.place [])) height

-- each of these roots is
abbrev pub AreMade : List (List ℕ) → TreeHeight → List MadeRoot → Type 0
AreMade states height made = All (IsMade states height) made

-- each worker has a result, and those that have roots have such roots
pub record AreMadeByAll {E : Type 0} (states : List (List ℕ)) (height : TreeHeight) (workers : ℕ)
    (results : List (Result (Vec MadeRoot) E)) : Type 0 where
  pub all : length results ≡ workers
  pub each : (worker : ℕ) (default : Result (Vec MadeRoot) E) → worker < workers
      → IfOk (slice_index_or results worker default) (λ made. AreMade states height made.items)

-- each state has a place, and what is there is its root
pub record AreFound (states : List (List ℕ)) (height : TreeHeight)
    (found : List (Option (List ℕ))) : Type 0 where
  pub all : length found ≡ length states
  pub each : (place : ℕ) → place < length states → IfSome (slice_index_or found place None)
      (λ root. root ≡ ring_root (set_seed (slice_index_or states place [])) height)

-- a root is there at the place of each of these
abbrev pub AreThere : List MadeRoot → List (Option (List ℕ)) → Type 0
AreThere made found = All (λ m. IsSome (slice_index_or found m.place None)) made
