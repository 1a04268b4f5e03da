-- States with their numbers and their system, as they are kept.
use Rattle.std.specs.Prelude.{ℕ, ◌≡◌, List, ◌++◌}
use Rattle.std.specs.Int.{w32, to_be_bytes}
use Rattle.gen_identity.specs.States.{state_after}

-- a state, the number of its set, and the id of the system whose runs it signs
pub record SetState : Type 0 where
  pub number : ℕ
  pub bytes : List ℕ
  pub system : List ℕ

-- the state is that of a secret: it stands as many steps behind the secret as its number says
abbrev pub IsOfSecret : List ℕ → SetState → Type 0
IsOfSecret secret s = s.bytes ≡ state_after secret s.number

-- the one spelling of a state that is kept: its number in four bytes, big-endian, the state, and the system
abbrev pub state_spelling : SetState → List ℕ
state_spelling s = to_be_bytes w32 s.number ++ (s.bytes ++ s.system)
