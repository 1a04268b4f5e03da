-- Records of the states of a secret, as a caller in another language keeps them.
use Rattle.std.specs.Prelude.{ℕ, ◌≡◌, ◌≢◌, ◌<◌, ◌≤◌, ◌-◌, ◌^◌, ◌⊎◌, List, length}
use Rattle.gen_identity.specs.SetStates.{SetState, IsOfSecret, state_spelling}
use Rattle.gen_identity.specs.States.{set_seed, state_after}

-- the record is the spelling of this state
pub record IsRecord (bytes : List ℕ) (s : SetState) : Type 0 where
  pub spelled : state_spelling s ≡ bytes
  pub number : s.number < 2 ^ 32
  pub system : length s.system ≡ 32

-- the record is that of the state of set 0 of a secret, which serves the system with this id
abbrev pub IsFirstRecord : List ℕ → List ℕ → List ℕ → Type 0
IsFirstRecord secret system bytes =
    (s : SetState) × IsRecord bytes s × (s.number ≡ 0) × (s.system ≡ system) × IsOfSecret secret s

-- this is the number of the set of the record's state
abbrev pub IsSetOf : List ℕ → ℕ → Type 0
IsSetOf bytes set = (s : SetState) × IsRecord bytes s × (set ≡ s.number)

-- The number is 0, the state serves the system with this id, and the seed is that of the state's bytes. So it
-- is that of the state's set, of whatever secret the state is. Or the number is 7, the state serves another
-- system, and what was there stays.
abbrev pub TellsSeed : SetState → List ℕ → List ℕ → List ℕ → ℕ → Type 0
TellsSeed s system old new status =
    (status ≡ 0) × (s.system ≡ system) × (new ≡ set_seed s.bytes)
    ⊎ (status ≡ 7) × (s.system ≢ system) × (new ≡ old)

-- the seed of the record's state is told, or the state serves another system
abbrev pub MakesSeed : List ℕ → List ℕ → List ℕ → List ℕ → ℕ → Type 0
MakesSeed bytes system old new status =
    (s : SetState) × IsRecord bytes s × TellsSeed s system old new status

-- The record is that of the state of this set. It serves the same system, and stands behind the state by as
-- many steps as sets. So it is of the same secrets.
abbrev pub IsLater : SetState → ℕ → List ℕ → Type 0
IsLater s set bytes =
    (t : SetState) × IsRecord bytes t × (t.number ≡ set) × (t.system ≡ s.system)
    × (t.bytes ≡ state_after s.bytes (set - s.number))
    × ((secret : List ℕ) → IsOfSecret secret s → IsOfSecret secret t)

-- The number is 0, and the record of a later set, or of the same, is in the place of a record. Or the number
-- is 2, the set is an earlier one, and the record stays.
abbrev pub Advances : ℕ → List ℕ → List ℕ → ℕ → Type 0
Advances set old new status =
    (s : SetState) × IsRecord old s
    × ((status ≡ 0) × (s.number ≤ set) × IsLater s set new ⊎ (status ≡ 2) × (set < s.number) × (new ≡ old))
