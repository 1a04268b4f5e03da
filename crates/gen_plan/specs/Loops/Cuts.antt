-- What holds during the search for the first set that cuts.
use Rattle.std.specs.Prelude.{ℕ, ◌≡◌, ◌<◌, List, length}
use Rattle.gen_net.specs.Network.{Network}
use Rattle.gen_types.specs.Bits.{bits_of}
use Rattle.gen_plan.specs.Plans.{AreJoinedBy, IsSetOf, IsLeastApart}
use Rattle.gen_plan.specs.declared.plans.Cut.{Cut}

-- each set of this many generals leaves all others joined
abbrev pub AllOfSizeStand : Network → ℕ → ℕ → Type 0
AllOfSizeStand net count diameter =
    (set : List ℕ) → IsSetOf net set → length set ≡ count → AreJoinedBy net set diameter

-- the cut is that of the first set of this many members
pub record IsFirstOfSize (net : Network) (count diameter : ℕ) (cut : Cut) : Type 0 where
  pub set : IsSetOf net cut.faulty
  pub size : length cut.faulty ≡ count
  pub pair : IsLeastApart net cut.faulty diameter cut.a cut.b
  pub first : (other : List ℕ) → IsSetOf net other → length other ≡ count → bits_of other < bits_of cut.faulty
      → AreJoinedBy net other diameter
