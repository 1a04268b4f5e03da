-- What the jobs that prepare a run make of their input: the root of a seed's keys, and the header of a text.
use Rattle.std.specs.Prelude.{ℕ, ◌≡◌, Bool, false, List, Ok, Err}
use Rattle.gen_types.specs.declared.heights.TreeHeight.{TreeHeight}
use Rattle.gen_net.specs.declared.version.Version.{Version}
use Rattle.gen_net.specs.Header.{RunHeader, header_spelling}
use Rattle.gen_plan.specs.EqualRoots.{HasOwnRoots}
use Rattle.gen_prepare.specs.HeaderText.{SpellsHeader}
use Rattle.gen_prepare.specs.HeaderTextReading.{header_given}
use Rattle.gen_prepare.specs.declared.header_fault.HeaderTextFault.TheVariants.{Text, EqualRoots}
use Rattle.gen_prepare.specs.Roots.{root_text}
use Rattle.gen_ends.specs.declared.ends.JobFault.{JobFault}
use Rattle.gen_ends.specs.declared.ends.JobFault.TheVariants as faults

-- The text is the line of the root of the seed that the input is. It never says no.
abbrev pub IsRoot : TreeHeight → List ℕ → List ℕ → Bool → Type 0
IsRoot height input text negative = (root_text height input ≡ Ok text) × (negative ≡ false)

-- the input is no seed, or memory was refused
abbrev pub IsRootFault : TreeHeight → List ℕ → JobFault → Type 0
IsRootFault height input faults.Memory = Unit {0}
IsRootFault height input (faults.Seed f) = root_text height input ≡ Err f
IsRootFault height input _ = ⊥

-- The text spells in bytes the header of this version that the input spells as a text, and each of its
-- generals has a root of its own. It never says no.
pub record IsHeaderOf (version : Version) (input text : List ℕ) (negative : Bool) : Type 0 where
  pub header : RunHeader
  pub spelled : SpellsHeader version input header
  pub own : HasOwnRoots header
  pub text_is : text ≡ header_spelling header
  pub positive : negative ≡ false

-- the first fault of an input that spells no header; or the least pair of generals with the same root; or
-- memory was refused
abbrev pub IsHeaderFault : Version → List ℕ → JobFault → Type 0
IsHeaderFault version input faults.Memory = Unit {0}
IsHeaderFault version input (faults.Scenario f) = header_given version input ≡ Err (Text f)
IsHeaderFault version input (faults.EqualRoots a b) = header_given version input ≡ Err (EqualRoots a b)
IsHeaderFault version input _ = ⊥
