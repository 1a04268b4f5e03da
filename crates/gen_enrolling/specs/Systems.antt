-- The system that the text of a header gives.
use Rattle.std.specs.Prelude.{ℕ, List, Result, Ok}
use Rattle.gen_types.specs.declared.heights.TreeHeight.{TreeHeight}
use Rattle.gen_types.specs.declared.heights.TreeHeight.TheVariants.{Four, Six}
use Rattle.gen_types.specs.Reading.{◌>>=◌, map_fault}
use Rattle.gen_net.specs.declared.version.Version.{Version}
use Rattle.gen_net.specs.declared.version.Version.TheVariants.{One, Two}
use Rattle.gen_net.specs.Header.{RunHeader}
use Rattle.gen_prepare.specs.HeaderTextReading.{header_given}
use Rattle.gen_system.specs.declared.proposers.Proposer.{Proposer}
use Rattle.gen_system.specs.Systems.{RunSystem, system_id_of, system_spelling, system_with}
use Rattle.gen_enrolling.specs.declared.enroll_fault.EnrollFault.{EnrollFault}
use Rattle.gen_enrolling.specs.declared.enroll_fault.EnrollFault.TheVariants.{Text, System}

-- the version of headers whose trees of keys have this height; in version 2 its slot is 0
abbrev pub version_of : TreeHeight → Version
version_of Four = One
version_of Six = Two 0

-- the header that a text gives, or its first fault
abbrev pub header_read : TreeHeight → List ℕ → Result RunHeader EnrollFault
header_read height text = map_fault Text (header_given (version_of height) text)

-- the system of these parts, or the first rule that they break
abbrev pub made_system : RunHeader → Proposer → ℕ → List ℕ → Result RunSystem EnrollFault
made_system header proposer levels context = map_fault System (system_with header proposer levels context)

-- the bytes and the id of the system that a text and these choices give, or the first fault
unfoldable pub system_given : TreeHeight → Proposer → ℕ → List ℕ → List ℕ
    → Result (List ℕ × List ℕ) EnrollFault
system_given height proposer levels context text = do
  header ← header_read height text
  system ← made_system header proposer levels context
  Ok (system_spelling system, system_id_of system)
