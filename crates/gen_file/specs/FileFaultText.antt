-- The names of faults of bundles and of evidence.
use Rattle.std.specs.Prelude.{ℕ, List, ◌++◌, codes}
use Rattle.gen_convict.specs.declared.evidence_fault.EvidenceFault.{EvidenceFault}
use Rattle.gen_convict.specs.declared.evidence_fault.EvidenceFault.TheVariants as evidences
use Rattle.gen_audit.specs.declared.bundle_fault.BundleFault.{BundleFault}
use Rattle.gen_audit.specs.declared.bundle_fault.BundleFault.TheVariants as bundles
use Rattle.gen_file.specs.FaultText.{header_fault_name}

-- the name of a bundle's fault
abbrev pub bundle_fault_name : BundleFault → List ℕ
bundle_fault_name bundles.Truncated = codes "B1"
bundle_fault_name bundles.UnknownMark = codes "B2"
bundle_fault_name (bundles.BadHeader fault) = codes "B3 " ++ header_fault_name fault
bundle_fault_name bundles.FaultyRange = codes "B4"
bundle_fault_name bundles.WalkCount = codes "B5"
bundle_fault_name bundles.BadWalk = codes "B6"
bundle_fault_name bundles.BadExhibit = codes "B7"
bundle_fault_name bundles.LeftOver = codes "B8"
bundle_fault_name bundles.OutOfOrder = codes "B9"
bundle_fault_name bundles.LongLog = codes "a log is too long"

-- the name of the fault of evidence
abbrev pub evidence_fault_name : EvidenceFault → List ℕ
evidence_fault_name evidences.Truncated = codes "V1"
evidence_fault_name evidences.UnknownMark = codes "V2"
evidence_fault_name (evidences.BadHeader fault) = codes "V3 " ++ header_fault_name fault
evidence_fault_name evidences.OutOfRange = codes "V4"
evidence_fault_name evidences.LeftOver = codes "V5"
evidence_fault_name evidences.OtherLeaves = codes "V6"
