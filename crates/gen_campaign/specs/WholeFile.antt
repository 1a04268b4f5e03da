-- Whether the bytes of a file are a whole file of its kind.
use Rattle.std.specs.Prelude.{ℕ, ◌==◌, Bool, true, false, List, length, Result, Ok, Err}
use Rattle.gen_types.specs.Spelled.{counted}
use Rattle.gen_net.specs.declared.fault.HeaderFault.{HeaderFault}
use Rattle.gen_net.specs.Header.{RunHeader}
use Rattle.gen_net.specs.HeaderReading.{header_at}
use Rattle.gen_convict.specs.EvidenceReading.{whole_evidence}
use Rattle.gen_file.specs.declared.kinds.FileKind.{FileKind}
use Rattle.gen_file.specs.declared.kinds.FileKind.TheVariants.{OfHeader, OfEvidence, OfCampaign}
use Rattle.gen_campaign.specs.CampaignReading.{whole_campaign}

-- what was read is a value; and a header that was read has all bytes
abbrev pub reads : {A F : Type 0} → Result A F → Bool
reads (Ok x) = true
reads (Err fault) = false

abbrev pub reads_all : List ℕ → Result (RunHeader × ℕ) HeaderFault → Bool
reads_all bytes (Ok x) = x.1 == length bytes
reads_all bytes (Err fault) = false

-- the bytes read as a whole file of this kind
abbrev pub is_whole_as : FileKind → List ℕ → Bool
is_whole_as OfHeader bytes = reads_all bytes (counted header_at bytes)
is_whole_as OfEvidence bytes = reads (whole_evidence bytes)
is_whole_as OfCampaign bytes = reads (whole_campaign bytes)
