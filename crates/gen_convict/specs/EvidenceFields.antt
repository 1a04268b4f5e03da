-- Reading the fields of evidence from left to right, with the first fault that is met: texts, signatures and
-- logs.
use Rattle.std.specs.Prelude.{ℕ, ◌==◌, if◌then◌else◌, List, Result, Ok, Err}
use Rattle.std.specs.Int.{w32, w64}
use Rattle.gen_types.specs.Reading.{◌>>=◌, map_fault}
use Rattle.gen_types.specs.Bytes.{byte_at, bytes_at, number_at}
use Rattle.gen_tree.specs.Sizes.{signature_length}
use Rattle.gen_net.specs.declared.marks.FrontFault.{FrontFault}
use Rattle.gen_net.specs.declared.marks.FrontFault.TheVariants as fronts
use Rattle.gen_net.specs.FrontReading.{header_behind}
use Rattle.gen_net.specs.Header.{RunHeader, height_of}
use Rattle.gen_net.specs.Version.{version_two}
use Rattle.gen_net.specs.Network.{Network}
use Rattle.gen_chain.specs.declared.statements.Statement.{Statement}
use Rattle.gen_chain.specs.declared.statements.HeadText.{HeadText}
use Rattle.gen_log.specs.declared.fault.LogFault.{LogFault}
use Rattle.gen_log.specs.declared.fault.LogFault.TheVariants as rules
use Rattle.gen_log.specs.FieldReading as logs
use Rattle.gen_log.specs.PathReading as paths
use Rattle.gen_local.specs.declared.texts.SignedText.{SignedText}
use Rattle.gen_local.specs.declared.texts.Text.{Text}
use Rattle.gen_local.specs.declared.texts.Text.TheVariants.{OfStatement, OfHead}
use Rattle.gen_convict.specs.declared.evidence_fault.EvidenceFault.{EvidenceFault}
use Rattle.gen_convict.specs.declared.evidence_fault.EvidenceFault.TheVariants as faults
use Rattle.gen_convict.specs.EvidenceSpelling.{statement_kind, head_kind}

-- the fault of evidence for a fault of a field that logs have too: truncated stays truncated, all else is out
-- of range
abbrev pub field_fault : LogFault → EvidenceFault
field_fault rules.Truncated = faults.Truncated
field_fault fault = faults.OutOfRange

-- an order and a path of the network, as they stand in logs
abbrev pub order_at : Network → List ℕ → Result (ℕ × List ℕ) EvidenceFault
order_at net bytes = map_fault field_fault (logs.order_at net bytes)

abbrev pub path_at : Network → List ℕ → Result (List ℕ × List ℕ) EvidenceFault
path_at net bytes = map_fault field_fault (paths.path_at net bytes)

-- a statement of the network, and a head of the general's log
unfoldable pub statement_at : Network → List ℕ → Result (Statement × List ℕ) EvidenceFault
statement_at net bytes = do
  order ← order_at net bytes
  path ← path_at net order.1
  Ok (record { order = order.0; path = path.0 }, path.1)

unfoldable pub head_at : ℕ → List ℕ → Result (HeadText × List ℕ) EvidenceFault
head_at general bytes = do
  entries ← number_at faults.Truncated w64 bytes
  link ← bytes_at faults.Truncated 32 entries.1
  Ok (record { general = general; entries = entries.0; last_link = link.0 }, link.1)

-- a statement as a text, a head as a text, the text of the kind that a byte names, and the text behind that
-- byte
unfoldable pub statement_text_at : Network → List ℕ → Result (Text × List ℕ) EvidenceFault
statement_text_at net bytes = do
  statement ← statement_at net bytes
  Ok (OfStatement statement.0, statement.1)

unfoldable pub head_text_at : ℕ → List ℕ → Result (Text × List ℕ) EvidenceFault
head_text_at general bytes = do
  head ← head_at general bytes
  Ok (OfHead head.0, head.1)

unfoldable pub text_of_kind : Network → ℕ → ℕ → List ℕ → Result (Text × List ℕ) EvidenceFault
text_of_kind net general kind bytes =
    if kind == statement_kind then statement_text_at net bytes
    else (if kind == head_kind then head_text_at general bytes else Err faults.OutOfRange)

unfoldable pub text_at : Network → ℕ → List ℕ → Result (Text × List ℕ) EvidenceFault
text_at net general bytes = do
  kind ← byte_at faults.Truncated bytes
  text_of_kind net general kind.0 kind.1

-- a signature by a tree of the run's height
abbrev pub signature_at : RunHeader → List ℕ → Result (List ℕ × List ℕ) EvidenceFault
signature_at h bytes = bytes_at faults.Truncated (signature_length (height_of h)) bytes

-- a text of the general with its signature
unfoldable pub signed_at : RunHeader → ℕ → List ℕ → Result (SignedText × List ℕ) EvidenceFault
signed_at h general bytes = do
  text ← text_at h.network general bytes
  signature ← signature_at h text.1
  Ok (record { signer = general; text = text.0; signature = signature.0 }, signature.1)

-- a length in four bytes and as many bytes of a log
unfoldable pub log_at : List ℕ → Result (List ℕ × List ℕ) EvidenceFault
log_at bytes = do
  size ← number_at faults.Truncated w32 bytes
  bytes_at faults.Truncated size.0 size.1

-- the fault of evidence for a fault of the mark or the header
abbrev pub front_fault : FrontFault → EvidenceFault
front_fault fronts.Truncated = faults.Truncated
front_fault fronts.UnknownMark = faults.UnknownMark
front_fault (fronts.BadHeader rule) = faults.BadHeader rule

-- the header of another run, which has version 2
unfoldable pub second_header_at : List ℕ → Result (RunHeader × List ℕ) EvidenceFault
second_header_at bytes = map_fault front_fault (header_behind version_two bytes)
