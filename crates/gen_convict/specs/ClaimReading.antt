-- Reading a claim against a general, of each kind, from left to right.
use Rattle.std.specs.Prelude.{ℕ, ◌==◌, if◌then◌else◌, List, Result, Ok, Err}
use Rattle.std.specs.Int.{w32}
use Rattle.gen_types.specs.Reading.{◌>>=◌, check}
use Rattle.gen_types.specs.Bytes.{byte_at, number_at}
use Rattle.gen_net.specs.Header.{RunHeader}
use Rattle.gen_net.specs.Network.{Network}
use Rattle.gen_chain.specs.declared.statements.Statement.{Statement}
use Rattle.gen_convict.specs.declared.evidence_fault.EvidenceFault.{EvidenceFault}
use Rattle.gen_convict.specs.declared.evidence_fault.EvidenceFault.TheVariants as faults
use Rattle.gen_convict.specs.Contradictions.{Claim, TwoTexts, TwoOrders, MissingFromLog, DepartingLog, AcrossRuns}
use Rattle.gen_convict.specs.EvidenceFields.{order_at, statement_at, signature_at, signed_at, log_at, second_header_at}
use Rattle.gen_convict.specs.EvidenceSpelling.{statement_kind}
use Rattle.gen_convict.specs.SharedLeaves.{is_two, share_leaves}

-- two signed texts of the accused
unfoldable pub two_texts_at : RunHeader → ℕ → List ℕ → Result (Claim × List ℕ) EvidenceFault
two_texts_at h accused bytes = do
  first ← signed_at h accused bytes
  second ← signed_at h accused first.1
  Ok (TwoTexts first.0 second.0, second.1)

-- an order with the signature of the commander's statement, and a pair of these
unfoldable pub command_at : RunHeader → List ℕ → Result ((ℕ × List ℕ) × List ℕ) EvidenceFault
command_at h bytes = do
  order ← order_at h.network bytes
  signature ← signature_at h order.1
  Ok ((order.0, signature.0), signature.1)

unfoldable pub two_orders_at : RunHeader → List ℕ → Result (Claim × List ℕ) EvidenceFault
two_orders_at h bytes = do
  first ← command_at h bytes
  second ← command_at h first.1
  Ok (TwoOrders first.0.0 first.0.1 second.0.0 second.0.1, second.1)

-- a text that has to be a statement, and a log with such a statement and its signature
unfoldable pub missing_statement_at : Network → List ℕ → Result (Statement × List ℕ) EvidenceFault
missing_statement_at net bytes = do
  kind ← byte_at faults.Truncated bytes
  known ← check (kind.0 == statement_kind) faults.OutOfRange
  statement_at net kind.1

unfoldable pub missing_at : RunHeader → List ℕ → Result (Claim × List ℕ) EvidenceFault
missing_at h bytes = do
  log ← log_at bytes
  statement ← missing_statement_at h.network log.1
  signature ← signature_at h statement.1
  Ok (MissingFromLog log.0 statement.0 signature.0, signature.1)

-- a log, and the number of an entry in four bytes
unfoldable pub departing_at : List ℕ → Result (Claim × List ℕ) EvidenceFault
departing_at bytes = do
  log ← log_at bytes
  entry ← number_at faults.Truncated w32 log.1
  Ok (DepartingLog log.0 entry.0, entry.1)

-- the header of another run that uses the same leaves, and a signed text of each run; under a header of
-- version 2 alone
unfoldable pub across_at : RunHeader → ℕ → List ℕ → Result (Claim × List ℕ) EvidenceFault
across_at h accused bytes = do
  lawful ← check (is_two h.version) faults.OutOfRange
  other ← second_header_at bytes
  shared ← check (share_leaves h other.0) faults.OtherLeaves
  first ← signed_at h accused other.1
  second ← signed_at other.0 accused first.1
  Ok (
    AcrossRuns (record { header = h; text = first.0 })
        (record { header = other.0; text = second.0 }),
    second.1,
  )

-- the claim of the kind that a byte names, and the claim behind that byte
unfoldable pub claim_of_kind : RunHeader → ℕ → ℕ → List ℕ → Result (Claim × List ℕ) EvidenceFault
claim_of_kind h accused kind bytes =
    if kind == 1 then two_texts_at h accused bytes
    else (if kind == 2 then two_orders_at h bytes
    else (if kind == 3 then missing_at h bytes
    else (if kind == 4 then departing_at bytes
    else (if kind == 5 then across_at h accused bytes
    else Err faults.OutOfRange))))

unfoldable pub claim_at : RunHeader → ℕ → List ℕ → Result (Claim × List ℕ) EvidenceFault
claim_at h accused bytes = do
  kind ← byte_at faults.Truncated bytes
  claim_of_kind h accused kind.0 kind.1
