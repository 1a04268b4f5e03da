-- How inputs end that were not read.
use Rattle.std.proofs.Common.{◌≡◌, ◌≤◌, ℕ, true, false, List, [], ◌∷◌, ◌++◌, length, ◌⊎◌, inl, inr, ap, ◌∙◌}
use Rattle.std.specs.List.{All}
use Rattle.std.proofs.lemmas.List.Elements.{All-push, All-same}
use Rattle.std.specs.declared.io.Error.{Error}
use Rattle.gen_types.specs.declared.reading.ReadError.{ReadError}
use Rattle.gen_types.specs.declared.reading.ReadError.TheVariants as reads
use Rattle.gen_ends.specs.Ends.{status_of}
use Rattle.gen_ends.specs.declared.ends.JobEnd.TheVariants.{Failed}
use Rattle.gen_ends.specs.declared.ends.JobFault.{JobFault}
use Rattle.gen_ends.specs.declared.ends.JobFault.TheVariants as faults
use Rattle.gen_enrolling.specs.Resuming.{error_of}
use Rattle.gen_enrolling.specs.declared.enroll_fault.EnrollFault.{EnrollFault}
use Rattle.gen_program.specs.Ends.{IsEnd, IsOpen, enroll_status}
use Rattle.gen_program.specs.Kinds.{IsFailedOpen}
use Rattle.gen_program.specs.Many.{AreEnds}
use Rattle.gen_program.specs.Refusal.{IsStatus}
use Rattle.gen_program.specs.declared.ends.Ended.{Ended}
use Rattle.gen_program.specs.declared.reading.Failure.{Failure}

-- a file that was not opened
pub unopened : (file : List ℕ) (error : Error) (failure : Failure) (e : Ended) → IsFailedOpen file error failure → e.status ≡ status_of (Failed failure.fault) → e.is_last ≡ false → IsEnd e
unopened file error failure e (inl memory) status last = (Failed faults.Memory, (status ∙ ap (λ (f : JobFault). status_of (Failed f)) memory.1, last))
unopened file error failure e (inr shut) status last = (Failed faults.Open, (status ∙ ap (λ (f : JobFault). status_of (Failed f)) shut.0, last))

-- an admission that has a fault
pub unadmitted : (error : ReadError EnrollFault) (e : Ended) → e.status ≡ enroll_status (error_of error) → e.is_last ≡ false → IsEnd e
unadmitted reads.Memory e status last = (Failed faults.Memory, (status, last))
unadmitted (reads.Fault fault) e status last = (Failed faults.OtherRun, (status, last))

-- the status of an end is one of the program
pub end_status : (e : Ended) → IsEnd e → IsStatus e.status
end_status e is = inr (is.0, is.1.0)

-- ---- one more end

-- what is so of all ends, and of one more
pub ends_more : (P : Ended → Type 0) (ends new : List Ended) (one : Ended) → new ≡ ends ++ one ∷ [] → All P ends → P one → All P new
ends_more P ends new one is all one_is = All-same P new (ends ++ one ∷ []) is (All-push P ends one all one_is)

-- the ends up to the first whose answer could not be written
pub cut_short : (count : ℕ) (ends new : List Ended) (last : Ended) → new ≡ ends ++ last ∷ [] → length new ≤ count → All IsEnd ends → All IsOpen ends → IsEnd last → last.is_last ≡ true → AreEnds count new
cut_short count ends new last are within each unclosed is closed = (
  ends_more IsEnd ends new last are each is,
  inr (record { before = ends; last = last; are = are; before_open = unclosed; closed = closed; within = within }),
)
