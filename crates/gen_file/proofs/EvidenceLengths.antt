-- The log of a claim ends within the bytes of the evidence.
use Rattle.std.proofs.Common.{◌≡◌, ℕ, ◌+◌, ◌<◌, ◌^◌, List, ◌∷◌, ◌++◌, length, refl, ap, arith}
use Rattle.std.specs.Int.{w32, to_be_bytes}
use Rattle.std.proofs.lemmas.List.{length-append}
use Rattle.gen_types.specs.Spelled.{Spells}
use Rattle.gen_net.specs.Front.{mark_spelling}
use Rattle.gen_net.specs.Header.{RunHeader, header_spelling}
use Rattle.gen_local.specs.declared.texts.Text.TheVariants.{OfStatement}
use Rattle.gen_convict.specs.Contradictions.{Claim, TwoTexts, TwoOrders, MissingFromLog, DepartingLog, AcrossRuns}
use Rattle.gen_convict.specs.EvidenceReading.{IsWhole}
use Rattle.gen_convict.specs.EvidenceSpelling.{evidence_marks, evidence_spelling, shown_spelling, text_spelling, whole_spelling}
use Rattle.gen_file.specs.Parts.{HasRoom, claim_log_at}

-- a log in four bytes of its length and its bytes, behind a mark, a header, the accused and the kind
log_within : (h : RunHeader) (accused kind : ℕ) (log rest bytes : List ℕ)
    → bytes ≡ (mark_spelling evidence_marks h.version ++ header_spelling h) ++ accused ∷ kind ∷ (shown_spelling log ++ rest)
    → length bytes < 2 ^ 64 → claim_log_at h + length log < 2 ^ 64
log_within h accused kind log rest bytes is few =
    let mark : List ℕ = mark_spelling evidence_marks h.version in
    let count : List ℕ = to_be_bytes w32 (length log) in
    let whole : length bytes ≡ length ((mark ++ header_spelling h) ++ accused ∷ kind ∷ (shown_spelling log ++ rest)) = ap length is in
    let four : length mark ≡ 4 = refl in
    let four_more : length count ≡ 4 = refl in
    omega (
      arith,
      few,
      whole,
      four,
      four_more,
      length-append (mark ++ header_spelling h) (accused ∷ kind ∷ (shown_spelling log ++ rest)),
      length-append mark (header_spelling h),
      length-append (shown_spelling log) rest,
      length-append count log,
    )

room_of : (h : RunHeader) (accused : ℕ) (claim : Claim) (bytes : List ℕ)
    → bytes ≡ evidence_spelling h (record { accused = accused; claim = claim }) → length bytes < 2 ^ 64 → HasRoom h claim
room_of h accused (TwoTexts x y) bytes is few = tt
room_of h accused (TwoOrders v a w b) bytes is few = tt
room_of h accused (MissingFromLog log s signature) bytes is few = log_within h accused 3 log (text_spelling (OfStatement s) ++ signature) bytes is few
room_of h accused (DepartingLog log p) bytes is few = log_within h accused 4 log (to_be_bytes w32 p) bytes is few
room_of h accused (AcrossRuns x y) bytes is few = tt

pub has_room : (h : RunHeader) (accused : ℕ) (claim : Claim) (bytes : List ℕ)
    → Spells IsWhole whole_spelling bytes (record { header = h; evidence = record { accused = accused; claim = claim } })
    → length bytes < 2 ^ 64 → HasRoom h claim
has_room h accused claim bytes is few = room_of h accused claim bytes is.spelled few
