-- Where the parts of a log, of a bundle and of evidence stand.
use Rattle.std.specs.Prelude.{ℕ, ◌+◌, ◌<◌, ◌^◌, List, [], ◌∷◌, ◌++◌, length, sum_by, Result, Ok, Err}
use Rattle.gen_net.specs.declared.marks.FrontFault.{FrontFault}
use Rattle.gen_net.specs.declared.marks.Marks.{Marks}
use Rattle.gen_net.specs.Front.{front_spelling}
use Rattle.gen_net.specs.Header.{RunHeader, header_spelling}
use Rattle.gen_log.specs.Fields.{set_spelling}
use Rattle.gen_log.specs.Writing.{LogBytes}
use Rattle.gen_convict.specs.Contradictions.{Claim, TwoTexts, TwoOrders, MissingFromLog, DepartingLog, AcrossRuns}
use Rattle.gen_audit.specs.Bundle.{Bundle}
use Rattle.gen_audit.specs.BundleSpelling.{bundle_marks, walks_spelling}

-- the byte up to which a header behind a mark reaches, if one stands there
abbrev pub front_end : Marks → Result (RunHeader × List ℕ) FrontFault → ℕ
front_end marks (Ok front) = length (front_spelling marks front.0)
front_end marks (Err fault) = 0

-- the number of bytes before the entries of a log
abbrev pub log_front_length : ℕ
log_front_length = 40

-- the number of bytes before the log of an exhibit, and the number of bytes of an exhibit
abbrev pub exhibit_front_length : ℕ
exhibit_front_length = 5

abbrev pub exhibit_length : LogBytes → ℕ
exhibit_length x = exhibit_front_length + length x.bytes

-- the bytes of a bundle before its exhibits, and their number
abbrev pub bundle_front : Bundle → List ℕ
bundle_front b =
    front_spelling bundle_marks b.header
    ++ (set_spelling b.faulty ++ (walks_spelling b.walks ++ length b.exhibits ∷ []))

unfoldable pub bundle_front_length : Bundle → ℕ
bundle_front_length b = length (bundle_front b)

-- the number of bytes of a bundle
abbrev pub bundle_length : Bundle → ℕ
bundle_length b = bundle_front_length b + sum_by exhibit_length b.exhibits

-- the byte at which the log of a claim begins: behind the mark, the header, the accused, the kind, and the
-- length of the log in four bytes
abbrev pub claim_log_at : RunHeader → ℕ
claim_log_at h = length (header_spelling h) + 10

-- the log of a claim, if it has one, ends before byte 2^64
abbrev pub HasRoom : RunHeader → Claim → Type 0
HasRoom h (TwoTexts x y) = Unit {0}
HasRoom h (TwoOrders v a w b) = Unit {0}
HasRoom h (MissingFromLog bytes s signature) = claim_log_at h + length bytes < 2 ^ 64
HasRoom h (DepartingLog bytes p) = claim_log_at h + length bytes < 2 ^ 64
HasRoom h (AcrossRuns x y) = Unit {0}
