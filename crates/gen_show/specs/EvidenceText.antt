-- Evidence as lines.
use Rattle.std.specs.Prelude.{ℕ, Bool, true, false, List, [], ◌∷◌, ◌++◌, codes}
use Rattle.std.specs.Fmt.{decimal}
use Rattle.hex.specs.Hex.{encode_lower}
use Rattle.gen_net.specs.Header.{RunHeader, root_of}
use Rattle.gen_local.specs.declared.texts.Text.{Text}
use Rattle.gen_local.specs.declared.texts.Text.TheVariants.{OfStatement, OfHead}
use Rattle.gen_convict.specs.Contradictions.{Claim, TwoTexts, TwoOrders, MissingFromLog, DepartingLog, AcrossRuns}
use Rattle.gen_convict.specs.EvidenceSpelling.{HeaderAndEvidence}
use Rattle.gen_file.specs.Parts.{claim_log_at}
use Rattle.gen_show.specs.HeaderText.{header_lines}
use Rattle.gen_show.specs.LogText.{log_lines, signed_said}

-- the line of a text that is shown under this name: a statement, or the head of a log with its general, the
-- number of entries and the last link
unfoldable pub text_line : List ℕ → Text → List ℕ
text_line name (OfStatement s) =
    codes "text " ++ name ++ codes " statement" ++ signed_said s.order s.path ++ codes "\n"
text_line name (OfHead head) =
    codes "text " ++ name ++ codes " head of " ++ decimal head.general
    ++ codes " entries " ++ decimal head.entries ++ codes " link " ++ encode_lower head.last_link
    ++ codes "\n"

-- the line of an order that the commander alone signed
unfoldable pub order_line : List ℕ → ℕ → List ℕ
order_line name order = text_line name (OfStatement (record { order = order; path = 0 ∷ [] }))

-- the line of the accused, with the root of the accused
unfoldable pub accused_line : RunHeader → ℕ → List ℕ
accused_line h accused =
    codes "accused " ++ decimal accused ++ codes " root " ++ encode_lower (root_of h accused) ++ codes "\n"

-- the line of the kind of a claim, in words
abbrev pub kind_line : Claim → List ℕ
kind_line (TwoTexts x y) = codes "kind 1 two texts under one leaf\n"
kind_line (TwoOrders v a w b) = codes "kind 2 two orders of the commander\n"
kind_line (MissingFromLog bytes s signature) = codes "kind 3 a log without a statement that was signed\n"
kind_line (DepartingLog bytes p) = codes "kind 4 a log that departs from the algorithm\n"
kind_line (AcrossRuns x y) = codes "kind 5 two texts under one leaf in two runs\n"

-- the line of the entry at which a log is said to depart
unfoldable pub departs_line : ℕ → List ℕ
departs_line entry = codes "departs entry " ++ decimal entry ++ codes "\n"

-- the lines of a claim: its two texts; or its log, and the statement or the entry; or the texts of two runs,
-- with the header of the other run between them
abbrev pub claim_lines : RunHeader → ℕ → Claim → List ℕ
claim_lines h accused (TwoTexts x y) = text_line (codes "first") x.text ++ text_line (codes "second") y.text
claim_lines h accused (TwoOrders v a w b) = order_line (codes "first") v ++ order_line (codes "second") w
claim_lines h accused (MissingFromLog bytes s signature) =
    log_lines h accused (claim_log_at h) bytes ++ text_line (codes "missing") (OfStatement s)
claim_lines h accused (DepartingLog bytes p) =
    log_lines h accused (claim_log_at h) bytes ++ departs_line p
claim_lines h accused (AcrossRuns x y) =
    text_line (codes "first") x.text.text ++ header_lines (codes "header") y.header
    ++ text_line (codes "second") y.text.text

-- the line that says whether the evidence holds, and the end
abbrev pub holds_lines : Bool → List ℕ
holds_lines true = codes "evidence holds\nend\n"
holds_lines false = codes "evidence fails\nend\n"

-- the lines of evidence that holds or fails
abbrev pub evidence_lines : Bool → HeaderAndEvidence → List ℕ
evidence_lines holds x =
    header_lines (codes "evidence") x.header ++ accused_line x.header x.evidence.accused
    ++ kind_line x.evidence.claim ++ claim_lines x.header x.evidence.accused x.evidence.claim
    ++ holds_lines holds
