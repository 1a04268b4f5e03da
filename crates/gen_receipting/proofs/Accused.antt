-- Whom the evidence of receipts accuses.
use Rattle.std.proofs.Common.{◌≡◌, ◌∙◌, ℕ, List, false}
use Rattle.gen_convict.specs.declared.evidence.Evidence.{Evidence}
use Rattle.gen_convict.specs.Evidence.{told_of}
use Rattle.gen_convict.specs.EvidenceSpelling.{evidence_spelling}
use Rattle.gen_receipt.specs.Convicting.{IsFirstEvidence}
use Rattle.gen_receipt.specs.ReceiptSpelling.{ReceiptFile}
use Rattle.gen_receipting.specs.Accusing.{AccusesBy}

-- the text of the first evidence is the accusation of the general
pub accuses : (f : ReceiptFile) (g : ℕ) (e : Evidence) (text : List ℕ) → IsFirstEvidence f.header f.receipts g e → text ≡ evidence_spelling f.header (told_of e) → AccusesBy g f text false
accuses f g e text (r, s, are, convicts) spelled =
    let whose : e.accused ≡ g = convicts.accused ∙ are.first.is.0 in
    (r, s, are, spelled ∙ (λ i. evidence_spelling f.header (record { accused = whose i; claim = convicts.claim i })))
