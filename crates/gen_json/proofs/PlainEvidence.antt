-- What is printed of evidence has no floats, and nests a few levels deep.
use Rattle.std.proofs.Common.{◌≡◌, ℕ, ◌≤◌, List, false, refl, arith}
use Rattle.std.specs.Prelude.{Bool}
use Rattle.serde_json.specs.Data.{depth}
use Rattle.serde_json.specs.Written.{has_float}
use Rattle.gen_net.specs.Header.{RunHeader}
use Rattle.gen_local.specs.declared.texts.Text.{Text}
use Rattle.gen_local.specs.declared.texts.Text.TheVariants.{OfStatement, OfHead}
use Rattle.gen_convict.specs.Contradictions.{Claim, TwoTexts, TwoOrders, MissingFromLog, DepartingLog, AcrossRuns}
use Rattle.gen_convict.specs.Evidence.{Accusation}
use Rattle.gen_json.specs.ClaimData.{claim_data, statement_data, text_data}
use Rattle.gen_json.specs.EvidenceData.{evidence_data}
use Rattle.gen_json.proofs.Plain.{numbers_plain, numbers_shallow}

statement_plain : (order : ℕ) (path : List ℕ) → has_float (statement_data order path) ≡ false
statement_plain order path = rw (numbers_plain path) refl

statement_shallow : (order : ℕ) (path : List ℕ) → depth (statement_data order path) ≤ 2
statement_shallow order path = omega (arith, numbers_shallow path)

text_plain : (t : Text) → has_float (text_data t) ≡ false
text_plain (OfStatement s) = statement_plain s.order s.path
text_plain (OfHead head) = refl

text_shallow : (t : Text) → depth (text_data t) ≤ 2
text_shallow (OfStatement s) = statement_shallow s.order s.path
text_shallow (OfHead head) = omega arith

claim_plain : (c : Claim) → has_float (claim_data c) ≡ false
claim_plain (TwoTexts x y) = rw (text_plain x.text, text_plain y.text) refl
claim_plain (TwoOrders v a w b) = refl
claim_plain (MissingFromLog bytes s signature) = rw (numbers_plain s.path) refl
claim_plain (DepartingLog bytes p) = refl
claim_plain (AcrossRuns x y) = rw (text_plain x.text.text, text_plain y.text.text) refl

claim_shallow : (c : Claim) → depth (claim_data c) ≤ 3
claim_shallow (TwoTexts x y) = omega (arith, text_shallow x.text, text_shallow y.text)
claim_shallow (TwoOrders v a w b) = omega arith
claim_shallow (MissingFromLog bytes s signature) = omega (arith, numbers_shallow s.path)
claim_shallow (DepartingLog bytes p) = omega arith
claim_shallow (AcrossRuns x y) = omega (arith, text_shallow x.text.text, text_shallow y.text.text)

pub evidence_plain : (h : RunHeader) (e : Accusation) (holds : Bool)
    → has_float (evidence_data h e holds) ≡ false
evidence_plain h e holds = rw (claim_plain e.claim) refl

pub evidence_within : (h : RunHeader) (e : Accusation) (holds : Bool)
    → depth (evidence_data h e holds) ≤ 127
evidence_within h e holds = omega (arith, claim_shallow e.claim)
