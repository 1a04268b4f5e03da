-- What claims say, as JSON.
use Rattle.std.specs.Prelude.{ℕ, List, [], ◌∷◌, codes}
use Rattle.serde_json.specs.Data.{Data, string}
use Rattle.gen_net.specs.Header.{run_id_of}
use Rattle.gen_local.specs.declared.texts.Text.{Text}
use Rattle.gen_local.specs.declared.texts.Text.TheVariants.{OfStatement, OfHead}
use Rattle.gen_convict.specs.Contradictions.{Claim, TwoTexts, TwoOrders, MissingFromLog, DepartingLog, AcrossRuns}
use Rattle.gen_json.specs.JsonData.{whole, numbers_data, digits_data, fields}

-- the statement of an order with a path
abbrev pub statement_data : ℕ → List ℕ → Data
statement_data order path = fields (
    (codes "order", whole order) ∷ (codes "path", numbers_data path)
    ∷ (codes "text", string (codes "statement")) ∷ [])

-- what a general signed: a statement, or the head of a log
abbrev pub text_data : Text → Data
text_data (OfStatement s) = statement_data s.order s.path
text_data (OfHead head) = fields (
    (codes "entries", whole head.entries) ∷ (codes "last_link", digits_data head.last_link)
    ∷ (codes "text", string (codes "head")) ∷ [])

-- What a claim says, without signatures and without the bytes of a log: two texts of one run; two orders of
-- the commander; a statement that is missing from a log; the entry at which a log departs; or two texts of
-- two runs, and the id of the other run.
abbrev pub claim_data : Claim → Data
claim_data (TwoTexts x y) =
    fields ((codes "first", text_data x.text) ∷ (codes "second", text_data y.text) ∷ [])
claim_data (TwoOrders v a w b) = fields (
    (codes "first", statement_data v (0 ∷ [])) ∷ (codes "second", statement_data w (0 ∷ [])) ∷ [])
claim_data (MissingFromLog bytes s signature) =
    fields ((codes "missing", statement_data s.order s.path) ∷ [])
claim_data (DepartingLog bytes p) = fields ((codes "entry", whole p) ∷ [])
claim_data (AcrossRuns x y) = fields (
    (codes "first", text_data x.text.text) ∷ (codes "other_run", digits_data (run_id_of y.header))
    ∷ (codes "second", text_data y.text.text) ∷ [])
