-- The claim that is found against a general, as a function of the reports. `firsts` is the first of the
-- general's texts for each subject.
use Rattle.std.specs.Prelude.{ℕ, Bool, ◌&&◌, ◌==◌, ◌^◌, nat_lt, cond, List, [], ◌∷◌, Option, Some, None}
use Rattle.std.specs.Option.{option_map, option_or, is_some}
use Rattle.std.specs.List.{find, flat_map}
use Rattle.gen_local.specs.declared.reading.Reading.{Reading}
use Rattle.gen_local.specs.declared.reading.Reading.TheVariants.{Unreadable, Foreign, Own}
use Rattle.gen_local.specs.declared.texts.SignedText.{SignedText}
use Rattle.gen_local.specs.declared.texts.Text.{Text}
use Rattle.gen_local.specs.declared.texts.Text.TheVariants.{OfStatement, OfHead}
use Rattle.gen_local.specs.Report.{LocalReport}
use Rattle.gen_convict.specs.Contradictions.{Claim, TwoTexts, TwoOrders, MissingFromLog, DepartingLog}
use Rattle.gen_convict.specs.Evidence.{Accusation}
use Rattle.gen_convict.specs.Finding.{his_texts, one_each, is_unlike, has_unlike, is_command, are_orders, is_unsaid}

-- the claim by the given text and the first text that is unlike it, if there are both
abbrev pub with_unlike : List SignedText → Option SignedText → Option Claim
with_unlike texts None = None
with_unlike texts (Some x) = option_map (TwoTexts x) (find (λ y. is_unlike x.text y.text) texts)

-- the claim by two texts: the first one of `firsts` that has an unlike one, with the first that is unlike it
abbrev pub texts_claim : List SignedText → List SignedText → Option Claim
texts_claim firsts texts = with_unlike texts (find (has_unlike texts) firsts)

-- the order of a statement; 0 for a head, which has none
abbrev pub order_of : Text → ℕ
order_of (OfStatement s) = s.order
order_of (OfHead head) = 0

-- the claim that the commander signed the orders of both statements
abbrev pub two_orders : SignedText → SignedText → Claim
two_orders x y = TwoOrders (order_of x.text) x.signature (order_of y.text) y.signature

-- the claim by the order of the given statement and the first other order of the commander, if there are both
abbrev pub with_order : List SignedText → Option SignedText → Option Claim
with_order texts None = None
with_order texts (Some x) = option_map (two_orders x) (find (λ y. are_orders x.text y.text) texts)

-- the first statement whose path is the commander alone
abbrev pub first_order : List SignedText → Option SignedText
first_order texts = find (λ t. is_command t.text) texts

-- the claim by two orders, against the commander alone: its first order, with the first other one
abbrev pub orders_claim : ℕ → List SignedText → Option Claim
orders_claim general texts = cond (general == 0) (with_order texts (first_order texts)) None

-- the first of these statements without a SIGN in the log, if the log is sealed
abbrev pub unsaid_in : List SignedText → Reading → Option SignedText
unsaid_in firsts (Own found) = cond found.sealed (find (λ t. is_unsaid found.log t.text) firsts) None
unsaid_in firsts (Unreadable fault) = None
unsaid_in firsts Foreign = None

-- the report is of a sealed log of the general that has no SIGN of one of these statements
abbrev pub lacks : ℕ → List SignedText → LocalReport → Bool
lacks general firsts r = r.exhibit.general == general && is_some (unsaid_in firsts r.reading)

-- the claim that the log has no SIGN of the statement, with the statement's signature; none for a head
abbrev pub missing_of : List ℕ → List ℕ → Text → Option Claim
missing_of bytes signature (OfStatement s) = Some (MissingFromLog bytes s signature)
missing_of bytes signature (OfHead head) = None

-- the claim that the given text is missing from the log, if a text is given and is a statement
abbrev pub missing_as : List ℕ → Option SignedText → Option Claim
missing_as bytes None = None
missing_as bytes (Some t) = missing_of bytes t.signature t.text

-- the claim that the log of the given report lacks the first statement without a SIGN, if a report is given
abbrev pub missing_in : List SignedText → Option LocalReport → Option Claim
missing_in firsts None = None
missing_in firsts (Some r) = missing_as r.exhibit.bytes (unsaid_in firsts r.reading)

-- the claim by a log that lacks a statement: the general's first sealed log that lacks one, with the first
-- such statement
abbrev pub missing_claim : ℕ → List SignedText → List LocalReport → Option Claim
missing_claim general firsts reports = missing_in firsts (find (lacks general firsts) reports)

-- the entry at which the log departs, if it is sealed and departs
abbrev pub departure_in : Reading → Option ℕ
departure_in (Own found) = cond found.sealed found.departure None
departure_in (Unreadable fault) = None
departure_in Foreign = None

-- the report is of a sealed log of the general that departs
abbrev pub departs : ℕ → LocalReport → Bool
departs general r = r.exhibit.general == general && is_some (departure_in r.reading)

-- the claim that the log departs at the given entry, if an entry is given and its number has four bytes
abbrev pub departing_at : List ℕ → Option ℕ → Option Claim
departing_at bytes None = None
departing_at bytes (Some p) = cond (nat_lt p (2 ^ 32)) (Some (DepartingLog bytes p)) None

-- the claim that the log of the given report departs, if a report is given
abbrev pub departing_in : Option LocalReport → Option Claim
departing_in None = None
departing_in (Some r) = departing_at r.exhibit.bytes (departure_in r.reading)

-- the claim by a log that departs: the general's first sealed log that departs
abbrev pub departing_claim : ℕ → List LocalReport → Option Claim
departing_claim general reports = departing_in (find (departs general) reports)

-- the claim by one of the general's logs: that it lacks a statement, or else that it departs
abbrev pub claim_from_logs : ℕ → List SignedText → List LocalReport → Option Claim
claim_from_logs general firsts reports =
    option_or (missing_claim general firsts reports) (departing_claim general reports)

-- the claim by two orders, or else by one of the general's logs
abbrev pub claim_from_orders_or_logs :
    ℕ → List SignedText → List SignedText → List LocalReport → Option Claim
claim_from_orders_or_logs general firsts texts reports =
    option_or (orders_claim general texts) (claim_from_logs general firsts reports)

-- the claim of the least kind: by two texts, or else by two orders, or else by one of the general's logs
abbrev pub least_claim : ℕ → List SignedText → List SignedText → List LocalReport → Option Claim
least_claim general firsts texts reports =
    option_or (texts_claim firsts texts) (claim_from_orders_or_logs general firsts texts reports)

-- the claim against a general that is found in the reports
unfoldable pub claim_for : List LocalReport → ℕ → Option Claim
claim_for reports general =
    least_claim general (one_each [] (his_texts general reports)) (his_texts general reports) reports

-- the accusation of a general by a claim, if there is one
abbrev pub accusing : ℕ → Option Claim → List Accusation
accusing general None = []
accusing general (Some claim) = record { accused = general; claim = claim } ∷ []

-- the accusations of these generals that the reports give, in the order of the generals
abbrev pub accusations : List LocalReport → List ℕ → List Accusation
accusations reports generals = flat_map (λ g. accusing g (claim_for reports g)) generals
