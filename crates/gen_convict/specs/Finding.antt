-- How the first claim is found: what reports say of one general, and tests on the general's texts.
use Rattle.std.specs.Prelude.{ℕ, Bool, true, false, ◌&&◌, ◌==◌, not, cond, List, [], ◌∷◌, ◌++◌, filter}
use Rattle.std.specs.Bool.{nat_eq}
use Rattle.std.specs.List.{flat_map, list_any}
use Rattle.std.specs.Cmp.Lexicographic.{pointwise}
use Rattle.gen_log.specs.Log.{RunLog}
use Rattle.gen_log.specs.Signing.{is_sign_of}
use Rattle.gen_local.specs.declared.reading.Reading.{Reading}
use Rattle.gen_local.specs.declared.reading.Reading.TheVariants.{Unreadable, Foreign, Own}
use Rattle.gen_local.specs.declared.texts.SignedText.{SignedText}
use Rattle.gen_local.specs.declared.texts.Text.{Text}
use Rattle.gen_local.specs.declared.texts.Text.TheVariants.{OfStatement, OfHead}
use Rattle.gen_local.specs.Report.{LocalReport}
use Rattle.gen_convict.specs.Exhibits.{is_by}

-- the texts that verify in the reading of an exhibit, and those of one general in all reports
abbrev pub read_texts : Reading → List SignedText
read_texts (Own found) = found.texts
read_texts (Unreadable fault) = []
read_texts Foreign = []

abbrev pub his_texts : ℕ → List LocalReport → List SignedText
his_texts general reports = flat_map (λ r. filter (is_by general) (read_texts r.reading)) reports

-- the texts have one subject: two heads, or two statements of one order
abbrev pub is_like : Text → Text → Bool
is_like (OfStatement s) (OfStatement t) = s.order == t.order
is_like (OfHead s) (OfHead t) = true
is_like (OfStatement s) (OfHead t) = false
is_like (OfHead s) (OfStatement t) = false

-- the texts are unlike: they have one subject and differ
abbrev pub is_unlike : Text → Text → Bool
is_unlike (OfStatement s) (OfStatement t) = s.order == t.order && not (pointwise nat_eq s.path t.path)
is_unlike (OfHead s) (OfHead t) =
    not (s.general == t.general && (s.entries == t.entries && pointwise nat_eq s.last_link t.last_link))
is_unlike (OfStatement s) (OfHead t) = false
is_unlike (OfHead s) (OfStatement t) = false

-- one of the texts is unlike this one
abbrev pub has_unlike : List SignedText → SignedText → Bool
has_unlike texts t = list_any (λ x. is_unlike t.text x.text) texts

-- a statement whose path is the commander alone, and two such statements of different orders
abbrev pub is_command : Text → Bool
is_command (OfStatement s) = pointwise nat_eq s.path (0 ∷ [])
is_command (OfHead head) = false

abbrev pub are_orders : Text → Text → Bool
are_orders (OfStatement s) (OfStatement t) =
    pointwise nat_eq s.path (0 ∷ []) && (pointwise nat_eq t.path (0 ∷ []) && not (s.order == t.order))
are_orders (OfStatement s) (OfHead t) = false
are_orders (OfHead s) (OfStatement t) = false
are_orders (OfHead s) (OfHead t) = false

-- a list of the text alone, or an empty list if one of the texts before has its subject
abbrev pub new_one : List SignedText → SignedText → List SignedText
new_one before t = cond (list_any (λ x. is_like x.text t.text) before) [] (t ∷ [])

-- the first text of each subject that none of the texts before has
abbrev pub one_each : List SignedText → List SignedText → List SignedText
one_each before [] = []
one_each before (t ∷ texts) = new_one before t ++ one_each (before ++ new_one before t) texts

-- the text is a statement of which the log has no SIGN
abbrev pub is_unsaid : RunLog → Text → Bool
is_unsaid log (OfStatement s) = not (list_any (is_sign_of s) log.entries)
is_unsaid log (OfHead head) = false
