-- Laws of how the first pair of texts is found.
use Rattle.std.specs.Prelude.{ℕ, ◌≤◌, ◌≡◌, ◌⊎◌, ◌+◌, List, [], ◌∷◌, ◌++◌, length, Contains}
use Rattle.gen_local.specs.declared.texts.SignedText.{SignedText}
use Rattle.gen_local.specs.declared.texts.Text.{Text}
use Rattle.gen_local.specs.declared.texts.Text.TheVariants.{OfStatement, OfHead}
use Rattle.gen_convict.specs.Accused.{AreDifferent}
use Rattle.gen_convict.specs.First.{AreOrders}
use Rattle.gen_convict.specs.Firsts.{IsFirst, IsFirstPair}

-- the subject of a text as a number: 0 for heads, the order plus 1 for statements; and texts of one subject
abbrev pub subject_of : Text → ℕ
subject_of (OfStatement s) = s.order + 1
subject_of (OfHead head) = 0

abbrev pub AreAlike : SignedText → SignedText → Type 0
AreAlike x z = subject_of z.text ≡ subject_of x.text

-- the first pair of different texts begins with the first text of its subject: so each text need be compared
-- with that one alone
abbrev pub FirstOfSubject : Type 0
FirstOfSubject =
    (texts : List SignedText) (x y : SignedText) → IsFirstPair AreDifferent texts x y
    → IsFirst (AreAlike x) texts x

-- x is the first text of its subject, and y the first text after it that differs: what one pass keeps for
-- each subject
pub record IsSubjectPair (texts : List SignedText) (x y : SignedText) : Type 0 where
  pub first : IsFirst (AreAlike x) texts x
  pub second : IsFirst (AreDifferent x) first.after y

-- of the pairs of all subjects, the one that begins first is the first pair of different texts
abbrev pub EarliestSubject : Type 0
EarliestSubject =
    (texts : List SignedText) (x y : SignedText) (s : IsSubjectPair texts x y)
    → ((u v : SignedText) (t : IsSubjectPair texts u v) → length s.first.before ≤ length t.first.before)
    → IsFirstPair AreDifferent texts x y

-- a statement whose path is the commander alone
abbrev pub IsByCommander : Text → Type 0
IsByCommander (OfStatement s) = s.path ≡ 0 ∷ []
IsByCommander (OfHead head) = ⊥

abbrev pub IsCommand : SignedText → Type 0
IsCommand t = IsByCommander t.text

-- the first pair of two orders begins with the first statement whose path is the commander alone
abbrev pub FirstCommand : Type 0
FirstCommand =
    (texts : List SignedText) (x y : SignedText) → IsFirstPair AreOrders texts x y
    → IsFirst IsCommand texts x

-- no two of the texts differ; and a list of texts has a first pair that differs, or no two of its texts
-- differ
abbrev pub NoTwoTexts : List SignedText → Type 0
NoTwoTexts texts =
    (front back : List SignedText) (u v : SignedText) → texts ≡ front ++ u ∷ back → Contains back v
    → AreDifferent u v → ⊥

abbrev pub HasTwoTexts : Type 0
HasTwoTexts =
    (xs : List SignedText)
    → ((x : SignedText) × (y : SignedText) × IsFirstPair AreDifferent xs x y) ⊎ NoTwoTexts xs

-- a list of texts has at most one first pair that differs
abbrev pub OneFirstPair : Type 0
OneFirstPair =
    (xs : List SignedText) (x y v w : SignedText) → IsFirstPair AreDifferent xs x y
    → IsFirstPair AreDifferent xs v w → (x ≡ v) × (y ≡ w)

-- if no two texts differ, statements of one order are one text: so a log need be tested for 15 statements at
-- most
abbrev pub OneOfEach : Type 0
OneOfEach =
    (texts : List SignedText) → NoTwoTexts texts → (x y : SignedText) → Contains texts x
    → Contains texts y → AreAlike x y → x.text ≡ y.text
