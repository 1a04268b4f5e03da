-- The claim that is made against a general: of the least kind, and the first of that kind that the exhibits
-- hold.
use Rattle.std.specs.Prelude.{ℕ, ◌≡◌, ◌≢◌, ◌≤◌, List, [], ◌∷◌, Contains}
use Rattle.gen_net.specs.Departs.{DepartsAt}
use Rattle.gen_net.specs.Header.{RunHeader}
use Rattle.gen_log.specs.Links.{HeadVerifies}
use Rattle.gen_log.specs.Log.{RunLog}
use Rattle.gen_log.specs.Signing.{HasSign}
use Rattle.gen_local.specs.declared.texts.SignedText.{SignedText}
use Rattle.gen_local.specs.declared.texts.Text.{Text}
use Rattle.gen_local.specs.declared.texts.Text.TheVariants.{OfStatement, OfHead}
use Rattle.gen_local.specs.Erased.{erased}
use Rattle.gen_log.specs.Writing.{LogBytes}
use Rattle.gen_local.specs.SignedTexts.{stated}
use Rattle.gen_convict.specs.Accused.{AreDifferent, command}
use Rattle.gen_convict.specs.Contradictions.{Claim, TwoTexts, TwoOrders, MissingFromLog, DepartingLog, AcrossRuns}
use Rattle.gen_convict.specs.Exhibits.{HeldLog, texts_of, logs_of}
use Rattle.gen_convict.specs.Firsts.{IsFirst, IsFirstPair}

-- two statements of different orders, each with the path of the commander alone
abbrev pub DifferInOrder : Text → Text → Type 0
DifferInOrder (OfStatement s) (OfStatement t) = (s.path ≡ 0 ∷ []) × (t.path ≡ 0 ∷ []) × (s.order ≢ t.order)
DifferInOrder (OfStatement s) (OfHead t) = ⊥
DifferInOrder (OfHead s) (OfStatement t) = ⊥
DifferInOrder (OfHead s) (OfHead t) = ⊥

abbrev pub AreOrders : SignedText → SignedText → Type 0
AreOrders x y = DifferInOrder x.text y.text

-- the text is a statement without a SIGN in the log
abbrev pub IsUnsaid : RunLog → Text → Type 0
IsUnsaid log (OfStatement s) = HasSign log s → ⊥
IsUnsaid log (OfHead head) = ⊥

abbrev pub IsMissing : RunLog → SignedText → Type 0
IsMissing log t = IsUnsaid log t.text

-- the log's head verifies, and one of the texts is missing from it
abbrev pub LacksSome : RunHeader → List SignedText → HeldLog → Type 0
LacksSome h texts l =
    HeadVerifies h l.general l.log × ((text : SignedText) × Contains texts text × IsMissing l.log text)

-- the log's head verifies, and the log departs at entry p; and it does so at some entry
abbrev pub IsDeparting : RunHeader → HeldLog → ℕ → Type 0
IsDeparting h l p =
    HeadVerifies h l.general l.log × DepartsAt h.network l.general (erased l.log.entries) p

abbrev pub DepartsSomewhere : RunHeader → HeldLog → Type 0
DepartsSomewhere h l = (p : ℕ) × IsDeparting h l p

-- the claim is the first of its kind that the exhibits of one run hold against the general
abbrev pub IsFirstOfKind : RunHeader → List LogBytes → ℕ → Claim → Type 0
IsFirstOfKind h exhibits general (TwoTexts first second) =
    IsFirstPair AreDifferent (texts_of h exhibits general) first second
IsFirstOfKind h exhibits general (TwoOrders v a w b) =
    (general ≡ 0) × IsFirstPair AreOrders (texts_of h exhibits general) (command v a) (command w b)
IsFirstOfKind h exhibits general (MissingFromLog bytes s signature) =
    (l : HeldLog) × (bytes ≡ l.bytes)
    × IsFirst (LacksSome h (texts_of h exhibits general)) (logs_of h exhibits general) l
    × IsFirst (IsMissing l.log) (texts_of h exhibits general) (stated s.order s.path general signature)
IsFirstOfKind h exhibits general (DepartingLog bytes p) =
    (l : HeldLog) × (bytes ≡ l.bytes)
    × IsFirst (DepartsSomewhere h) (logs_of h exhibits general) l × IsDeparting h l p
IsFirstOfKind h exhibits general (AcrossRuns x y) = ⊥

-- the number of a claim's kind
abbrev pub kind_of : Claim → ℕ
kind_of (TwoTexts first second) = 1
kind_of (TwoOrders v a w b) = 2
kind_of (MissingFromLog bytes s signature) = 3
kind_of (DepartingLog bytes p) = 4
kind_of (AcrossRuns x y) = 5

-- the claim that is made: it is the first of its kind, and the exhibits hold no claim of a lower kind
pub record IsFirstClaim (h : RunHeader) (exhibits : List LogBytes) (general : ℕ) (claim : Claim)
    : Type 0 where
  pub first : IsFirstOfKind h exhibits general claim
  pub least : (other : Claim) → IsFirstOfKind h exhibits general other → kind_of claim ≤ kind_of other
