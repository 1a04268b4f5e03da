-- When exhibits hold a claim against a general, and a contradiction of the general.
use Rattle.std.specs.Prelude.{ℕ, ◌≡◌, List, Contains}
use Rattle.gen_net.specs.Header.{RunHeader}
use Rattle.gen_log.specs.Writing.{LogBytes}
use Rattle.gen_local.specs.SignedTexts.{stated}
use Rattle.gen_convict.specs.Accused.{command}
use Rattle.gen_convict.specs.Contradictions.{Claim, TwoTexts, TwoOrders, MissingFromLog, DepartingLog, AcrossRuns, IsContradiction}
use Rattle.gen_convict.specs.Exhibits.{HeldLog, texts_of, logs_of}

-- the bytes are those of one of the logs that the exhibits hold for the general
abbrev pub HoldLog : RunHeader → List LogBytes → ℕ → List ℕ → Type 0
HoldLog h exhibits general bytes =
    (l : HeldLog) × Contains (logs_of h exhibits general) l × (bytes ≡ l.bytes)

-- the texts and the log of the claim are among those that the exhibits hold for the general
abbrev pub AreHeld : RunHeader → List LogBytes → ℕ → Claim → Type 0
AreHeld h exhibits general (TwoTexts x y) =
    Contains (texts_of h exhibits general) x × Contains (texts_of h exhibits general) y
AreHeld h exhibits general (TwoOrders v a w b) =
    Contains (texts_of h exhibits general) (command v a)
    × Contains (texts_of h exhibits general) (command w b)
AreHeld h exhibits general (MissingFromLog bytes s signature) =
    HoldLog h exhibits general bytes
    × Contains (texts_of h exhibits general) (stated s.order s.path general signature)
AreHeld h exhibits general (DepartingLog bytes p) = HoldLog h exhibits general bytes
AreHeld h exhibits general (AcrossRuns x y) = ⊥

-- the exhibits hold a claim that is a contradiction of the general
abbrev pub HoldContradiction : RunHeader → List LogBytes → ℕ → Type 0
HoldContradiction h exhibits general =
    (claim : Claim) × AreHeld h exhibits general claim × IsContradiction h general claim
