-- Laws of the claims that are made.
use Rattle.std.specs.Prelude.{ℕ, ◌≡◌, ◌⊎◌, ◌↔◌, List, Contains}
use Rattle.gen_net.specs.Header.{RunHeader, IsHeader}
use Rattle.gen_local.specs.declared.texts.SignedText.{SignedText}
use Rattle.gen_log.specs.Writing.{LogBytes}
use Rattle.gen_convict.specs.Accused.{TextVerifies}
use Rattle.gen_convict.specs.Contradictions.{Claim, IsContradiction}
use Rattle.gen_convict.specs.Exhibits.{HeldLog, AllBytes, texts_of, logs_of}
use Rattle.gen_convict.specs.First.{DepartsSomewhere, IsFirstClaim}
use Rattle.gen_convict.specs.Held.{HoldContradiction}

-- each text in a general's list verifies as the general's
abbrev pub TextsVerify : Type 0
TextsVerify =
    (h : RunHeader) (exhibits : List LogBytes) (general : ℕ) (text : SignedText) → IsHeader h
    → AllBytes exhibits → Contains (texts_of h exhibits general) text → TextVerifies h general text

-- the claim that is made against a general holds
abbrev pub FirstHolds : Type 0
FirstHolds =
    (h : RunHeader) (exhibits : List LogBytes) (general : ℕ) (claim : Claim) → IsHeader h
    → AllBytes exhibits → IsFirstClaim h exhibits general claim → IsContradiction h general claim

-- a claim is made against a general if and only if the exhibits hold a contradiction of the general, provided
-- that it is decided of each of the general's logs whether it departs
abbrev pub GivenWhereHeld : Type 0
GivenWhereHeld =
    (h : RunHeader) (exhibits : List LogBytes) (general : ℕ) → IsHeader h → AllBytes exhibits
    → ((l : HeldLog) → Contains (logs_of h exhibits general) l
    → DepartsSomewhere h l ⊎ (DepartsSomewhere h l → ⊥))
    → HoldContradiction h exhibits general ↔ ((claim : Claim) × IsFirstClaim h exhibits general claim)

-- at most one claim is made against a general
abbrev pub OneClaim : Type 0
OneClaim =
    (h : RunHeader) (exhibits : List LogBytes) (general : ℕ) (a b : Claim)
    → IsFirstClaim h exhibits general a → IsFirstClaim h exhibits general b → a ≡ b
