-- The judgement on a bundle: its verdict, and the generals that its exhibits convict.
use Rattle.std.specs.Prelude.{◌≡◌, List}
use Rattle.gen_convict.specs.Convictions.{AreConvictions}
use Rattle.gen_convict.specs.Evidence.{Accusation}
use Rattle.gen_audit.specs.declared.verdicts.Verdict.{Verdict}
use Rattle.gen_audit.specs.Bundle.{Bundle, IsBundle}
use Rattle.gen_audit.specs.Verdict.{IsVerdict}

-- the verdict is the bundle's, and exactly the generals with a first claim are convicted, each by that claim
pub record IsJudgement (b : Bundle) (v : Verdict) (xs : List Accusation) : Type 0 where
  pub verdict : IsVerdict b v
  pub convictions : AreConvictions b.header b.exhibits xs

-- a bundle has one judgement
abbrev pub OneJudgement : Type 0
OneJudgement =
    (b : Bundle) → IsBundle b → (one other : Verdict) (xs ys : List Accusation)
    → IsJudgement b one xs → IsJudgement b other ys → (one ≡ other) × (xs ≡ ys)
