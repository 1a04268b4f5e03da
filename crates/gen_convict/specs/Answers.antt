-- What an answer to evidence says, wherever its bytes lie in memory.
use Rattle.std.specs.Prelude.{ℕ, ◌≡◌, List}
use Rattle.gen_local.specs.declared.texts.Text.{Text}
use Rattle.gen_convict.specs.declared.refutations.Refutation as answers
use Rattle.gen_convict.specs.declared.refutations.Refutation.TheVariants as kinds
use Rattle.gen_convict.specs.Refuting.{Refutation, Forged, Collision}

abbrev pub answer_of : answers.Refutation → Refutation
answer_of (kinds.Forged text) = Forged text
answer_of (kinds.Collision a b) = Collision a.items b.items

-- the answer is that the text is forged with this signature, which it shows as the signer's
abbrev pub SaysForged : ℕ → Text → List ℕ → answers.Refutation → Type 0
SaysForged signer text signature answer =
    answer_of answer ≡ Forged (record { signer = signer; text = text; signature = signature })
