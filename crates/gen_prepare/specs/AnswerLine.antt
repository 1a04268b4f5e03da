-- The line of an answer to evidence.
use Rattle.std.specs.Prelude.{ℕ, List, [], ◌∷◌, ◌++◌, codes}
use Rattle.std.specs.List.{flat_map}
use Rattle.std.specs.Fmt.{decimal}
use Rattle.hex.specs.Hex.{encode_lower}
use Rattle.gen_chain.specs.declared.statements.HeadText.{HeadText}
use Rattle.gen_chain.specs.declared.statements.Statement.{Statement}
use Rattle.gen_local.specs.declared.texts.Text.{Text}
use Rattle.gen_local.specs.declared.texts.Text.TheVariants.{OfStatement, OfHead}
use Rattle.gen_convict.specs.Refuting.{Refutation, Forged, Collision}

-- the generals of a path, separated by commas; a minus for none
abbrev pub signers_said : List ℕ → List ℕ
signers_said [] = codes "-"
signers_said (g ∷ gs) = decimal g ++ flat_map (λ w. codes "," ++ decimal w) gs

-- an order and the generals that signed it
unfoldable pub signed_said : ℕ → List ℕ → List ℕ
signed_said order path = codes " order " ++ decimal order ++ codes " path " ++ signers_said path

-- a statement
unfoldable pub statement_said : Statement → List ℕ
statement_said s = codes "statement" ++ signed_said s.order s.path

-- the head of a log
unfoldable pub head_said : HeadText → List ℕ
head_said head =
    codes "head entries " ++ decimal head.entries ++ codes " link " ++ encode_lower head.last_link

-- what was signed
abbrev pub text_said : Text → List ℕ
text_said (OfStatement s) = statement_said s
text_said (OfHead head) = head_said head

-- a text that is forged, or two strings with one hash
abbrev pub answer_line : Refutation → List ℕ
answer_line (Forged text) = codes "forged " ++ text_said text.text ++ codes "\n"
answer_line (Collision a b) =
    codes "collision " ++ encode_lower a ++ codes " " ++ encode_lower b ++ codes "\n"
