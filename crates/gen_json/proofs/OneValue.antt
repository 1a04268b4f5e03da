-- A line is of one value.
use Rattle.std.proofs.Common.{◌≡◌, codes, unwrap_or, sym, ◌∙◌, ap}
use Rattle.std.proofs.lemmas.List.{append_cancel_right}
use Rattle.serde_json.specs.Read.{read}
use Rattle.gen_json.specs.Line.{OneValueOfLine}

pub one_value : OneValueOfLine
one_value bytes d e x y =
    let same : x.text ≡ y.text = append_cancel_right x.text y.text (codes "\n") (sym x.line ∙ y.line) in
    ap (λ o. unwrap_or o d) (sym x.value ∙ ap read same ∙ y.value)
