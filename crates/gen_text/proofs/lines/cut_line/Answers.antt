use Rattle.std.proofs.Common.{◌∷◌, eqb, arith, sym, ◌∙◌, ap, take, length-take}
use Rattle.gen_text.specs.Text.{parts}
use Rattle.gen_text.proofs.Cuts.{no_cut, cut_at}
use Rattle.gen_text.proofs.lines.cut_line.Goals as goal

pub split_at-requires : goal.split_at-requires
split_at-requires c =
    let k = cut_at (λ b. eqb b 10) c.args.text.now c.in-Some.i (sym c.in-Some.ensures) in
    omega (arith, k.0)

pub returns-in-None : goal.returns-in-None
returns-in-None c = no_cut (λ b. eqb b 10) c.args.text.now (sym c.in-None.ensures)

pub returns-in-Some : goal.returns-in-Some
returns-in-Some c =
    let k = cut_at (λ b. eqb b 10) c.args.text.now c.in-Some.i (sym c.in-Some.ensures) in
    (k.1 ∙ ap (λ r. take c.in-Some.i c.args.text.now ∷ parts r) (sym c.split_at.ensures.back), omega (arith, k.0, length-take c.in-Some.i c.args.text.now))
