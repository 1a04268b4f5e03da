use Rattle.std.proofs.Common.{◌≡◌, ◌∙◌, sym, arith}
use Rattle.gen_tree.proofs.Halves.{front_same, front_other}
use Rattle.gen_tree.proofs.signatures.SignaturePartialEq.eq.Goals as goal

pub returns-then-eq : goal.returns-then-eq
returns-then-eq c =
    let e = front_same c.parts.result.0.now c.parts.result.1.now c.parts-2.result.0.now c.parts-2.result.1.now (sym c.eq.ensures ∙ c.if-eq.true) in
    rw (← c.parts.ensures.whole, ← c.parts-2.ensures.whole) (c.eq-then-eq.ensures ∙ e)

pub returns-else-eq : goal.returns-else-eq
returns-else-eq c =
    let e = front_other c.parts.result.0.now c.parts.result.1.now c.parts-2.result.0.now c.parts-2.result.1.now (omega (arith, c.parts.ensures.one_time, c.parts-2.ensures.one_time)) (sym c.eq.ensures ∙ c.if-eq.false) in
    rw (← c.parts.ensures.whole, ← c.parts-2.ensures.whole) (c.eq.ensures ∙ e)
