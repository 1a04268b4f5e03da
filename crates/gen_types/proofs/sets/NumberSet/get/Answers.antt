use Rattle.std.proofs.Common.{sym, ◌∙◌, arith}
use Rattle.gen_types.proofs.BitSteps.{counted_one, counted_none, bit_yes, bit_no, place_of, place_past}
use Rattle.gen_types.proofs.sets.NumberSet.get.Goals as goal
use Rattle.gen_types.proofs.sets.NumberSet.get.Goals.{then-self-number-eq1+else-before-index, else-self-number-eq1}

pub returns-then-before-index-clause-member : goal.returns-then-before-index-clause-member
returns-then-before-index-clause-member g c =
    rw (c.at.ensures, ← c.self.view_is) (sym (place_of c.self.inside.bits c.loop-number.number c.args.index c.loop-number-test.true (bit_yes c.self.inside.bits c.loop-number.number c.if-self-number-eq1.true) (sym c.if-before-index.true ∙ c.loop-number.invariant.2)))

pub loop-number-preserved : goal.loop-number-preserved
loop-number-preserved g c =
    let n = c.self.inside.bits in
    let i = c.loop-number.number in
    elim c.if-self-number-eq1.branch [
      | then-self-number-eq1+else-before-index w ↦ rw w.before-is (omega arith, omega arith, counted_one n i c.loop-number.before c.loop-number.invariant.2 (bit_yes n i w.if-self-number-eq1.true))
      | else-self-number-eq1 w ↦ rw w.before-is (omega arith, omega arith, counted_none n i c.loop-number.before c.loop-number.invariant.2 (bit_no n i w.if-self-number-eq1.false))
    ]

pub returns-clause-member : goal.returns-clause-member
returns-clause-member g c = rw (← c.self.view_is) (sym (place_past c.self.inside.bits c.loop-number.number c.args.index c.loop-number.before c.loop-number-test.false c.loop-number.auto.number-end c.loop-number.invariant.2 c.loop-number.invariant.1))
