use Rattle.std.proofs.Common.{◌≡◌, arith}
use Rattle.gen_types.specs.Bits.{members_of}
use Rattle.gen_types.specs.BitLaws.{members_ascending, members_has}
use Rattle.gen_types.proofs.BitSteps.{counted_one, counted_none, bit_yes, bit_no}
use Rattle.gen_types.proofs.sets.NumberSet.len.Goals as goal
use Rattle.gen_types.proofs.sets.NumberSet.len.Goals.{then-self-number-eq1, else-self-number-eq1}

pub loop-number-preserved : goal.loop-number-preserved
loop-number-preserved g c =
    let n = c.self.inside.bits in
    let i = c.loop-number.number in
    elim c.if-self-number-eq1.branch [
      | then-self-number-eq1 w ↦ rw w.count-is (omega arith, counted_one n i c.loop-number.count c.loop-number.invariant.1 (bit_yes n i w.if-self-number-eq1.true))
      | else-self-number-eq1 w ↦ rw w.count-is (omega arith, counted_none n i c.loop-number.count c.loop-number.invariant.1 (bit_no n i w.if-self-number-eq1.false))
    ]

pub returns-clause-length : goal.returns-clause-length
unfolding members_of
returns-clause-length g c =
    let e : c.loop-number.number ≡ 16 = omega arith in
    rw (← c.self.view_is) (rw e at c.loop-number.invariant.1)

pub returns-clause-ascending : goal.returns-clause-ascending
returns-clause-ascending g c = rw (← c.self.view_is) (members_ascending c.self.inside.bits)

pub returns-clause-below : goal.returns-clause-below
returns-clause-below g c = rw (← c.self.view_is) (λ v h. (members_has c.self.inside.bits v h).0)
