use Rattle.std.proofs.Common.{refl, sym, ◌∙◌, arith}
use Rattle.gen_types.specs.BitLaws.{bits_of-members_of}
use Rattle.gen_plan.proofs.Cuts.{sets_fit, first_of_size, one_stands, all_stand}
use Rattle.gen_plan.proofs.plans.first_of_size.Goals as goal

pub overflow_cast-bits : goal.overflow_cast-bits
overflow_cast-bits c =
    let sets = sets_fit c.args.graph.now c.generals.ensures.network c.generals.result c.generals.ensures.value in
    omega (arith, c.loop-bits-test.true, sets.0, sets.1)

pub returns-in-Some-clause-some : goal.returns-in-Some-clause-some
returns-in-Some-clause-some c =
    let sets = sets_fit c.args.graph.now c.generals.ensures.network c.generals.result c.generals.ensures.value in
    first_of_size c.args.graph.now c.generals.ensures.network c.args.count c.args.diameter c.loop-bits.bits c.from_bits-faulty.result c.from_bits-faulty.ensures
    (bits_of-members_of c.loop-bits.bits (omega (arith, c.loop-bits-test.true, sets.0, sets.1))) (rw sets.0 at c.loop-bits-test.true) c.loop-bits.invariant _
    refl (sym c.len.ensures.length ∙ c.if-len-count.false) c.in-Some.ensures.some

pub loop-bits-preserved-then-len-count : goal.loop-bits-preserved-then-len-count
loop-bits-preserved-then-len-count c =
    one_stands c.args.graph.now c.generals.ensures.network c.args.count c.args.diameter c.loop-bits.bits c.from_bits-faulty.result c.from_bits-faulty.ensures
    c.loop-bits.invariant (λ size. absurd (c.if-len-count.true (c.len.ensures.length ∙ size)))

pub loop-bits-preserved : goal.loop-bits-preserved
loop-bits-preserved c =
    one_stands c.args.graph.now c.generals.ensures.network c.args.count c.args.diameter c.loop-bits.bits c.from_bits-faulty.result c.from_bits-faulty.ensures
    c.loop-bits.invariant (λ size. c.in_default.ensures.none)

pub returns-clause-none : goal.returns-clause-none
returns-clause-none c =
    let sets = sets_fit c.args.graph.now c.generals.ensures.network c.generals.result c.generals.ensures.value in
    all_stand c.args.graph.now c.args.count c.args.diameter c.loop-bits.bits (rw sets.0 at c.loop-bits-test.false) c.loop-bits.invariant
