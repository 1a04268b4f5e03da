use Rattle.std.proofs.Common.{ℕ, refl, subst, arith}
use Rattle.std.proofs.lemmas.Grind.{common_steps}
use Rattle.gen_walks.specs.Walks.{IsPair, Bridges}
use Rattle.gen_walks.proofs.Bridged.{bound_of, within_of, least_bad}
use Rattle.gen_walks.proofs.Places.{held_up_to, told_otherwise}
use Rattle.gen_walks.proofs.diameter.check_walks.Goals as goal

pub returns-then-not-is_bridged-clause-err : goal.returns-then-not-is_bridged-clause-err
returns-then-not-is_bridged-clause-err c =
    least_bad c.args.net.now c.args.rest.now c.args.walks.now c.at-a.result c.at-b.result
    (λ x y l p. c.loop-number.invariant x y (omega (arith, l, c.at-a.ensures)) p)
    (c.if-is_pair.ensures.0 refl, λ bridged. told_otherwise (c.if-not-is_bridged.ensures.1 bridged))
    (λ y below p. c.loop-other.invariant y (omega (arith, below, c.at-b.ensures)) p)

pub loop-other-preserved : goal.loop-other-preserved
loop-other-preserved c =
    let P : ℕ → Type 0 = λ y. IsPair c.args.net.now c.args.rest.now c.at-a.result y → Bridges c.args.net.now c.args.rest.now c.args.walks.now c.at-a.result y in
    let good : P c.at-b.result = grind (arith, common_steps) in
    held_up_to P c.loop-other.other c.loop-other.invariant (subst P c.at-b.ensures good)

pub loop-number-preserved : goal.loop-number-preserved
loop-number-preserved c =
    let P : ℕ → Type 0 = λ x. (y : ℕ) → IsPair c.args.net.now c.args.rest.now x y → Bridges c.args.net.now c.args.rest.now c.args.walks.now x y in
    let here : P c.at-a.result = λ y p. c.loop-other.invariant y (omega (arith, p.1.1.0)) p in
    λ x y l p. held_up_to P c.loop-number.number (λ z m w q. c.loop-number.invariant z w m q) (subst P c.at-a.ensures here) x l y p

pub invariant_of-result : goal.invariant_of-result
invariant_of-result c =
    rw (c.of.ensures, c.of-2.ensures) (within_of c.args.net.now c.args.rest.now c.args.walks.now (bound_of c.args.net.now c.args.rest.now c.args.walks.now c.loop-number.number (omega (arith, c.loop-number-test.false, c.generals-number-end.ensures.value)) c.loop-number.invariant))
