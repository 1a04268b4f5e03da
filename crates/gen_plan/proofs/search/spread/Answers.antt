use Rattle.std.proofs.Common.{Contains, refl, sym, subst, arith}
use Rattle.gen_types.specs.Ascending.{IsListOf}
use Rattle.gen_plan.specs.Loops.Search.{IsStep}
use Rattle.gen_plan.proofs.Joined.{no_steps, stepped, step_more, step_passed, all_steps}
use Rattle.gen_plan.proofs.Told.{told_otherwise}
use Rattle.gen_plan.proofs.search.spread.Goals as goal
use Rattle.gen_plan.proofs.search.spread.Goals.{then-contains+then-not-contains, else-contains, else-contains-via-then-contains+else-not-contains, else-contains-via-else-contains}

pub loop-number-init : goal.loop-number-init
loop-number-init c = no_steps c.args.graph.now c.args.faulty.now c.args.set.now c.new-steps.result c.new-steps.ensures

pub loop-number-preserved : goal.loop-number-preserved
loop-number-preserved c =
    let net = c.args.graph.now in
    let faulty = c.args.faulty.now in
    let set = c.args.set.now in
    elim c.if-contains.branch [
      | then-contains+then-not-contains w ↦ rw w.steps-is (step_more net faulty set c.loop-number.steps w.neighbours.result w.either-steps.result c.loop-number.number
          c.loop-number.invariant
          (subst (λ via. IsListOf w.neighbours.result (λ a. IsStep net faulty set a via)) c.at-via.ensures
          (stepped net faulty set w.neighbours.result c.at-via.result w.neighbours.ensures (w.if-contains.ensures.0 refl) (λ h. told_otherwise (w.if-not-contains.ensures.1 h))))
          w.either-steps.ensures)
      | else-contains w ↦ rw w.steps-is (step_passed net faulty set c.loop-number.steps c.loop-number.number c.loop-number.invariant (λ a step.
          elim w.else-contains.branch [
            | else-contains-via-then-contains+else-not-contains v ↦ step.loyal (subst (Contains faulty) c.at-via.ensures (v.if-not-contains.ensures.0 refl))
            | else-contains-via-else-contains v ↦ told_otherwise (v.if-contains.ensures.1 (subst (Contains set) (sym c.at-via.ensures) step.member))
          ]))
    ]

pub returns-clause-wider : goal.returns-clause-wider
returns-clause-wider c =
    all_steps c.args.graph.now c.generals-number-end.ensures.network c.args.faulty.now c.args.set.now c.loop-number.steps c.either.result c.loop-number.number
    (omega (arith, c.loop-number-test.false, c.generals-number-end.ensures.value)) c.loop-number.invariant c.either.ensures
