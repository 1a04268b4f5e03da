use Rattle.std.proofs.Common.{◌≡◌, ◌∙◌, ap, arith}
use Rattle.gen_net.specs.Network.{Network}
use Rattle.gen_scenario.specs.Trees.{general_tree}
use Rattle.gen_scenario.proofs.TreeRows.{trees_more}
use Rattle.gen_scenario.proofs.signed.Scenario.of_plan.Goals as goal

pub generals-preserved : goal.generals-preserved
generals-preserved c = trees_more (general_tree c.args.plan.master c.height-height.result) c.generals.number _ _ _ c.generals.invariant c.in_ok-push.ensures.items (rw (c.general_seed-seed.ensures, c.at.ensures, c.master.ensures) at c.in_ok-tree.ensures)

pub of_trees-requires : goal.of_trees-requires
of_trees-requires c =
    let n : c.generals.number ≡ c.args.plan.net.generals = omega (arith, c.generals-test.false, c.generals.auto.number-end, c.generals-generals.ensures.value ∙ ap (λ (w : Network). w.generals) c.net.ensures) in
    rw (c.height-height.ensures, c.version.ensures, n) at c.generals.invariant
