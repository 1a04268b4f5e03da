use Rattle.std.proofs.Common.{◌≡◌, ◌∙◌, ◌≤◌, sym, ap, subst, map}
use Rattle.std.proofs.lemmas.List.{take_all}
use Rattle.gen_net.specs.declared.version.Version.{Version}
use Rattle.gen_net.specs.Network.{Network}
use Rattle.gen_net.specs.Version.{greatest_slot, height_in, slot_in}
use Rattle.gen_scenario.specs.Trees.{root_over}
use Rattle.gen_scenario.proofs.TreeRows.{roots_are, roots_count}
use Rattle.gen_scenario.proofs.signed.Scenario.of_trees.Goals as goal

pub header_over-header-requires-clause-slot : goal.header_over-header-requires-clause-slot
header_over-header-requires-clause-slot c =
    subst (λ (v : Version). slot_in v ≤ greatest_slot) (sym c.version.ensures) c.scripts-lawful.ensures.lawful.slot

pub header_over-header-requires-clause-one_each : goal.header_over-header-requires-clause-one_each
header_over-header-requires-clause-one_each c =
    let p = c.args.plan in
    let same : c.in_ok-net.net ≡ p.net = c.in_ok-net.ensures.cases ∙ c.net.ensures in
    roots_count p.master (height_in p.version) p.net.generals c.args.trees.items c.trees.roots.items c.requires
    (c.trees.invariant ∙ ap (map root_over) (take_all c.trees.tree-index c.as_slice-tree-items.result.now c.trees-test.false ∙ c.as_slice-tree-items.ensures.value))
    ∙ sym (ap (λ (n : Network). n.generals) same)

pub invariant_of-result : goal.invariant_of-result
invariant_of-result c =
    let p = c.args.plan in
    let same : c.in_ok-net.net ≡ p.net = c.in_ok-net.ensures.cases ∙ c.net.ensures in
    let roots = roots_are p.master (height_in p.version) p.net.generals c.args.trees.items c.trees.roots.items c.requires
    (c.trees.invariant ∙ ap (map root_over) (take_all c.trees.tree-index c.as_slice-tree-items.result.now c.trees-test.false ∙ c.as_slice-tree-items.ensures.value)) in
    record {
      header = c.header_over-header.ensures ∙ (λ i. record { version = c.version.ensures i; network = same i; roots = roots i });
      trees = c.requires;
    }
