use Rattle.std.proofs.Common.{◌≡◌, sym, ap, ◌∙◌, Some, None}
use Rattle.std.proofs.lemmas.List.{nil_from_length}
use Rattle.gen_net.specs.Header.{height_of}
use Rattle.gen_tree.specs.Rings.{KeyTree}
use Rattle.gen_scenario.specs.SignerTrees.{seed_in, seed_under, tree_in}
use Rattle.gen_general.proofs.SignerSteps.{tree_here, tree_later, tree_nowhere}
use Rattle.gen_general.proofs.signers.tree_of.Goals as goal

pub returns-then-eq : goal.returns-then-eq
returns-then-eq c =
    let tree = c.in-Some.signer.now.tree in
    let found : tree_in c.args.trees.now c.args.general ≡ Some tree = sym c.rest.invariant ∙ tree_here c.args.general c.rest.rest.now c.in-Some.others.now c.in-Some.signer.now c.in-Some.ensures.cases.0 (sym c.eq.ensures ∙ c.if-eq.true) in
    let both : Some c.requires.tree ≡ Some tree = sym c.requires.found ∙ found in
    let same : c.requires.tree ≡ tree = cc in
    let seed : tree.seed ≡ seed_in c.args.trees.now c.args.general = sym (ap seed_under found) in
    let height : tree.height ≡ height_of c.args.header.now = sym (ap (λ (t : KeyTree). t.height) same) ∙ c.requires.height in
    λ i. record { seed = seed i; height = height i }

pub rest-preserved : goal.rest-preserved
rest-preserved c = sym (tree_later c.args.general c.rest.rest.now c.in-Some.others.now c.in-Some.signer.now c.in-Some.ensures.cases.0 (sym c.eq.ensures ∙ c.if-eq.false)) ∙ c.rest.invariant

pub unreachable-requires : goal.unreachable-requires
unreachable-requires c =
    let none = tree_nowhere c.args.general c.rest.rest.now (nil_from_length _ c.in_default.ensures.cases) in
    let found : None ≡ Some c.requires.tree = sym none ∙ c.rest.invariant ∙ c.requires.found in
    absurd cc
