use Rattle.std.proofs.Common.{◌≡◌, ◌∙◌, rules, sym}
use Rattle.gen_node.proofs.nodes.Node.with_ring.Goals as goal

pub of_part-requires-clause-ring : goal.of_part-requires-clause-ring
of_part-requires-clause-ring c =
    let same : c.height.result ≡ c.height-2.result = search rules in
    c.requires (sym c.height.ensures ∙ (same ∙ c.height-2.ensures))
