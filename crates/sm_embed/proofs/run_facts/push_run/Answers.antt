use Rattle.std.proofs.Common.{◌≡◌, ◌<◌, ◌∙◌, ℕ, ap, arith, length}
use Rattle.std.specs.Prelude.{slice_index_or}
use Rattle.gen_facts.specs.declared.fact.Fact.{Fact}
use Rattle.gen_facts.proofs.Appending.{pushed}
use Rattle.sm_embed.specs.RunFacts.{node_fact}
use Rattle.sm_embed.proofs.Telling.{at_any}
use Rattle.sm_embed.proofs.run_facts.push_run.Goals as goal

pub generals-preserved : goal.generals-preserved
generals-preserved c =
    let nodes = c.args.nodes.now in
    let general = c.generals.general in
    let f : ℕ → Fact = λ g. node_fact c.args.run g (slice_index_or nodes g 0) in
    let few : general < length nodes = omega (arith, c.generals-test.true, c.min-few.ensures) in
    let read : c.node_fact.result ≡ node_fact c.args.run general (slice_index_or nodes general c.index-nodes-from.result)
    = rw (c.at.ensures, c.index-nodes-from.is, c.from-in-generals.ensures) at c.node_fact.ensures in
    let told : c.node_fact.result ≡ f general = read ∙ ap (node_fact c.args.run general) (at_any nodes general c.index-nodes-from.result few) in
    pushed f general c.push.new.self.items c.generals.facts.items c.push-in-generals.new.self.items c.node_fact.result c.generals.invariant c.in_ok-push-2.ensures.items told
