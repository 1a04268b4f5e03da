use Rattle.std.proofs.Common.{◌≡◌, ◌<◌, ◌∙◌, map, ap, sym, arith, length}
use Rattle.gen_enrolling.specs.Admitted.{RunTold, told_run}
use Rattle.sm_embed.specs.RunFacts.{facts_at, run_facts}
use Rattle.sm_embed.proofs.Telling.{grown, told_at}
use Rattle.sm_embed.proofs.run_facts.push_runs.Goals as goal

pub places-preserved : goal.places-preserved
places-preserved c =
    let runs = map told_run c.args.runs.now in
    let place = c.places.place in
    let few : place < length c.args.runs.now = omega (arith, c.places-test.true, c.min-few.ensures) in
    let is = told_at c.args.runs.now place _ few ∙ ap told_run (sym c.index-runs-place.is) in
    let here : run_facts place c.index-runs-place.result.number c.args.system.now c.deref.result.now ≡ facts_at c.args.system.now runs place
    = rw c.deref.ensures.value (sym (ap (λ (r : RunTold). run_facts place r.number c.args.system.now r.nodes) is)) in
    grown (facts_at c.args.system.now runs) place c.args.facts.now.items c.places.facts.items c.push_run.new.facts.items _ c.places.invariant c.in_ok-push_run.ensures here
