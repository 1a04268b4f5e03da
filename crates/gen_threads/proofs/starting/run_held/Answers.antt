use Rattle.std.proofs.Common.{◌≡◌, ◌∙◌, None, Some, sym, ap, subst}
use Rattle.gen_tree.specs.Rings.{Ring}
use Rattle.gen_scenario.specs.Part.{Part}
use Rattle.gen_scenario.specs.Scenario.{script_of}
use Rattle.gen_threads.specs.declared.ends.GeneralEnd.{GeneralEnd}
use Rattle.gen_threads.specs.Ending.{IsEndOf}
use Rattle.gen_threads.proofs.HeldRings.{has_run_loyal, has_run_scripted}
use Rattle.gen_threads.proofs.starting.run_held.Goals as goal

pub returns-in-None : goal.returns-in-None
returns-in-None g c =
    let s = c.args.part.now.scenario in
    let me = c.args.part.now.me in
    let e : None ≡ c.part.result.now.script = c.in-None.ensures in
    let none : script_of s.scripts me ≡ None = sym (e ∙ ap (λ (k : Part). k.script) c.part.ensures.value) in
    let end = subst (λ (r : Ring). IsEndOf c.args.edges.now s me (Some r) c.run_general.result) c.into_ring-ring.ensures c.run_general.ensures.end in
    has_run_loyal c.args.edges.now s me c.args.held c.run_general.result none end

pub returns-in-Some : goal.returns-in-Some
returns-in-Some g c =
    let s = c.args.part.now.scenario in
    let me = c.args.part.now.me in
    let lines = c.in-Some.field-0.now in
    let e : Some lines ≡ c.part.result.now.script = c.in-Some.ensures in
    let some : script_of s.scripts me ≡ Some lines = sym (e ∙ ap (λ (k : Part). k.script) c.part.ensures.value) in
    has_run_scripted c.args.edges.now s me lines c.args.held c.run_general-in-Some.result c.with_ring.result some c.run_general-in-Some.ensures.end
    (ap (λ (x : GeneralEnd). x.logs) c.with_ring.ensures)
    (ap (λ (x : GeneralEnd). x.ring) c.with_ring.ensures ∙ ap (λ (r : Ring). Some r) c.into_ring-ring.ensures)
