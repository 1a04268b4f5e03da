use Rattle.std.proofs.Common.{◌∙◌, sym, subst}
use Rattle.std.specs.Prelude.{Option}
use Rattle.gen_tree.specs.Rings.{Ring}
use Rattle.gen_scenario.specs.Scenario.{header_of}
use Rattle.gen_scenario.specs.WorldLogs.{entries_after}
use Rattle.gen_general.proofs.Recorders.{begins}
use Rattle.gen_threads.specs.Ending.{RingComesBack}
use Rattle.gen_threads.specs.Rings.{HasSpentOnSigns}
use Rattle.gen_threads.proofs.Ending.{carried_passes}
use Rattle.gen_threads.proofs.Rings.{ring_begun, signed_round, where_ok}
use Rattle.gen_threads.proofs.rounds.run_round.Goals as goal

pub returns-in_err-begin_round-clause-passes : goal.returns-in_err-begin_round-clause-passes
returns-in_err-begin_round-clause-passes g c =
    carried_passes c.args.edges.now c.args.part.now.scenario c.args.gone c.args.part.now.me c.args.puts.now.items c.args.takes.now.items c.requires.passes

pub put_all-requires-clause-begun : goal.put_all-requires-clause-begun
put_all-requires-clause-begun g c =
    begins c.args.part.now.scenario c.args.gone c.args.part.now.me c.args.recorder.now c.begin_round.new.self c.requires.records c.in_ok-begin_round.ensures.ok

pub returns-in_err-put_all-clause-passes : goal.returns-in_err-put_all-clause-passes
returns-in_err-put_all-clause-passes g c = record {
  putting = c.put_all.ensures.passes;
  taking = (carried_passes c.args.edges.now c.args.part.now.scenario c.args.gone c.args.part.now.me c.args.puts.now.items c.args.takes.now.items c.requires.passes).taking;
}

pub returns-in_err-put_all-clause-ring : goal.returns-in_err-put_all-clause-ring
returns-in_err-put_all-clause-ring g c =
    let s = c.args.part.now.scenario in let p = c.args.recorder.now in
    let begun = ring_begun s c.part-lawful.ensures.lawful.lawful p.standing c.requires.records.standing.part.header p.standing.ring c.begin_round.new.self.standing.ring c.in_ok-begin_round.ensures.ok.standing.ring in
    subst (λ (ring : Option Ring). RingComesBack (header_of s) p.standing.ring ring) (sym c.put_all.ensures.ring) begun

pub returns-clause-ring : goal.returns-clause-ring
returns-clause-ring g c =
    let s = c.args.part.now.scenario in let p = c.args.recorder.now in
    let begun = ring_begun s c.part-lawful.ensures.lawful.lawful p.standing c.requires.records.standing.part.header p.standing.ring c.begin_round.new.self.standing.ring c.in_ok-begin_round.ensures.ok.standing.ring in
    subst (λ (ring : Option Ring). RingComesBack (header_of s) p.standing.ring ring) (sym (c.take_all.ensures.ring ∙ c.put_all.ensures.ring)) begun

pub returns-clause-signed : goal.returns-clause-signed
returns-clause-signed g c =
    let s = c.args.part.now.scenario in let p = c.args.recorder.now in let me = c.args.part.now.me in
    let begun = signed_round s c.args.gone me p.standing c.requires.records.standing p.standing.ring c.begin_round.new.self.standing.ring c.in_ok-begin_round.ensures.ok.standing.ring in
    where_ok (HasSpentOnSigns s me (entries_after s me c.args.gone) p.standing.ring c.take_all.new.recorder.standing.ring) c.take_all.result
    (subst (λ (ring : Option Ring). HasSpentOnSigns s me (entries_after s me c.args.gone) p.standing.ring ring) (sym (c.take_all.ensures.ring ∙ c.put_all.ensures.ring)) begun)
