use Rattle.std.proofs.Common.{◌≡◌, ◌∙◌, List, ap, sym, subst, arith}
use Rattle.std.specs.Prelude.{Option}
use Rattle.gen_tree.specs.Rings.{Ring}
use Rattle.gen_net.specs.Header.{RunHeader}
use Rattle.gen_net.specs.Network.{rounds}
use Rattle.gen_log.specs.declared.entries.Entry.{Entry}
use Rattle.gen_general.specs.DrivenRecords.{RecordsAfter, written_until}
use Rattle.gen_general.specs.Recording.{RingSealed}
use Rattle.gen_scenario.specs.Scenario.{header_of}
use Rattle.gen_scenario.specs.WorldLogs.{entries_after, middle_of}
use Rattle.gen_general.proofs.Recorders.{all_rounds, logs_by, until_more, until_none}
use Rattle.gen_threads.specs.Edges.{HaveCarried}
use Rattle.gen_threads.specs.Ending.{RingComesBack}
use Rattle.gen_threads.specs.Rings.{HasSpentOnSigns}
use Rattle.gen_threads.proofs.Ending.{carried_passes}
use Rattle.gen_threads.proofs.Rings.{ring_same, ring_sealed, ring_then, signed_none, signed_then, spent_on_logs}
use Rattle.gen_threads.proofs.Started.{started}
use Rattle.gen_threads.proofs.running.run_to_end.Goals as goal

pub returns-in_default-clause-passes : goal.returns-in_default-clause-passes
returns-in_default-clause-passes g c =
    carried_passes c.args.edges.now c.args.part.now.scenario 0 c.args.part.now.me c.args.puts.now.items c.args.takes.now.items c.requires.passes

pub returns-in-Err-clause-passes : goal.returns-in-Err-clause-passes
returns-in-Err-clause-passes g c =
    carried_passes c.args.edges.now c.args.part.now.scenario 0 c.args.part.now.me c.args.puts.now.items c.args.takes.now.items c.requires.passes

pub rounds-init : goal.rounds-init
rounds-init g c =
    let s = c.args.part.now.scenario in let me = c.args.part.now.me in let r = c.in-Ok-new.recorder.standing.ring in
    record {
      records = (rw c.in-Ok-new.is at (started c.args.part.now.scenario c.args.part.now.me c.args.ring c.part.ensures.lawful.lawful c.requires.ring.1 c.in-Ok.known (c.in-Ok.ensures.cases ∙ c.part.ensures.value) c.new.result c.new.ensures.ok c.new.ensures.err)).0;
      carried = c.requires.passes;
      ring = ring_same (header_of s) r;
      signed = subst (λ (es : List Entry). HasSpentOnSigns s me es r r) (until_none s me) (signed_none s me r);
    }

pub rounds-preserved : goal.rounds-preserved
rounds-preserved g c =
    let s = c.args.part.now.scenario in let me = c.args.part.now.me in
    let first = c.in-Ok-new.recorder.standing.ring in let old = c.rounds.recorder.standing.ring in let new = c.run_round.new.recorder.standing.ring in
    record {
      records = c.in_default-run_round.ensures.records;
      carried = c.in_default-run_round.ensures.carried;
      ring = ring_then (header_of s) first old new c.rounds.invariant.ring c.run_round.ensures.ring;
      signed = subst (λ (es : List Entry). HasSpentOnSigns s me es first new) (until_more s c.rounds.gone me)
          (signed_then s me (written_until s c.rounds.gone me) (entries_after s me c.rounds.gone) first old new c.rounds.invariant.signed c.in_default-run_round.ensures.signed);
    }

pub returns-in-Err-run_round-clause-ring : goal.returns-in-Err-run_round-clause-ring
returns-in-Err-run_round-clause-ring g c =
    let s = c.args.part.now.scenario in let h = header_of s in
    let new = c.run_round.new.recorder.standing.ring in
    let same = (rw c.in-Ok-new.is at (started c.args.part.now.scenario c.args.part.now.me c.args.ring c.part.ensures.lawful.lawful c.requires.ring.1 c.in-Ok.known (c.in-Ok.ensures.cases ∙ c.part.ensures.value) c.new.result c.new.ensures.ok c.new.ensures.err)).1 in
    let back = ring_then h c.in-Ok-new.recorder.standing.ring c.rounds.recorder.standing.ring new c.rounds.invariant.ring c.run_round.ensures.ring in
    subst (λ (ring : Option Ring). RingComesBack h c.args.ring ring) (sym c.close.ensures) (subst (λ (ring : Option Ring). RingComesBack h ring new) same back)

pub returns-in-Ok-finish-clause-ring : goal.returns-in-Ok-finish-clause-ring
returns-in-Ok-finish-clause-ring g c =
    let s = c.args.part.now.scenario in let h = header_of s in
    let last_ring = c.rounds.recorder.standing.ring in
    let same = (rw c.in-Ok-new.is at (started c.args.part.now.scenario c.args.part.now.me c.args.ring c.part.ensures.lawful.lawful c.requires.ring.1 c.in-Ok.known (c.in-Ok.ensures.cases ∙ c.part.ensures.value) c.new.result c.new.ensures.ok c.new.ensures.err)).1 in
    let ran = subst (λ (ring : Option Ring). RingComesBack h ring last_ring) same c.rounds.invariant.ring in
    let closed = subst (λ (x : RunHeader). RingSealed x last_ring c.in-Ok-finish.end.ring) c.rounds.invariant.records.standing.part.header c.in-Ok-finish.ensures.ring in
    ring_then h c.args.ring last_ring c.in-Ok-finish.end.ring ran (ring_sealed h last_ring c.in-Ok-finish.end.ring closed)

pub returns-in-Ok-finish-clause-logs : goal.returns-in-Ok-finish-clause-logs
returns-in-Ok-finish-clause-logs g c =
    let s = c.args.part.now.scenario in
    let last : c.rounds-gone-end.result ≡ rounds s.net = rw (c.net.ensures.value, c.header.ensures.value, c.part-3.ensures.value) at c.rounds-gone-end.ensures.value in
    let all : c.rounds.gone ≡ rounds s.net = omega (arith, last, c.rounds-test.false, c.rounds.auto.gone-end) in
    let records = subst (λ k. RecordsAfter s k c.args.part.now.me c.rounds.recorder) all c.rounds.invariant.records in
    c.in-Ok-finish.ensures.logs ∙ logs_by s c.args.part.now.me c.rounds.recorder records

pub returns-in-Ok-finish-clause-spent : goal.returns-in-Ok-finish-clause-spent
returns-in-Ok-finish-clause-spent g c =
    let s = c.args.part.now.scenario in let h = header_of s in let me = c.args.part.now.me in
    let last_ring = c.rounds.recorder.standing.ring in
    let last : c.rounds-gone-end.result ≡ rounds s.net = rw (c.net.ensures.value, c.header.ensures.value, c.part-3.ensures.value) at c.rounds-gone-end.ensures.value in
    let all : c.rounds.gone ≡ rounds s.net = omega (arith, last, c.rounds-test.false, c.rounds.auto.gone-end) in
    let records = subst (λ k. RecordsAfter s k c.args.part.now.me c.rounds.recorder) all c.rounds.invariant.records in
    let same = (rw c.in-Ok-new.is at (started c.args.part.now.scenario c.args.part.now.me c.args.ring c.part.ensures.lawful.lawful c.requires.ring.1 c.in-Ok.known (c.in-Ok.ensures.cases ∙ c.part.ensures.value) c.new.result c.new.ensures.ok c.new.ensures.err)).1 in
    let ran = subst (λ (ring : Option Ring). RingComesBack h ring last_ring) same c.rounds.invariant.ring in
    let closed = subst (λ (x : RunHeader). RingSealed x last_ring c.in-Ok-finish.end.ring) records.standing.part.header c.in-Ok-finish.ensures.ring in
    let back = ring_then h c.args.ring last_ring c.in-Ok-finish.end.ring ran (ring_sealed h last_ring c.in-Ok-finish.end.ring closed) in
    let wrote = subst (λ (es : List Entry). HasSpentOnSigns s me es c.in-Ok-new.recorder.standing.ring last_ring) (ap (λ k. written_until s k me) all ∙ all_rounds s me) c.rounds.invariant.signed in
    let signed = subst (λ (ring : Option Ring). HasSpentOnSigns s me (middle_of s me) ring last_ring) same wrote in
    spent_on_logs s me c.args.ring last_ring c.in-Ok-finish.end.ring c.requires.ring back signed closed

pub returns-in-Ok-finish-clause-carried : goal.returns-in-Ok-finish-clause-carried
returns-in-Ok-finish-clause-carried g c =
    let s = c.args.part.now.scenario in
    let last : c.rounds-gone-end.result ≡ rounds s.net = rw (c.net.ensures.value, c.header.ensures.value, c.part-3.ensures.value) at c.rounds-gone-end.ensures.value in
    let all : c.rounds.gone ≡ rounds s.net = omega (arith, last, c.rounds-test.false, c.rounds.auto.gone-end) in
    let records = subst (λ k. RecordsAfter s k c.args.part.now.me c.rounds.recorder) all c.rounds.invariant.records in
    subst (λ k. HaveCarried c.args.edges.now s k c.args.part.now.me c.rounds.puts.items c.rounds.takes.items) all c.rounds.invariant.carried

pub returns-in-Ok-finish-clause-passes : goal.returns-in-Ok-finish-clause-passes
returns-in-Ok-finish-clause-passes g c =
    carried_passes c.args.edges.now c.args.part.now.scenario c.rounds.gone c.args.part.now.me c.rounds.puts.items c.rounds.takes.items c.rounds.invariant.carried

pub returns-in-Err-finish-clause-passes : goal.returns-in-Err-finish-clause-passes
returns-in-Err-finish-clause-passes g c =
    carried_passes c.args.edges.now c.args.part.now.scenario c.rounds.gone c.args.part.now.me c.rounds.puts.items c.rounds.takes.items c.rounds.invariant.carried
