use Rattle.std.proofs.Common.{◌≡◌, ◌++◌, ◌∷◌, [], ℕ, List, map, arith, ap, ◌∙◌}
use Rattle.std.specs.List.{range_with_len}
use Rattle.std.proofs.lemmas.List.{take_all}
use Rattle.gen_types.specs.Bits.{bits_of}
use Rattle.gen_net.specs.Header.{RunHeader, run_id_of}
use Rattle.gen_net.specs.Network.{Network}
use Rattle.gen_scenario.specs.declared.scenario.Decision.{Decision}
use Rattle.gen_match.specs.declared.finding.Finding.{Finding}
use Rattle.gen_convict.specs.declared.evidence.Evidence as found
use Rattle.gen_convict.specs.Evidence.{told_of}
use Rattle.gen_audit.specs.Bundle.{Bundle}
use Rattle.gen_audit.specs.declared.verdicts.Verdict.{Verdict}
use Rattle.gen_facts.specs.declared.fact.Fact.{Fact}
use Rattle.gen_facts.specs.declared.statuses.Status.{Status}
use Rattle.gen_facts.specs.Facts.{about, agreed_order, conviction_fact, decision_fact, finding_fact, no_fact, run_fact, status_fact, verdict_number}
use Rattle.gen_facts.specs.Statuses.{status_number, status_of}
use Rattle.gen_facts.proofs.Appending.{in_order, pushed}
use Rattle.gen_facts.proofs.runs.push_run_facts.Goals as goal

pub loop-number-preserved : goal.loop-number-preserved
loop-number-preserved c =
    let run = c.args.run in
    let faulty = c.faulty-faulty.result.now in
    let findings = c.findings-findings.result.now in
    let convictions = map told_of c.as_slice-convictions.result.now in
    let status : ℕ → Status = λ g. status_of faulty findings convictions g in
    let told : c.about.result ≡ status_fact run faulty findings convictions c.loop-number.number =
    c.about.ensures ∙ ap (λ n. about 2 run c.at-general.result n) (c.number.ensures ∙ ap status_number c.status_of-status.ensures)
    ∙ ap (λ g. about 2 run g (status_number (status g))) c.at-general.ensures in
    pushed (status_fact run faulty findings convictions) c.loop-number.number c.push.new.self.items c.loop-number.facts.items
    c.push-in-loop-number.new.self.items c.about.result c.loop-number.invariant c.in_ok-push-2.ensures.items told

-- the run as a whole, by its parts
by_parts : (run : ℕ) (b : Bundle) (v : Verdict) (number order generals traitors set : ℕ) (id : List ℕ)
    → number ≡ verdict_number v → order ≡ agreed_order v → generals ≡ b.header.network.generals → traitors ≡ b.header.network.traitors
    → set ≡ bits_of b.faulty → id ≡ run_id_of b.header
    → record no_fact { kind = 1; run = run; number = number; order = order; generals = generals; traitors = traitors; set = set; run_id = id } ≡ run_fact run b v
by_parts run b v number order generals traitors set id is_number is_order are_generals are_traitors is_set is_id =
    λ i. record no_fact { kind = 1; run = run; number = is_number i; order = is_order i; generals = are_generals i; traitors = are_traitors i; set = is_set i; run_id = is_id i }

pub returns : goal.returns
returns c =
    let run = c.args.run in
    let b = c.args.bundle.now in
    let v = c.args.judgement.now.verdict in
    let header = c.header-header.ensures.value in
    let whole = by_parts run b v c.parts-number.result.0 c.parts-number.result.1 c.from.result c.from-2.result c.from-3.result c.run_id.result.now
    c.parts-number.ensures.number c.parts-number.ensures.order
    (c.from.ensures ∙ c.generals.ensures.value ∙ ap (λ (net : Network). net.generals) c.net.ensures.value ∙ ap (λ (h : RunHeader). h.network.generals) header)
    (c.from-2.ensures ∙ c.traitors.ensures ∙ ap (λ (net : Network). net.traitors) c.net-2.ensures.value ∙ ap (λ (h : RunHeader). h.network.traitors) header)
    (c.from-3.ensures ∙ c.bits.ensures ∙ ap bits_of c.faulty-faulty.ensures)
    (c.run_id.ensures ∙ ap run_id_of header) in
    let generals : c.generals-number-end.result ≡ b.header.network.generals =
    c.generals-number-end.ensures.value ∙ ap (λ (net : Network). net.generals) c.net-3.ensures.value ∙ ap (λ (h : RunHeader). h.network.generals) header in
    let all : c.loop-number.number ≡ b.header.network.generals = omega (arith, c.loop-number-test.false, generals) in
    let findings = c.findings-findings.ensures in
    let convictions = c.as_slice-convictions.ensures.value in
    in_order (run_fact run b v) c.args.facts.now.items c.push.new.self.items c.loop-number.facts.items c.loop-decision.facts.items
    c.loop-finding.facts.items c.loop-evidence.facts.items _ _ _ _
    (c.in_ok-push.ensures.items ∙ ap (λ (f : Fact). c.args.facts.now.items ++ f ∷ []) whole)
    (c.loop-number.invariant ∙ (λ i. c.push.new.self.items ++ map (status_fact run (c.faulty-faulty.ensures i) (findings i) (map told_of (convictions i))) (range_with_len 0 (all i))))
    (c.loop-decision.invariant ∙ ap (λ (ds : List Decision). c.loop-number.facts.items ++ map (decision_fact run) ds) (take_all c.loop-decision.decision-index _ c.loop-decision-test.false ∙ c.parts-number.ensures.decisions))
    (c.loop-finding.invariant ∙ ap (λ (fs : List Finding). c.loop-decision.facts.items ++ map (finding_fact run) fs) (take_all c.loop-finding.finding-index _ c.loop-finding-test.false ∙ findings))
    (c.loop-evidence.invariant ∙ ap (λ (es : List found.Evidence). c.loop-finding.facts.items ++ map (conviction_fact run) (map told_of es)) (take_all c.loop-evidence.evidence-index _ c.loop-evidence-test.false ∙ convictions))
