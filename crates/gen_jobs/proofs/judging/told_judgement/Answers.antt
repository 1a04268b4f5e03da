use Rattle.std.proofs.Common.{rules, ◌≡◌, ◌∙◌, ap}
use Rattle.gen_net.specs.Header.{RunHeader}
use Rattle.gen_plan.specs.EqualRoots.{equal_roots}
use Rattle.gen_scenario.specs.Scenario.{header_of, scripted}
use Rattle.gen_judging.specs.Asking.{counted_text, counts_as_no, has_few}
use Rattle.gen_jobs.proofs.JudgedRuns.{judged_of}
use Rattle.gen_jobs.proofs.judging.told_judgement.Goals as goal

pub returns : goal.returns
returns c =
    let s = c.args.scenario.now in
    let o = c.in_ok-output in
    let said = o.output.text.items in
    let no = o.output.negative in
    let is_net : c.net-net.result.now ≡ s.net = c.net-net.ensures.value ∙ ap (λ (h : RunHeader). h.network) c.header-header.ensures.value in
    let is_faulty : c.scripted-faulty.result ≡ scripted s.scripts = search rules in
    let few : c.has_few-few.result ≡ has_few s.net (scripted s.scripts) = c.has_few-few.ensures ∙ (λ i. has_few (is_net i) (is_faulty i)) in
    let shared : c.deref.result.now ≡ equal_roots (header_of s) = c.deref.ensures.value ∙ c.in_ok-shared.ensures ∙ ap equal_roots c.header-header.ensures.value in
    let counted = c.in_ok-counted in
    record {
      said = said;
      no = no;
      is_said = judged_of c.args.origin.now s c.args.bundle.now c.args.judgement.now said no c.requires.run c.requires.judged o.ensures.text o.ensures.negative;
      text_is = counted.ensures.text ∙ ap (counted_text c.args.origin.now c.args.strict said) shared;
      negative_is = counted.ensures.negative ∙ (λ i. counts_as_no c.args.strict no (few i) (shared i));
    }
