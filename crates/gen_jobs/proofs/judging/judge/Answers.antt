use Rattle.std.proofs.lemmas.Result.{err_from_is_err_and}
use Rattle.std.proofs.Common.{rules, ◌≡◌, subst}
use Rattle.std.specs.Prelude.{Option, option_map}
use Rattle.gen_json.specs.OriginData.{Origin}
use Rattle.gen_judging.specs.Origins.{nothing_asked, origin_in}
use Rattle.gen_jobs.specs.Judging.{JudgesRunAs}
use Rattle.gen_jobs.proofs.judging.judge.Goals as goal

pub told_judgement-requires-clause-run : goal.told_judgement-requires-clause-run
told_judgement-requires-clause-run g c = c.in_ok-bundle.ensures.0

pub told_judgement-requires-clause-judged : goal.told_judgement-requires-clause-judged
told_judgement-requires-clause-judged g c = c.in_ok-bundle.ensures.1

pub returns-clause-answer : goal.returns-clause-answer
returns-clause-answer g c =
    let s = c.in_ok-scenario.scenario in
    let o = c.in_ok-output in
    let is_origin : c.in_ok-origin.origin ≡ origin_in c.args.form (option_map (λ t. t.now) c.args.name) nothing_asked c.args.input.now = search rules in
    record {
      scenario = s;
      spelled = c.in_ok-scenario.ensures.found;
      judges = subst (λ (x : Option Origin). JudgesRunAs x c.args.strict s o.output.text.items o.output.negative) is_origin o.ensures;
    }

pub returns-in_err-output-clause-fault : goal.returns-in_err-output-clause-fault
returns-in_err-output-clause-fault g c =
    let p = err_from_is_err_and c.from_residual-in_err-output.result c.from_residual-in_err-output.ensures.1 in
    rw (p.1, p.2) tt
