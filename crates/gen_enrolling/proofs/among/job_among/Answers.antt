use Rattle.std.proofs.Common.{◌≡◌, ◌∙◌, ap}
use Rattle.std.specs.Prelude.{option_map}
use Rattle.gen_enrolling.specs.Among.{ids_of, with_runs}
use Rattle.gen_enrolling.specs.Asking.{asked_by}
use Rattle.gen_enrolling.proofs.among.job_among.Goals as goal

pub returns-clause-asked : goal.returns-clause-asked
returns-clause-asked c =
    let all = c.in_ok-admitted.admitted in
    let ids : option_map (λ i. i.now) c.as_deref.result ≡ ids_of c.args.job.now c.args.input.now = c.as_deref.ensures.value ∙ c.in_ok-ids.ensures in
    record {
      all = all;
      are = c.in_ok-admitted.ensures.admitted;
      job_is = c.with_runs.ensures.same ∙ ap (with_runs c.args.job.now) (c.runs_asked-asked.ensures ∙ ap (asked_by all.runs.items) ids);
      form_is = c.form_of.ensures;
      own = rw c.in_ok-ids.ensures at c.own_runs.ensures;
    }
