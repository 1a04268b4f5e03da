use Rattle.std.proofs.Common.{◌≡◌}
use Rattle.gen_enrolling.specs.Among.{only}
use Rattle.gen_enrolling.proofs.among.own_runs.Goals as goal

pub returns : goal.returns
returns c =
    let runs : c.keep_runs.new.admitted.runs.items ≡ only c.args.admitted c.in_ok-ids.ids.items = rw c.deref.ensures.value at c.keep_runs.ensures.runs in
    rw c.in_ok-ids.was (c.keep_runs.ensures.system, runs)
