use Rattle.gen_audit.proofs.Telling.{are_reports}
use Rattle.gen_judge.proofs.judging.judge_by.Goals as goal

pub judge_reports-requires : goal.judge_reports-requires
judge_reports-requires g c =
    let are = rw (c.header.ensures.value, c.exhibits.ensures, c.in-Some-found.is) at c.in_ok-found.ensures in
    rw c.as_slice.ensures.value (are_reports c.args.bundle.now _ are)
