use Rattle.std.proofs.Common.{rules, ◌≤◌, ◌<◌, length}
use Rattle.std.proofs.lemmas.Result.{err_from_is_err_and}
use Rattle.gen_enrolling.proofs.Gathered.{goes_on, ends, is_done}
use Rattle.gen_enrolling.proofs.gathering.opened_all.Goals as goal

pub returns-in_err-opened_from-clause-value : goal.returns-in_err-opened_from-clause-value
returns-in_err-opened_from-clause-value c =
    let p = err_from_is_err_and c.from_residual.result c.from_residual.ensures.1 in
    let below : c.files.place < length c.args.files.now = search rules in
    rw (p.1, p.2) (ends c.args.system.now c.args.set c.files.place c.args.files.now c.index-files-from.result c.files.opened.items c.in_err-opened_from.field-0.0 _ below (search rules) c.files.invariant.so_far)

pub files-preserved : goal.files-preserved
files-preserved c =
    let below : c.files.place < length c.args.files.now = search rules in record {
      so_far = rw c.in_ok-push.ensures.items (goes_on c.args.system.now c.args.set c.files.place c.args.files.now c.index-files-from.result c.files.opened.items c.in_ok-opened_from.field-0 _ below (search rules) c.files.invariant.so_far);
      count = search rules;
    }

pub returns-clause-value : goal.returns-clause-value
returns-clause-value c =
    let above : length c.args.files.now ≤ c.files.place = search rules in
    is_done c.args.system.now c.args.set c.files.place c.args.files.now c.files.opened.items _ above c.files.invariant.so_far
