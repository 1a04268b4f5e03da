use Rattle.std.proofs.Common.{◌≡◌, drop, length}
use Rattle.gen_enrolling.specs.Gathering.{opened_all}
use Rattle.gen_enrolling.proofs.Gathered.{with_front}
use Rattle.gen_enrolling.proofs.gathering.opened_all.Given as goal

abbrev pub invariant-files : goal.invariant-files
invariant-files l = record {
  so_far : with_front l.opened.items (opened_all l.fn.system l.fn.set l.place (drop l.place l.fn.files)) ≡ opened_all l.fn.system l.fn.set 0 l.fn.files;
  count : length l.opened.items ≡ l.place;
}
