use Rattle.std.proofs.Common.{◌≡◌, ◌≤◌, ◌+◌, ◌++◌, length, take, vec_len, vec_capacity}
use Rattle.gen_enroll.specs.RootFiles.{roots_spelling}
use Rattle.gen_enroll.proofs.root_files.append_roots.Given as goal

abbrev pub invariant-roots : goal.invariant-roots
invariant-roots l = record {
  items : l.out.items ≡ l.initial.out.items ++ roots_spelling (take l.root-index l.roots);
  len : vec_len l.out ≡ vec_len l.initial.out + length (roots_spelling (take l.root-index l.roots));
  capacity : vec_capacity l.initial.out ≤ vec_capacity l.out;
  room : vec_len l.initial.out + length (roots_spelling l.roots) ≤ vec_capacity l.initial.out;
}
