use Rattle.std.proofs.Common.{◌≡◌, ◌++◌, take}
use Rattle.gen_audit.proofs.bundle_writing.put_walk.Given as goal

abbrev pub invariant-generals : goal.invariant-generals
invariant-generals l = l.out.items ≡ l.initial.out.items ++ take l.general-index l.generals
