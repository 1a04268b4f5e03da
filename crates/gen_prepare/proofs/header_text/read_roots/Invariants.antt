use Rattle.std.proofs.Common.{◌≡◌, ◌-◌}
use Rattle.gen_prepare.specs.HeaderTextReading.{roots_at}
use Rattle.gen_prepare.proofs.RootLoop.{with_front}
use Rattle.gen_prepare.proofs.header_text.read_roots.Given as goal

abbrev pub invariant-loop-place : goal.invariant-loop-place
invariant-loop-place l = with_front l.roots.items (roots_at (l.count - l._place) l.cursor) ≡ roots_at l.count l.fn.start
