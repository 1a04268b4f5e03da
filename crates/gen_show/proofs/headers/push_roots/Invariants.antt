use Rattle.std.proofs.Common.{◌≡◌, ◌++◌, string_bytes, drop}
use Rattle.gen_show.specs.HeaderText.{root_lines}
use Rattle.gen_show.proofs.headers.push_roots.Given as goal

abbrev pub invariant-loop-general : goal.invariant-loop-general
invariant-loop-general l = string_bytes l.out ++ root_lines l.general-counter (drop l.general-counter l.roots) ≡ string_bytes l.initial.out ++ root_lines 0 l.roots
