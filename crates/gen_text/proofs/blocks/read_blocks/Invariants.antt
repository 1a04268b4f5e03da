use Rattle.std.proofs.Common.{◌≡◌, ◌<◌, length, None}
use Rattle.std.specs.Prelude.{IfSome}
use Rattle.gen_text.proofs.BlockLoop.{with_blocks, blocks_from}
use Rattle.gen_text.proofs.blocks.read_blocks.Given as goal

abbrev pub invariant-lines : goal.invariant-lines
invariant-lines l = record {
  so_far : with_blocks l.scripts.items l.block l.lines.items l.paths.items (blocks_from l.net l.block l.cursor) ≡ blocks_from l.net None l.fn.start;
  known : IfSome l.block (λ g. g < l.net.generals);
}

abbrev pub decreases-lines : goal.decreases-lines
decreases-lines l = length l.cursor.parts
