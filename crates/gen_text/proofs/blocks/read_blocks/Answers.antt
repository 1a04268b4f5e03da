use Rattle.std.proofs.lemmas.Result.{err_from_is_err_and}
use Rattle.gen_text.proofs.BlockLoop.{begins, says, ends, fails_in_line, fails_in_item}
use Rattle.gen_text.proofs.blocks.read_blocks.Goals as goal
use Rattle.gen_text.proofs.blocks.read_blocks.Goals.{in-Begin+in_ok-close-in-Begin, in-Say+in_ok-note_path-in-Say+in_ok-push-in-Say}

pub returns-in_err-line : goal.returns-in_err-line
returns-in_err-line c =
    let p = err_from_is_err_and c.from_residual.result c.from_residual.ensures.1 in
    rw (p.1, p.2) (fails_in_line _ _ _ _ _ _ _ _ c.in_err-line.ensures.exact c.lines.invariant.so_far)

pub returns-in_err-item_in : goal.returns-in_err-item_in
returns-in_err-item_in c =
    let p = err_from_is_err_and c.from_residual-in_err-item_in.result c.from_residual-in_err-item_in.ensures.1 in
    rw (p.1, p.2) (fails_in_item _ _ _ _ _ _ _ _ _ c.in_ok-line.ensures.exact c.in_err-item_in.ensures.exact c.lines.invariant.so_far)

pub returns-in-End : goal.returns-in-End
returns-in-End c =
    let is = rw c.in-End.is at c.in_ok-item_in.ensures.exact in
    rw c.in_ok-close-in-End.ensures.ok (ends _ _ _ _ _ _ _ _ c.in_ok-line.ensures.exact is c.lines.invariant.so_far)

pub lines-preserved : goal.lines-preserved
lines-preserved c =
    elim c.match-branch-3.branch [
      | in-Begin+in_ok-close-in-Begin w ↦
          let is = rw w.in-Begin.is at c.in_ok-item_in.ensures.exact in
          let known = rw w.in-Begin.is at c.in_ok-item_in.ensures.known in
          rw (w.scripts-is, w.paths-is, w.block-is, w.lines-is, w.in_ok-close-in-Begin.ensures.ok, w.in_ok-close-in-Begin.ensures.taken)
          (record { so_far = begins _ _ _ _ _ _ _ _ _ c.in_ok-line.ensures.exact is c.lines.invariant.so_far; known = known })
      | in-Say+in_ok-note_path-in-Say+in_ok-push-in-Say w ↦
          let is = rw w.in-Say.is at c.in_ok-item_in.ensures.exact in
          let known = rw w.in-Say.is at c.in_ok-item_in.ensures.known in
          rw (w.scripts-is, w.paths-is, w.block-is, w.lines-is, w.in_ok-note_path-in-Say.ensures.ok, w.in_ok-push-in-Say.ensures.items)
          (record { so_far = says _ _ _ _ _ _ _ _ _ c.in_ok-line.ensures.exact is c.lines.invariant.so_far; known = known })
    ]
