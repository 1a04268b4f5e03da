use Rattle.std.proofs.Common.{◌≡◌, ◌+◌, refl, ℕ, false, sym, subst, IfSome}
use Rattle.gen_edge.specs.Frames.{carried, edge_frames}
use Rattle.gen_edge.specs.Tied.{ComesNext}
use Rattle.gen_edge.specs.Ends.{put_view}
use Rattle.gen_edge.proofs.RunFrames.{comes_by_pass}
use Rattle.library_tests.proofs.edge_frames.put_next.Goals as goal

pub try_put-requires-clause-next : goal.try_put-requires-clause-next
try_put-requires-clause-next g c =
    let frames = edge_frames c.args.scenario.now c.args.way.0 c.args.way.1 in
    let next : ComesNext frames c.put-put.result false (carried c.in-Some.frame) =
    subst (λ o. IfSome o (λ frame. (n : ℕ) → c.put-put.result + 1 ≡ n + 1 → ComesNext frames n false (carried frame))) c.in-Some.is c.in_ok-frame.ensures c.put-put.result refl in
    comes_by_pass (edge_frames c.args.scenario.now c.args.way.0 c.args.way.1) c.put-put.result (carried c.in-Some.frame) (put_view c.args.pass.now) next c.requires.frames (sym c.put-put.ensures) (sym c.if-has_ended.ensures)
