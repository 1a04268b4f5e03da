use Rattle.std.proofs.Common.{◌≡◌, ◌==◌, ◌&&◌, ◌∙◌, sym, ap, subst, Some, option_map}
use Rattle.std.specs.List.{find}
use Rattle.gen_scenario.specs.Rows.{FrameRow}
use Rattle.gen_edge.specs.Frames.{edge_frames}
use Rattle.gen_edge.specs.Tied.{ComesNext}
use Rattle.gen_edge.proofs.RunFrames.{found_comes}
use Rattle.library_tests.proofs.edge_frames.frame_of.Goals as goal

pub returns-in_ok-copy_of-in-Some : goal.returns-in_ok-copy_of-in-Some
returns-in_ok-copy_of-in-Some c = λ n next.
    let r = c.in-Some.row.now in
    let comes = found_comes c.args.scenario.now c.frames.result.now c.args.way.0 c.args.way.1 n r (c.frames.ensures ∙ c.requires)
    (subst (λ k. find (λ (row : FrameRow). row.from == c.args.way.0 && row.to == c.args.way.1 && row.round == k) c.frames.result.now ≡ Some r) next (sym c.row_of.ensures ∙ ap (option_map (λ row. row.now)) c.in-Some.is)) in
    subst (ComesNext (edge_frames c.args.scenario.now c.args.way.0 c.args.way.1) n _) (sym c.in_ok-copy_of-in-Some.ensures) comes
