use Rattle.std.proofs.Common.{◌≡◌, ◌+◌, ℕ, false, refl, Option, Some, None, IfSome}
use Rattle.gen_edge.specs.declared.frames.Frame.{Frame}
use Rattle.gen_edge.specs.Frames.{carried, edge_frames}
use Rattle.gen_edge.specs.Tied.{ComesNext}
use Rattle.gen_scenario.specs.Scenario.{Scenario}
use Rattle.library_tests.proofs.early_end.first_frame.Goals as goal

first : (s : Scenario) (from to : ℕ) (found : Option Frame) → IfSome found (λ frame. (n : ℕ) → 1 ≡ n + 1 → ComesNext (edge_frames s from to) n false (carried frame)) → IfSome found (λ frame. ComesNext (edge_frames s from to) 0 false (carried frame))
first s from to None h = tt
first s from to (Some frame) h = h 0 refl

pub returns : goal.returns
returns c = first c.args.scenario.now c.args.from c.args.to c.in_ok-frame.frame c.in_ok-frame.ensures
