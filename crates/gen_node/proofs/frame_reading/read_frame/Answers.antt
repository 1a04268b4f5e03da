use Rattle.std.proofs.Common.{arith}
use Rattle.gen_types.specs.Spelled.{Spells}
use Rattle.gen_types.proofs.Laws.{found_by, only_by}
use Rattle.gen_node.specs.Frame.{IsFrame, frame_spelling}
use Rattle.gen_node.specs.FrameReading.{whole_frame}
use Rattle.gen_node.proofs.FrameLaws.{frame_found, frame_only}
use Rattle.gen_node.proofs.frame_reading.read_frame.Goals as goal

pub returns-clause-found : goal.returns-clause-found
returns-clause-found c = found_by (λ x. x) c.frame_alone.result (whole_frame c.args.bytes.now) (Spells IsFrame frame_spelling c.args.bytes.now) (λ x e. frame_found c.args.bytes.now x (λ i. omega (arith, c.type_inv.bytes i)) e) c.frame_alone.ensures

pub returns-clause-only : goal.returns-clause-only
returns-clause-only c = λ f spells. only_by (λ x. x) c.frame_alone.result (whole_frame c.args.bytes.now) f (frame_only c.args.bytes.now f spells) c.frame_alone.ensures
