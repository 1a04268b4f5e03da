use Rattle.gen_types.proofs.Front.{one_spelling_by}
use Rattle.gen_node.specs.Frame.{IsFrame, frame_spelling}
use Rattle.gen_node.specs.FrameReading.{frame_at}
use Rattle.gen_node.proofs.FrameLaws.{frames_read}
use Rattle.gen_node.proofs.laws.one_frame_spelling.Goals as goal

pub returns : goal.returns
returns c = one_spelling_by frame_at frame_spelling IsFrame frames_read
