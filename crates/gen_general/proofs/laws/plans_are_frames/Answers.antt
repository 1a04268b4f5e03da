use Rattle.gen_general.proofs.Plans.{plans_frames, plans_signs, plans_sends}
use Rattle.gen_general.proofs.laws.plans_are_frames.Goals as goal

pub returns : goal.returns
returns c = record { frames = plans_frames; signs = plans_signs; sends = plans_sends }
