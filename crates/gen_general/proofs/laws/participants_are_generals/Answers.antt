use Rattle.gen_general.proofs.Starting.{starts_as_he}
use Rattle.gen_general.proofs.Worlds.{begins_as_he, hears_as_he, sends_frames, hears_frames, decides_as_he}
use Rattle.gen_general.proofs.laws.participants_are_generals.Goals as goal

pub returns-clause-start : goal.returns-clause-start
returns-clause-start c = starts_as_he

pub returns-clause-begin : goal.returns-clause-begin
returns-clause-begin c = begins_as_he

pub returns-clause-hear : goal.returns-clause-hear
returns-clause-hear c = hears_as_he

pub returns-clause-frames : goal.returns-clause-frames
returns-clause-frames c = sends_frames

pub returns-clause-heard : goal.returns-clause-heard
returns-clause-heard c = hears_frames

pub returns-clause-decide : goal.returns-clause-decide
returns-clause-decide c = decides_as_he
