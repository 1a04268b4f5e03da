use Rattle.gen_system.proofs.TwoHeaders.{two_tell}
use Rattle.gen_system.proofs.laws.two_headers_tell.Goals as goal

pub returns : goal.returns
returns c = two_tell
