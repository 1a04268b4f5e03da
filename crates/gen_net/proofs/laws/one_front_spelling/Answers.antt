use Rattle.gen_types.proofs.Front.{one_spelling_by}
use Rattle.gen_net.specs.Front.{front_spelling}
use Rattle.gen_net.specs.FrontReading.{front_at}
use Rattle.gen_net.specs.Header.{IsHeader}
use Rattle.gen_net.proofs.FrontLaws.{front_reads}
use Rattle.gen_net.proofs.laws.one_front_spelling.Goals as goal

pub returns : goal.returns
returns c = λ marks are. one_spelling_by (front_at marks) (front_spelling marks) IsHeader (front_reads marks are)
