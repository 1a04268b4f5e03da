use Rattle.gen_types.proofs.Front.{one_spelling_by}
use Rattle.gen_net.specs.Header.{IsHeader, header_spelling}
use Rattle.gen_net.specs.HeaderReading.{header_at}
use Rattle.gen_net.proofs.HeaderLaws.{header_reads}
use Rattle.gen_net.proofs.laws.one_header_spelling.Goals as goal

pub returns : goal.returns
returns c = one_spelling_by header_at header_spelling IsHeader header_reads
