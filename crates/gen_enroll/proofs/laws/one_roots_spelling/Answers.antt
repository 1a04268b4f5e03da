use Rattle.gen_types.proofs.Front.{one_spelling_by}
use Rattle.gen_enroll.specs.RootFiles.{IsRootFile, file_spelling}
use Rattle.gen_enroll.specs.RootReading.{file_at}
use Rattle.gen_enroll.proofs.Spelled.{files_read}
use Rattle.gen_enroll.proofs.laws.one_roots_spelling.Goals as goal

pub returns : goal.returns
returns c = one_spelling_by file_at file_spelling IsRootFile files_read
