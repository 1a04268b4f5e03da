use Rattle.std.proofs.Common.{arith}
use Rattle.gen_types.specs.Spelled.{Spells}
use Rattle.gen_types.proofs.Laws.{found_by, only_by}
use Rattle.gen_enroll.specs.RootFiles.{IsRootFile, file_spelling}
use Rattle.gen_enroll.specs.RootReading.{whole_file}
use Rattle.gen_enroll.proofs.Spelled.{whole_found, whole_again}
use Rattle.gen_enroll.proofs.root_reading.read_roots.Goals as goal

pub returns-clause-found : goal.returns-clause-found
returns-clause-found c = found_by (λ x. x) c.roots_alone.result (whole_file c.args.bytes.now) (Spells IsRootFile file_spelling c.args.bytes.now) (λ file e. whole_found c.args.bytes.now file (λ i. omega (arith, c.type_inv.bytes i)) e) c.roots_alone.ensures

pub returns-clause-only : goal.returns-clause-only
returns-clause-only c = λ file spells. only_by (λ x. x) c.roots_alone.result (whole_file c.args.bytes.now) file (whole_again c.args.bytes.now file spells) c.roots_alone.ensures
