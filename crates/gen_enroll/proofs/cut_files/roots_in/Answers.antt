use Rattle.std.proofs.Common.{arith}
use Rattle.gen_types.proofs.Laws.{found_by, only_by}
use Rattle.gen_enroll.specs.CutFiles.{IsCutFile, cut_file}
use Rattle.gen_enroll.proofs.Cutting.{cut_found, cut_again}
use Rattle.gen_enroll.proofs.cut_files.roots_in.Goals as goal

pub returns-clause-found : goal.returns-clause-found
returns-clause-found c = found_by (λ x. x) c.counted_roots.result (cut_file c.args.bytes.now) (λ x. IsCutFile c.args.bytes.now x.0 x.1) (λ x e. cut_found c.args.bytes.now x (λ i. omega (arith, c.type_inv.bytes i)) e) c.counted_roots.ensures.exact

pub returns-clause-only : goal.returns-clause-only
returns-clause-only c = λ head whole is. only_by (λ x. x) c.counted_roots.result (cut_file c.args.bytes.now) (head, whole) (cut_again c.args.bytes.now head whole is) c.counted_roots.ensures.exact
