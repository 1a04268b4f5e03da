use Rattle.std.proofs.Common.{ℕ, slice_index_or}
use Rattle.gen_ots.proofs.Filled.{Fills}
use Rattle.gen_tree.specs.Claims.{Stands}
use Rattle.gen_tree.specs.declared.claims.SignatureClaim.{SignatureClaim}
use Rattle.gen_tree.proofs.Answered.{Answers}
use Rattle.gen_tree.proofs.claims.verify_claims.Given as goal

abbrev pub invariant-turns : goal.invariant-turns
invariant-turns l = Answers Stands l.claims l.place l.answers

abbrev pub invariant-claims : goal.invariant-claims
invariant-claims l = (d : SignatureClaim) → Fills (λ (k : ℕ). slice_index_or l.claims k d) l.place l.lanes
