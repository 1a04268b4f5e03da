use Rattle.std.proofs.Common.{ℕ, [], map, slice_index_or}
use Rattle.gen_ots.specs.SideBySide.{signed_value}
use Rattle.gen_ots.proofs.Filled.{Fills}
use Rattle.gen_tree.specs.Claims.{Stands, claimed_value}
use Rattle.gen_tree.proofs.Answered.{Answers}
use Rattle.gen_tree.proofs.claims.verify_lanes.Given as goal

abbrev pub invariant-digests : goal.invariant-digests
invariant-digests l = Fills (λ (k : ℕ). slice_index_or (map claimed_value l.claims) k []) l.lane (map signed_value l.signed)

abbrev pub invariant-lanes : goal.invariant-lanes
invariant-lanes l = Answers Stands l.claims l.lane l.answers
