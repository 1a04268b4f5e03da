use Rattle.std.proofs.Common.{ℕ, ◌+◌, ◌*◌, ◌∷◌}
use Rattle.sha_lanes.specs.One.{HoldsOne}
use Rattle.sha_lanes.specs.declared.words.TheConstants.{LANES}
use Rattle.gen_ots.specs.Signatures.{given_images, other_at, shown_at}
use Rattle.gen_ots.proofs.Filled.{Fills}
use Rattle.gen_ots.proofs.signatures.image_of.Given as goal

abbrev pub invariant-turns : goal.invariant-turns
invariant-turns l = HoldsOne l.hasher (1 ∷ given_images l.pairs l.digest (LANES * l.turn))

abbrev pub invariant-lanes : goal.invariant-lanes
invariant-lanes l = Fills (λ (k : ℕ). shown_at l.pairs (l.bit + k)) l.j l.secrets × Fills (λ (k : ℕ). other_at l.pairs (l.bit + k)) l.j l.others
