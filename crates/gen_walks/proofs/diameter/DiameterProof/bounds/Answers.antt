use Rattle.std.proofs.Common.{subst}
use Rattle.gen_walks.specs.Walks.{IsWithinDiameter}
use Rattle.gen_walks.proofs.Bridged.{has_diameter}
use Rattle.gen_walks.proofs.diameter.DiameterProof.bounds.Goals as goal

pub returns-clause-walks : goal.returns-clause-walks
returns-clause-walks c = subst (λ s. IsWithinDiameter s.network s.rest) c.self.view_is c.self.invariant

pub returns-clause-diameter : goal.returns-clause-diameter
returns-clause-diameter c = has_diameter c.args.self.now.network c.args.self.now.rest (subst (λ s. IsWithinDiameter s.network s.rest) c.self.view_is c.self.invariant)
