use Rattle.std.proofs.Common.{◌≡◌, length}
use Rattle.gen_scenario.specs.SignerTrees.{tree_in}
use Rattle.gen_general.proofs.signers.tree_of.Given as goal

abbrev pub invariant-rest : goal.invariant-rest
invariant-rest l = tree_in l.rest l.fn.general ≡ tree_in l.trees l.fn.general

abbrev pub decreases-rest : goal.decreases-rest
decreases-rest l = length l.rest
