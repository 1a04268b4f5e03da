use Rattle.std.proofs.Common.{◌≡◌, ◌≤◌, ◌*◌}
use Rattle.gen_lmots.specs.Coefficients.{lacking}
use Rattle.gen_lmots.proofs.coefficients.checksum.Given as goal

abbrev pub invariant-coefficients : goal.invariant-coefficients
invariant-coefficients l = (l.lacking ≡ lacking l.hash l.i) × (l.lacking ≤ 15 * l.i)
