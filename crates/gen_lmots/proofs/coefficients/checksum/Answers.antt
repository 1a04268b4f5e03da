use Rattle.std.proofs.Common.{add-one, refl, sym, arith}
use Rattle.gen_lmots.proofs.Walked.{lacking-zero, lacking-suc}
use Rattle.gen_lmots.proofs.coefficients.checksum.Goals as goal

pub coefficients-init : goal.coefficients-init
coefficients-init c = (sym (lacking-zero c.args.hash.now), omega arith)

pub coefficients-preserved : goal.coefficients-preserved
coefficients-preserved c = (
  rw (add-one, lacking-suc, c.from-lacking.ensures, c.coefficient.ensures.value, c.coefficients.invariant.0) refl,
  omega (arith, c.from-lacking.ensures, c.coefficients.invariant.1),
)
