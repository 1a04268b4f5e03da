use Rattle.gen_plan.proofs.Sets.{either_of}
use Rattle.gen_plan.proofs.search.either.Goals as goal

pub returns : goal.returns
returns c = rw c.from_bits.ensures (rw (c.bits.ensures, c.bits-2.ensures) (either_of c.args.a.now c.args.b.now (rw c.bits.ensures at c.bits.type_inv) (rw c.bits-2.ensures at c.bits-2.type_inv)))
