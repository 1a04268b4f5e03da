use Rattle.std.proofs.Common.{arith, ap, length}
use Rattle.gen_net.proofs.PlacedEdges.{few_edges}
use Rattle.gen_net.proofs.format.number_bytes_of.Goals as goal

pub overflow_cast-result : goal.overflow_cast-result
overflow_cast-result c = omega (arith, ap length c.edges.ensures, few_edges c.args.net.now c.generals.ensures.network)
