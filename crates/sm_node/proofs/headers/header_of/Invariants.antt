use Rattle.std.proofs.Common.{◌≡◌, map, take}
use Rattle.sm_node.specs.Headers.{ends_of}
use Rattle.sm_node.proofs.headers.header_of.Given as goal

abbrev pub invariant-pairing : goal.invariant-pairing
invariant-pairing l = l.pairs.items ≡ map ends_of (take l.edge-index l.edges)
