use Rattle.std.proofs.Common.{◌++◌, List, ℕ, take}
use Rattle.std.specs.List.{flat_map}
use Rattle.sha2.specs.Hashers.{Holds256}
use Rattle.gen_net.specs.Header.{AreRoots}
use Rattle.gen_net.specs.NetworkSpelling.{edge_bytes}
use Rattle.gen_net.proofs.hashing.run_id_over.Given as goal

abbrev pub invariant-edges : goal.invariant-edges
invariant-edges l = (m : List ℕ) → Holds256 l.initial.hasher m → Holds256 l.hasher (m ++ flat_map edge_bytes (take l.edge-index l.edges))

abbrev pub invariant-roots : goal.invariant-roots
invariant-roots l = record {
  fed : (m : List ℕ) → Holds256 l.initial.hasher m → Holds256 l.hasher (m ++ flat_map (λ (root : List ℕ). root) (take l.root-index l.roots));
  wide : AreRoots (take l.root-index l.roots);
}
