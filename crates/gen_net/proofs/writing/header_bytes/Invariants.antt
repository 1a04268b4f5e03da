use Rattle.std.proofs.Common.{◌≡◌, ◌++◌, take, ℕ, List}
use Rattle.std.specs.List.{flat_map}
use Rattle.gen_net.specs.NetworkSpelling.{edge_bytes}
use Rattle.gen_net.proofs.writing.header_bytes.Given as goal

abbrev pub invariant-edges : goal.invariant-edges
invariant-edges l = l.out.items ≡ l.initial.out.items ++ flat_map edge_bytes (take l.edge-index l.edges)

abbrev pub invariant-roots : goal.invariant-roots
invariant-roots l = l.out.items ≡ l.initial.out.items ++ flat_map (λ (root : List ℕ). root) (take l.root-index l.roots)
