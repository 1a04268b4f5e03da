use Rattle.std.proofs.Common.{◌≡◌, ◌++◌, string_bytes, take}
use Rattle.std.specs.List.{flat_map}
use Rattle.gen_show.specs.HeaderText.{edge_line}
use Rattle.gen_show.proofs.headers.push_edges.Given as goal

abbrev pub invariant-loop-edge : goal.invariant-loop-edge
invariant-loop-edge l = string_bytes l.out ≡ string_bytes l.initial.out ++ flat_map edge_line (take l.edge-index l.edges)
