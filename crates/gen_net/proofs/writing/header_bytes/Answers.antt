use Rattle.std.proofs.Common.{◌≡◌, ◌++◌, List, ℕ, refl, append_assoc}
use Rattle.std.proofs.lemmas.List.{take_all}
use Rattle.std.specs.List.{flat_map}
use Rattle.gen_net.specs.NetworkSpelling.{edge_bytes, number_bytes}
use Rattle.gen_net.specs.Version.{version_bytes}
use Rattle.gen_net.proofs.writing.header_bytes.Goals as goal

pub returns-clause-spelled : goal.returns-clause-spelled
returns-clause-spelled c =
    let h = c.args.header.now in
    let all_edges = take_all c.edges.edge-index c.edges-edges.result.now c.edges-test.false in
    let all_roots = take_all c.roots.root-index c.roots-roots.result.now c.roots-test.false in
    let version : c.put_version.new.out.items ≡ version_bytes h.version
    = rw (c.in_ok-put_version.ensures, c.in_ok-out.ensures.items, c.version.ensures) refl in
    let numbers : c.extend_from_slice.new.self.items ≡ version_bytes h.version ++ number_bytes h.network
    = rw (c.in_ok-extend_from_slice.ensures.items, version, c.number_bytes_of.ensures, c.net-2.ensures.value) refl in
    let edges : c.edges.out.items ≡ (version_bytes h.version ++ number_bytes h.network) ++ flat_map edge_bytes h.network.edges
    = rw (c.edges.invariant, numbers, all_edges, c.edges-edges.ensures, c.net.ensures.value) refl in
    let roots : c.roots.out.items ≡ ((version_bytes h.version ++ number_bytes h.network) ++ flat_map edge_bytes h.network.edges) ++ flat_map (λ (root : List ℕ). root) h.roots
    = rw (c.roots.invariant, edges, all_roots, c.roots-roots.ensures) refl in
    rw roots (simp append_assoc)
