use Rattle.std.proofs.Common.{◌≡◌, ◌≤◌, ◌+◌, ◌*◌, ◌++◌, vec_len, vec_capacity}
use Rattle.gen_ots.specs.Signatures.{pairs_up_to}
use Rattle.gen_ots.proofs.signatures.push_pairs.Given as goal

abbrev pub invariant-lanes : goal.invariant-lanes
invariant-lanes l =
    (l.bytes.items ≡ l.fn.bytes.items ++ pairs_up_to l.j l.shown l.images)
    × (vec_len l.bytes ≡ vec_len l.fn.bytes + 64 * l.j)
    × (vec_capacity l.fn.bytes ≤ vec_capacity l.bytes)
