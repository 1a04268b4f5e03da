use Rattle.std.proofs.Common.{◌≡◌, ◌≤◌, ◌+◌, ◌*◌, ◌++◌, vec_len, vec_capacity}
use Rattle.gen_lmots.specs.Signatures.{shown}
use Rattle.gen_lmots.proofs.keys.append_shown.Given as goal

abbrev pub invariant-chains : goal.invariant-chains
invariant-chains l =
    (l.out.items ≡ l.fn.out.items ++ shown l.seed l.place l.hash l.i)
    × (vec_len l.out ≡ vec_len l.fn.out + 32 * l.i)
    × (vec_capacity l.fn.out ≤ vec_capacity l.out)
