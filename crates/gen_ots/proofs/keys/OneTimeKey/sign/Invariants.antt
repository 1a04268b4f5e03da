use Rattle.std.proofs.Common.{◌≡◌, ◌≤◌, ◌*◌, vec_len, vec_capacity}
use Rattle.sha_lanes.specs.declared.words.TheConstants.{LANES}
use Rattle.gen_ots.specs.Signatures.{first_pairs}
use Rattle.gen_ots.proofs.keys.OneTimeKey.sign.Given as goal

abbrev pub invariant-turns : goal.invariant-turns
invariant-turns l =
    (l.bytes.items ≡ first_pairs l.fn.self.name l.digest (LANES * l.turn))
    × (vec_len l.bytes ≡ 64 * (LANES * l.turn))
    × (16384 ≤ vec_capacity l.bytes)
