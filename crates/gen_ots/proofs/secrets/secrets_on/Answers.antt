use Rattle.std.proofs.Common.{◌≡◌, ◌<◌, ◌+◌, ◌*◌, ℕ, List, w32, slice_index, ap, ◌∙◌, arith}
use Rattle.std.specs.Int.{swap_bytes}
use Rattle.sha_lanes.specs.Lanes.{lane_at}
use Rattle.gen_ots.proofs.Swapped.{secret_bytes}
use Rattle.gen_ots.proofs.secrets.secrets_on.Goals as goal

pub returns : goal.returns
returns c j below = λ key stream counter words.
    let swapped = λ (i : ℕ) (r : List ℕ) (h : i < 16) (e : slice_index r j ≡ swap_bytes w32 (lane_at c.args.blocks.now i j)).
    e ∙ ap (swap_bytes w32) (words i h) in
    secret_bytes key stream counter (16 * counter + 8 * c.args.side) (8 * c.args.side) _ _ _ _ _ _ _ _ (omega arith) (omega arith)
    (swapped (8 * c.args.side) c.swap_bytes.result (omega arith) (c.swap_bytes.ensures j below))
    (swapped (8 * c.args.side + 1) c.swap_bytes-2.result (omega arith) (c.swap_bytes-2.ensures j below))
    (swapped (8 * c.args.side + 2) c.swap_bytes-3.result (omega arith) (c.swap_bytes-3.ensures j below))
    (swapped (8 * c.args.side + 3) c.swap_bytes-4.result (omega arith) (c.swap_bytes-4.ensures j below))
    (swapped (8 * c.args.side + 4) c.swap_bytes-5.result (omega arith) (c.swap_bytes-5.ensures j below))
    (swapped (8 * c.args.side + 5) c.swap_bytes-6.result (omega arith) (c.swap_bytes-6.ensures j below))
    (swapped (8 * c.args.side + 6) c.swap_bytes-7.result (omega arith) (c.swap_bytes-7.ensures j below))
    (swapped (8 * c.args.side + 7) c.swap_bytes-8.result (omega arith) (c.swap_bytes-8.ensures j below))
