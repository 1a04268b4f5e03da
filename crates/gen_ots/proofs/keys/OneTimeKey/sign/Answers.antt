use Rattle.std.proofs.Common.{rules, ◌≡◌, ◌<◌, ℕ, ◌+◌, ◌*◌, List, [], ◌++◌, slice_index_or, arith, ap, ◌∙◌}
use Rattle.sha_lanes.specs.declared.words.TheConstants.{LANES}
use Rattle.gen_ots.specs.OneTime.{on_side, bit_of, image}
use Rattle.gen_ots.specs.Signatures.{first_pairs, pairs_up_to, signature_of, signed_pair}
use Rattle.gen_ots.specs.Secrets.{secret_at, secret_block}
use Rattle.gen_ots.proofs.Pairs.{length-first_pairs, pairs-grown, whole-signature, signed_leaf_value-signature_of}
use Rattle.gen_ots.proofs.Words.{IsOf, low-of, high-of}
use Rattle.gen_ots.proofs.keys.OneTimeKey.sign.Goals as goal

pub turns-init : goal.turns-init
unfolding first_pairs
turns-init c = search rules

pub turns-preserved : goal.turns-preserved
turns-preserved c =
    let k = c.args.self.name in
    let digest = c.args.digest.now in
    let n = LANES * c.turns.turn in
    let same : IsOf k c.stream_of-stream.result.0 c.stream_of-stream.result.1 c.this.inside.leaf = search rules in
    let block = λ (j : ℕ). secret_block c.this.inside.leaf (n + j) in
    let low_place : (j : ℕ) → 16 * (c.block_of-first.result + 1 * j) + 8 * 0 ≡ 16 * block j = λ j. omega (arith, c.block_of-first.ensures) in
    let high_place : (j : ℕ) → 16 * (c.block_of-first.result + 1 * j) + 8 * 1 ≡ 16 * block j + 8 = λ j. omega (arith, c.block_of-first.ensures) in
    let at = λ (k : ℕ). secret_at c.stream_of-stream.result.0 c.stream_of-stream.result.1 k in
    let low = λ (j : ℕ) (below : j < LANES).
    c.secrets_on-low.ensures j below _ _ _ (c.blocks_from-blocks.ensures j below) ∙ ap at (low_place j) ∙ low-of k (n + j) _ _ _ same in
    let high = λ (j : ℕ) (below : j < LANES).
    c.secrets_on-high.ensures j below _ _ _ (c.blocks_from-blocks.ensures j below) ∙ ap at (high_place j) ∙ high-of k (n + j) _ _ _ same in
    let one = λ (j : ℕ) (below : j < LANES). c.are_ones-ones.ensures j below in
    let shown = λ (j : ℕ) (below : j < LANES).
    c.to_bytes-shown.ensures.value j below ∙ c.chosen_in_lanes.ensures j below
    ∙ (λ i. on_side (one j below i) (low j below i) (high j below i)) in
    let images = λ (j : ℕ) (below : j < LANES).
    c.to_bytes-images.ensures.value j below ∙ c.images_in_lanes.ensures j below
    ∙ ap image (c.chosen_in_lanes-hidden.ensures j below ∙ (λ i. on_side (one j below i) (high j below i) (low j below i))) in
    let each : (j : ℕ) → j < LANES → slice_index_or c.to_bytes-shown.result j [] ++ slice_index_or c.to_bytes-images.result j []
    ≡ signed_pair k (n + j) (bit_of digest (n + j)) = λ j below i. shown j below i ++ images j below i in
    let next : n + LANES ≡ LANES * (c.turns.turn + 1) = omega arith in
    let more = pairs-grown k digest n LANES c.to_bytes-shown.result c.to_bytes-images.result each ∙ ap (first_pairs k digest) next in (
      c.push_pairs.ensures.items
          ∙ ap (λ (x : List ℕ). x ++ pairs_up_to LANES c.to_bytes-shown.result c.to_bytes-images.result) c.turns.invariant.0
          ∙ more,
      omega (arith, c.push_pairs.ensures.len),
      omega (arith, c.push_pairs.ensures.capacity),
    )

pub owning-requires : goal.owning-requires
owning-requires c =
    let all : LANES * c.turns.turn ≡ 256 = omega arith in
    rw (c.turns.invariant.0, all) (length-first_pairs c.args.self.name c.args.digest.now 256)

pub returns-clause-bytes : goal.returns-clause-bytes
unfolding signature_of
returns-clause-bytes c =
    let all : LANES * c.turns.turn ≡ 256 = omega arith in
    rw c.owning.ensures (rw all at c.turns.invariant.0)

pub returns-clause-leaf : goal.returns-clause-leaf
returns-clause-leaf c =
    let all : LANES * c.turns.turn ≡ 256 = omega arith in
    let e : c.turns.bytes.items ≡ signature_of c.args.self.name c.args.digest.now = whole-signature c.args.self.name c.args.digest.now c.turns.bytes.items (rw all at c.turns.invariant.0) in
    rw (c.owning.ensures, e) (signed_leaf_value-signature_of c.args.self.name c.args.digest.now)

pub returns-clause-width : goal.returns-clause-width
returns-clause-width c =
    let all : LANES * c.turns.turn ≡ 256 = omega arith in
    rw (c.owning.ensures, c.turns.invariant.0, all) (length-first_pairs c.args.self.name c.args.digest.now 256)
