use Rattle.std.proofs.Common.{ℕ, [], ◌∷◌, ◌/◌, ◌%◌, ◌^◌, slice_index, ◌∙◌, arith}
use Rattle.sha_lanes.proofs.LaneFacts.{lane_of_splat}
use Rattle.gen_ots.proofs.Filled.{none_filled, one_filled}
use Rattle.gen_ots.proofs.chacha.initial_states.Goals as goal

pub lanes-init : goal.lanes-init
lanes-init c = (none_filled (λ (k : ℕ). slice_index c.args.counters.now k % 2 ^ 32) 0, none_filled (λ (k : ℕ). slice_index c.args.counters.now k / 2 ^ 32) 0)

pub lanes-preserved : goal.lanes-preserved
lanes-preserved c = (
  one_filled (λ (k : ℕ). slice_index c.args.counters.now k % 2 ^ 32) c.lanes.j c.lanes.low _ (omega arith) c.halves-low_word.ensures.low c.lanes.invariant.0,
  one_filled (λ (k : ℕ). slice_index c.args.counters.now k / 2 ^ 32) c.lanes.j c.lanes.high _ (omega arith) c.halves-low_word.ensures.high c.lanes.invariant.1,
)

pub returns : goal.returns
returns c j below =
    let at = λ (x : ℕ). lane_of_splat x j below in
    let key = c.args.key.now in
    let word = λ (k : ℕ). at (slice_index key k) in
    let counter_low = c.lanes.invariant.0.1 j (omega arith) 0 in
    let counter_high = c.lanes.invariant.1.1 j (omega arith) 0 in
    let stream_low = at c.halves-stream_low.result.0 ∙ c.halves-stream_low.ensures.low in
    let stream_high = at c.halves-stream_low.result.1 ∙ c.halves-stream_low.ensures.high in
    λ i. at 0x61707865 i ∷ at 0x3320646e i ∷ at 0x79622d32 i ∷ at 0x6b206574 i
    ∷ word 0 i ∷ word 1 i ∷ word 2 i ∷ word 3 i ∷ word 4 i ∷ word 5 i ∷ word 6 i ∷ word 7 i
    ∷ counter_low i ∷ counter_high i ∷ stream_low i ∷ stream_high i ∷ []
