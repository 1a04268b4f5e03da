use Rattle.std.proofs.Common.{◌≡◌, ℕ, List, [], ◌∷◌, refl, ap, ◌∙◌, add-one, arith, slice_index}
use Rattle.rand_chacha.specs.Block.{add32, column_round, diagonal_round, double_rounds}
use Rattle.rand_chacha.specs.Lanes.{lane_at}
use Rattle.gen_ots.proofs.Blocks.{block-sum, each_of_four, each_word}
use Rattle.gen_ots.proofs.chacha.blocks_in_lanes.Goals as goal

pub rounds-init : goal.rounds-init
unfolding double_rounds
rounds-init c j below = refl

pub rounds-preserved : goal.rounds-preserved
unfolding double_rounds
rounds-preserved c j below =
    rw add-one (c.diagonal_round-state.ensures j below
    ∙ ap diagonal_round (c.column_round.ensures j below ∙ ap column_round (c.rounds.invariant j below)))

pub returns : goal.returns
returns c j below k word =
    let all : c.rounds._done ≡ 10 = omega arith in
    let x = c.rounds.state in
    let y = c.initial_states-first.result in
    let r : List (List ℕ) =
    c.add.result ∷ c.add-2.result ∷ c.add-3.result ∷ c.add-4.result
    ∷ c.add-5.result ∷ c.add-6.result ∷ c.add-7.result ∷ c.add-8.result
    ∷ c.add-9.result ∷ c.add-10.result ∷ c.add-11.result ∷ c.add-12.result
    ∷ c.add-13.result ∷ c.add-14.result ∷ c.add-15.result ∷ c.add-16.result ∷ [] in
    each_word (λ (k : ℕ). lane_at r k j ≡ add32 (lane_at x k j) (lane_at y k j))
    (each_of_four _ (c.add.ensures j below) (c.add-2.ensures j below) (c.add-3.ensures j below) (c.add-4.ensures j below))
    (each_of_four _ (c.add-5.ensures j below) (c.add-6.ensures j below) (c.add-7.ensures j below) (c.add-8.ensures j below))
    (each_of_four _ (c.add-9.ensures j below) (c.add-10.ensures j below) (c.add-11.ensures j below) (c.add-12.ensures j below))
    (each_of_four _ (c.add-13.ensures j below) (c.add-14.ensures j below) (c.add-15.ensures j below) (c.add-16.ensures j below))
    k word
    ∙ block-sum c.rounds.state c.initial_states-first.result c.args.key.now (slice_index c.args.counters.now j) c.args.stream 10 j k word
    (rw all at (c.rounds.invariant j below)) (c.initial_states-first.ensures j below)
