use Rattle.std.proofs.Common.{List, ℕ, [], ◌∷◌, false, slice_index_or}
use Rattle.gen_ots.proofs.Selected.{chosen_lane}
use Rattle.gen_ots.proofs.hashing.chosen_in_lanes.Goals as goal

pub returns : goal.returns
returns c j below =
    let r : List (List ℕ) =
    c.select.result ∷ c.select-2.result ∷ c.select-3.result ∷ c.select-4.result
    ∷ c.select-5.result ∷ c.select-6.result ∷ c.select-7.result ∷ c.select-8.result ∷ [] in
    chosen_lane (slice_index_or c.args.ones.now j false) j r c.args.zeroth.now c.args.first.now
    (c.select.ensures j below) (c.select-2.ensures j below) (c.select-3.ensures j below) (c.select-4.ensures j below)
    (c.select-5.ensures j below) (c.select-6.ensures j below) (c.select-7.ensures j below) (c.select-8.ensures j below)
