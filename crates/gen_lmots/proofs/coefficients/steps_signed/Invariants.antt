use Rattle.std.proofs.Common.{◌≡◌, ◌≤◌, ◌<◌, ℕ, length, slice_index}
use Rattle.gen_lmots.specs.Coefficients.{coefficient}
use Rattle.gen_lmots.proofs.coefficients.steps_signed.Given as goal

abbrev pub invariant-chains : goal.invariant-chains
invariant-chains l = (length l.steps ≡ 67) × ((i : ℕ) → i < l.i → slice_index l.steps i ≡ coefficient l.string i) × ((i : ℕ) → i < l.i → slice_index l.steps i ≤ 15)
