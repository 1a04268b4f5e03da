use Rattle.std.proofs.Common.{ℕ, ◌<◌, slice_index}
use Rattle.gen_combine.specs.Combined.{IsOfMost}
use Rattle.gen_combine.proofs.combining.majority.Given as goal

abbrev pub invariant-values : goal.invariant-values
invariant-values l = (k : ℕ) → k < l.value-index → IsOfMost l.decided (slice_index l.decided k) → ⊥
