use Rattle.std.proofs.Common.{◌<◌, Contains}
use Rattle.gen_types.specs.Ascending.{IsListOf}
use Rattle.gen_net.proofs.net.Net.rest.Given as goal

abbrev pub invariant-loop-number : goal.invariant-loop-number
invariant-loop-number l = IsListOf l.rest (λ v. (v < l.number) × (Contains l.faulty v → ⊥))
