use Rattle.std.proofs.Common.{ℕ, ◌<◌, slice_index_or}
use Rattle.gen_chain.specs.declared.signings.Signing.{Signing}
use Rattle.gen_chain.proofs.signings.are_of.Given as goal

abbrev pub invariant-places : goal.invariant-places
invariant-places l = (j : ℕ) → j < l.place → (d : Signing) → (slice_index_or l.signings j d).signer < l.header.network.generals
