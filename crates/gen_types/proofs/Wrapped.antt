-- A reader whose faults are wrapped reads as before.
use Rattle.std.proofs.Common.{ℕ, List, Result, ap}
use Rattle.gen_types.specs.Reading.{map_fault}
use Rattle.gen_types.proofs.ManyFields.{Reads}
use Rattle.gen_types.proofs.Steps.{mapped_ok}

pub mapped_reads : {A F G : Type 0} (wrap : F → G) (read : List ℕ → Result (A × List ℕ) F) (spell : A → List ℕ) (Fits : A → Type 0) → Reads read spell Fits → Reads (λ bytes. map_fault wrap (read bytes)) spell Fits
mapped_reads {A} {F} wrap read spell Fits reads = record {
  takes = λ bytes x are e. reads.takes bytes x are (mapped_ok wrap (read bytes) x e);
  again = λ a rest is. ap (λ (r : Result (A × List ℕ) F). map_fault wrap r) (reads.again a rest is);
}
