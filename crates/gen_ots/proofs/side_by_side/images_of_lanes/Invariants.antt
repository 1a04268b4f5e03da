use Rattle.std.proofs.Common.{ℕ, ◌<◌, [], ◌∷◌, map, slice_index_or}
use Rattle.sha_lanes.specs.Hashers.{HoldsLane}
use Rattle.sha_lanes.specs.declared.words.TheConstants.{LANES}
use Rattle.gen_ots.specs.OneTime.{bit_of}
use Rattle.gen_ots.specs.Signatures.{other_at, shown_at}
use Rattle.gen_ots.specs.SideBySide.{images_before}
use Rattle.gen_ots.specs.declared.side_by_side.SignedDigest.{SignedDigest}
use Rattle.gen_ots.proofs.Filled.{Fills}
use Rattle.gen_ots.proofs.side_by_side.images_of_lanes.Given as goal

abbrev pub invariant-bits : goal.invariant-bits
invariant-bits l = (j : ℕ) → j < LANES → HoldsLane j l.hashers (1 ∷ slice_index_or (map (images_before l.bit) l.signed) j [])

abbrev pub invariant-lanes : goal.invariant-lanes
invariant-lanes l = record {
  secrets : (d : SignedDigest) → Fills (λ (k : ℕ). shown_at (slice_index_or l.signed k d).signature.now l.bit) l.j l.secrets;
  others : (d : SignedDigest) → Fills (λ (k : ℕ). other_at (slice_index_or l.signed k d).signature.now l.bit) l.j l.others;
  ones : (d : SignedDigest) → Fills (λ (k : ℕ). bit_of (slice_index_or l.signed k d).digest l.bit) l.j l.ones;
}
