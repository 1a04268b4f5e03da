-- Two texts with one hash.
use Rattle.std.specs.Prelude.{ℕ, ◌≡◌, ◌≢◌, List}
use Rattle.sha2.specs.Sha256.{sha256}

-- the texts differ and have one hash: a collision of SHA-256
abbrev pub AreColliding : List ℕ → List ℕ → Type 0
AreColliding a b = (a ≢ b) × (sha256 a ≡ sha256 b)
