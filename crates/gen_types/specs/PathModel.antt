-- What holds of the array and the length of a path.
use Rattle.std.specs.Prelude.{ℕ, ◌≡◌, ◌≢◌, ◌-◌, ◌<◌, ◌≤◌, List, length, take, drop, replicate, All, AllPairs}

-- the first places hold distinct generals below 16, and the others hold 0
pub record IsPath (generals : List ℕ) (len : ℕ) : Type 0 where
  pub all : length generals ≡ 16
  pub within : len ≤ 16
  pub distinct : AllPairs (λ g h. g ≢ h) (take len generals)
  pub below : All (λ g. g < 16) (take len generals)
  pub rest : drop len generals ≡ replicate (16 - len) 0
