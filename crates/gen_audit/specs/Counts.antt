-- Numbers of workers.
use Rattle.std.specs.Prelude.{ℕ, ◌<◌, ◌≤◌, ◌&&◌, Option, Some, None, nat_le, if◌then◌else◌}

-- the number is 1 to 16
abbrev pub IsCount : ℕ → Type 0
IsCount n = (0 < n) × (n ≤ 16)

-- this number of workers, if it is 1 to 16
abbrev pub count_of : ℕ → Option ℕ
count_of n = if nat_le 1 n && nat_le n 16 then Some n else None
