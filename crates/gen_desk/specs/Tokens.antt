-- What a receipt and a ticket say: a place, and the exhibit that was filed there.
use Rattle.std.specs.Prelude.{ℕ}
use Rattle.gen_log.specs.Writing.{LogBytes}

-- the number of the place, and the general and the bytes of the exhibit
pub record Placed : Type 0 where
  pub place : ℕ
  pub shown : LogBytes
