-- What a test did not say.
use Rattle.std.proofs.Common.{◌≡◌, true, false}

pub told_otherwise : false ≡ true → ⊥
told_otherwise e = cc
