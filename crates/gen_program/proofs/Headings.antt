-- What stands before the lines of JSON of an input has no floats, and nests a few levels deep.
use Rattle.std.proofs.Common.{◌≡◌, ℕ, ◌≤◌, List, false, refl, arith}
use Rattle.std.specs.Prelude.{Option}
use Rattle.serde_json.specs.Data.{depth, string}
use Rattle.serde_json.specs.Written.{has_float}
use Rattle.gen_json.proofs.PlainOrigins.{maybe_plain, maybe_shallow}
use Rattle.gen_program.specs.Many.{heading_data}

pub heading_plain : (name : Option (List ℕ)) → has_float (heading_data name) ≡ false
heading_plain name = rw (maybe_plain string (λ t. refl) name) refl

pub heading_within : (name : Option (List ℕ)) → depth (heading_data name) ≤ 127
heading_within name = omega (arith, maybe_shallow string 0 (λ t. omega arith) name)
