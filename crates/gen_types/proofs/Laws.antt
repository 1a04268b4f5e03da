-- From what a reader gives to what it found, and to what alone it finds.
use Rattle.std.proofs.Common.{◌≡◌, Result, Ok, Err, subst}
use Rattle.std.specs.Prelude.{IfOk}
use Rattle.gen_types.specs.declared.reading.ReadError.{ReadError}
use Rattle.gen_types.specs.Reading.{Gives}

pub found_by : {X Y F : Type 0} (view : X → Y) (r : Result X (ReadError F)) (read : Result Y F) (P : Y → Type 0) → ((y : Y) → read ≡ Ok y → P y) → Gives view r read → IfOk r (λ x. P (view x))
found_by view (Ok x) read P law given = law (view x) given
found_by view (Err e) read P law given = tt

pub only_by : {X Y F : Type 0} (view : X → Y) (r : Result X (ReadError F)) (read : Result Y F) (y : Y) → read ≡ Ok y → Gives view r read → Gives view r (Ok y)
only_by {Y = Y} {F = F} view r read y e given = subst (λ (f : Result Y F). Gives view r f) e given
