-- Reading from left to right, with the first fault that is met: for any type of faults.
use Rattle.std.specs.Prelude.{◌≡◌, Bool, true, false, Result, Ok, Err}
use Rattle.gen_types.specs.declared.reading.ReadError.{ReadError}
use Rattle.gen_types.specs.declared.reading.ReadError.TheVariants as errors

-- one step of reading, and what follows it unless the step fails
infixl 10 ◌>>=◌
abbrev pub ◌>>=◌ : {A B F : Type 0} → Result A F → (A → Result B F) → Result B F
(Ok x) >>= f = f x
(Err e) >>= f = Err e

-- the fault, unless the test passes
abbrev pub check : {F : Type 0} → Bool → F → Result (Unit {0}) F
check true fault = Ok tt
check false fault = Err fault

-- the faults of one kind as faults of another
abbrev pub map_fault : {A F G : Type 0} → (F → G) → Result A F → Result A G
map_fault wrap (Ok x) = Ok x
map_fault wrap (Err f) = Err (wrap f)

-- The error of a call is the fault that reading gives, unless memory ran out.
abbrev pub Fails : {Y F : Type 0} → ReadError F → Result Y F → Type 0
Fails errors.Memory read = Unit {0}
Fails (errors.Fault f) read = read ≡ Err f

-- What a call returned, seen by view, is what reading gives, unless memory ran out.
abbrev pub Gives : {X Y F : Type 0} → (X → Y) → Result X (ReadError F) → Result Y F → Type 0
Gives view (Ok x) read = read ≡ Ok (view x)
Gives view (Err e) read = Fails e read
