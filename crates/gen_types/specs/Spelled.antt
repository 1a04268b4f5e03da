-- What readers of bytes promise, in words. A format is a property of values, Fits, and the spelling of each
-- value in bytes.
use Rattle.std.specs.Prelude.{ℕ, ◌≡◌, ◌-◌, ◌++◌, List, length, Result, Ok}
use Rattle.gen_types.specs.Reading.{◌>>=◌, Gives}
use Rattle.gen_types.specs.declared.reading.ReadError.{ReadError}
use denote.Ref.{Bor}

-- the bytes are the spelling of the value, and nothing else
pub record Spells {A : Type 0} (Fits : A → Type 0) (spell : A → List ℕ) (bytes : List ℕ)
    (value : A) : Type 0 where
  pub fits : Fits value
  pub spelled : bytes ≡ spell value

-- the spelling of the value stands in front of the bytes, and anything may follow it
pub record StandsInFront {A : Type 0} (Fits : A → Type 0) (spell : A → List ℕ) (bytes : List ℕ)
    (value : A) : Type 0 where
  pub fits : Fits value
  pub rest : List ℕ
  pub parts : bytes ≡ spell value ++ rest

-- a value that stands in front of the bytes, and how many bytes its spelling has
pub record IsReadFrom {A : Type 0} (Fits : A → Type 0) (spell : A → List ℕ) (bytes : List ℕ)
    (x : A × ℕ) : Type 0 where
  pub stands : StandsInFront Fits spell bytes x.0
  pub counted : x.1 ≡ length (spell x.0)

-- Each value has one spelling, and no spelling begins another. If two equal lists begin with the spellings
-- of two values, the values are equal, and so is what follows the spellings.
abbrev pub HasOneSpelling : {A : Type 0} → (A → Type 0) → (A → List ℕ) → Type 0
HasOneSpelling {A} Fits spell =
    (x y : A) (rest more : List ℕ) → Fits x → Fits y → spell x ++ rest ≡ spell y ++ more
    → (x ≡ y) × (rest ≡ more)

-- a value in front of the bytes with the number of its bytes, by a reader that gives the value and the bytes
-- after it
abbrev pub counted : {A F : Type 0} → (List ℕ → Result (A × List ℕ) F) → List ℕ → Result (A × ℕ) F
counted read bytes = do
  x ← read bytes
  Ok (x.0, length bytes - length x.1)

-- a call answers what reading gives, unless memory ran out
abbrev pub IsRead : {A F : Type 0} → Result A (ReadError F) → Result A F → Type 0
IsRead result read = Gives (λ x. x) result read

-- a call answers the value and the bytes after it that reading gives, unless memory ran out
abbrev pub IsField : {A F : Type 0} → Result (A × Bor (List ℕ)) (ReadError F) → Result (A × List ℕ) F → Type 0
IsField result read = Gives (λ x. (x.0, x.1.now)) result read
