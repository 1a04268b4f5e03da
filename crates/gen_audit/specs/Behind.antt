-- Lists whose members are checked or read one after another, each with what it has to know of the member
-- before: the mark of that member.
use Rattle.std.specs.Prelude.{ℕ, zero, suc, List, [], ◌∷◌, Result, Ok}
use Rattle.gen_types.specs.Reading.{◌>>=◌}

-- the first fault of the members of a list
unfoldable pub check_behind : {A S F : Type 0} → (S → A → Result (Unit {0}) F) → (A → S) → S → List A
    → Result (Unit {0}) F
check_behind rule mark before [] = Ok tt
check_behind rule mark before (x ∷ xs) = do
  here ← rule before x
  check_behind rule mark (mark x) xs

-- n fields of one kind, one after another, each read with the mark of the field before
unfoldable pub many_behind : {A S F : Type 0} → (S → List ℕ → Result (A × List ℕ) F) → (A → S) → S → ℕ
    → List ℕ → Result (List A × List ℕ) F
many_behind read mark before zero bytes = Ok ([], bytes)
many_behind read mark before (suc n) bytes = do
  first ← read before bytes
  others ← many_behind read mark (mark first.0) n first.1
  Ok (first.0 ∷ others.0, others.1)
