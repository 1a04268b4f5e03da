-- What holds of a call's answer, turned into what follows from it.
use Rattle.std.proofs.Common.{◌≡◌, ◌↔◌, Bool, IsTrue, true, false, Result, Ok, Err, IfOk}

pub if_ok : {A E : Type 0} (P Q : A → Type 0) (r : Result A E) → ((x : A) → P x → Q x) → IfOk r P → IfOk r Q
if_ok P Q (Ok x) f h = f x h
if_ok P Q (Err e) f h = h

-- what a test tells does not hold where the test fails
pub is_not : (test : Bool) (P : Type 0) → (IsTrue test ↔ P) → test ≡ false → P → ⊥
is_not test P told fails p = let t : test ≡ true = told.1 p in absurd cc
