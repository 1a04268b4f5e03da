-- Steps of a reading, taken apart one after another: what a reading that did not fail has done.
use Rattle.std.proofs.Common.{◌≡◌, Bool, true, false, cond, Result, Ok, Err, refl, ap, subst}
use Rattle.gen_types.specs.Reading.{◌>>=◌, check, map_fault}

abbrev done : {A F : Type 0} → A → Result A F
done x = Ok x

pub ok_is : {A F : Type 0} (x y : A) → done {F = F} x ≡ done y → x ≡ y
ok_is x y e = cc

-- the value of a step, and what the steps after it made of that value
pub after : {A B F P : Type 0} (r : Result A F) (f : A → Result B F) (y : B) → (r >>= f) ≡ Ok y → ((x : A) → r ≡ Ok x → f x ≡ Ok y → P) → P
after (Ok x) f y e k = k x refl e
after (Err d) f y e k = absurd cc

-- the same, as a triple
pub bind_ok : {A B F : Type 0} (r : Result A F) (f : A → Result B F) (y : B) → (r >>= f) ≡ Ok y → (x : A) × (r ≡ Ok x) × (f x ≡ Ok y)
bind_ok (Ok x) f y e = (x, refl, e)
bind_ok (Err d) f y e = absurd cc

-- the same of a test
pub after_check : {B F P : Type 0} (b : Bool) (d : F) (f : Unit {0} → Result B F) (y : B) → (check b d >>= f) ≡ Ok y → (b ≡ true → f tt ≡ Ok y → P) → P
after_check true d f y e k = k refl e
after_check false d f y e k = absurd cc

-- the same of an if that fails where its test holds
pub after_guard : {A F P : Type 0} (b : Bool) (d : F) (r : Result A F) (y : A) → cond b (Err d) r ≡ Ok y → (b ≡ false → r ≡ Ok y → P) → P
after_guard true d r y e k = absurd cc
after_guard false d r y e k = k refl e

-- an if that fails where its test holds, as the last step
pub guard_ok : {A F : Type 0} (b : Bool) (d : F) (x y : A) → cond b (Err d) (Ok x) ≡ Ok y → (b ≡ false) × (x ≡ y)
guard_ok true d x y e = absurd cc
guard_ok false d x y e = (refl, cc)

-- at the end of the steps
pub at_end : {A F : Type 0} (P : A → Type 0) (x y : A) → done {F = F} x ≡ done y → P x → P y
at_end {F = F} P x y e p = subst P (ok_is {F = F} x y e) p

-- the same of a reading whose faults are wrapped
pub mapped_ok : {A F G : Type 0} (wrap : F → G) (r : Result A F) (x : A) → map_fault wrap r ≡ Ok x → r ≡ Ok x
mapped_ok {A = A} {F = F} {G = G} wrap (Ok y) x e = ap (λ (z : A). done {F = F} z) (ok_is {F = G} y x e)
mapped_ok wrap (Err f) x e = absurd cc
