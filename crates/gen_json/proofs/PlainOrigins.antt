-- What is printed of where an answer comes from has no floats, and nests a few levels deep.
use Rattle.std.proofs.Common.{◌≡◌, ℕ, ◌≤◌, List, false, refl, arith}
use Rattle.std.specs.Prelude.{Option, Some, None}
use Rattle.serde_json.specs.Data.{Data, depth, string}
use Rattle.serde_json.specs.Written.{has_float}
use Rattle.gen_json.specs.FailureData.{failure_data}
use Rattle.gen_json.specs.JsonData.{digits_data, list_of, numbers_data}
use Rattle.gen_json.specs.OriginData.{Origin, asked_data, input_data, maybe}
use Rattle.gen_json.proofs.Plain.{items_plain, items_shallow, numbers_plain, numbers_shallow}

pub maybe_plain : {A : Type 0} (f : A → Data) → ((x : A) → has_float (f x) ≡ false) → (o : Option A) → has_float (maybe f o) ≡ false
maybe_plain f h None = refl
maybe_plain f h (Some x) = h x

pub maybe_shallow : {A : Type 0} (f : A → Data) (n : ℕ) → ((x : A) → depth (f x) ≤ n) → (o : Option A) → depth (maybe f o) ≤ n
maybe_shallow f n h None = omega arith
maybe_shallow f n h (Some x) = h x

text_plain : (o : Option (List ℕ)) → has_float (maybe string o) ≡ false
text_plain o = maybe_plain string (λ t. refl) o

text_shallow : (o : Option (List ℕ)) → depth (maybe string o) ≤ 0
text_shallow o = maybe_shallow string 0 (λ t. omega arith) o

ids_plain : (ids : List (List ℕ)) → has_float (list_of digits_data ids) ≡ false
ids_plain ids = items_plain digits_data (λ id. refl) ids

ids_shallow : (ids : List (List ℕ)) → depth (list_of digits_data ids) ≤ 1
ids_shallow ids = omega (arith, items_shallow digits_data 0 (λ id. omega arith) ids)

pub input_plain : (o : Origin) → has_float (input_data o) ≡ false
input_plain o = rw (text_plain o.name) refl

pub input_shallow : (o : Origin) → depth (input_data o) ≤ 2
input_shallow o = omega (arith, text_shallow o.name)

pub asked_plain : (o : Origin) → has_float (asked_data o) ≡ false
asked_plain o = rw (maybe_plain numbers_data numbers_plain o.faulty, maybe_plain (list_of digits_data) ids_plain o.runs) refl

pub asked_shallow : (o : Origin) → depth (asked_data o) ≤ 2
asked_shallow o =
    omega (arith, maybe_shallow numbers_data 1 numbers_shallow o.faulty, maybe_shallow (list_of digits_data) 1 ids_shallow o.runs)

-- ---- faults in place of answers

pub failure_plain : (line : List ℕ) (kind name : Option (List ℕ)) (status : ℕ) → has_float (failure_data line kind name status) ≡ false
failure_plain line kind name status = rw (text_plain kind, text_plain name) refl

pub failure_within : (line : List ℕ) (kind name : Option (List ℕ)) (status : ℕ) → depth (failure_data line kind name status) ≤ 127
failure_within line kind name status = omega (arith, text_shallow kind, text_shallow name)
