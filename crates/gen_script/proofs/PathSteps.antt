-- One general more at the end of a path.
use Rattle.std.proofs.Common.{◌≡◌, ◌≢◌, ℕ, ◌<◌, ◌≤◌, Bool, true, false, not, List, [], ◌∷◌, ◌++◌, length, Contains, All, AllPairs, Result, Ok, map, get_or, ltb, refl, subst, arith, length-append}
use Rattle.std.specs.List.{range_with_len}
use Rattle.std.proofs.lemmas.Bool.{ltb-true}
use Rattle.std.proofs.lemmas.List.Elements.{All-contains, All-push, Contains-get_or}
use Rattle.std.proofs.lemmas.List.FromFn.{length-range_with_len}
use Rattle.std.proofs.lemmas.List.Quantifiers.{all_pairs_push}
use Rattle.gen_types.specs.Ends.{is_among}
use Rattle.gen_types.specs.declared.reading.ReadError.{ReadError}
use Rattle.gen_types.specs.Reading.{Fails, check}
use Rattle.gen_types.proofs.Among.{among_out, in_among, out_among}
use Rattle.gen_types.proofs.Decimals.{both}
use Rattle.gen_types.proofs.Lists.{Contains_in_range, length-le_from_distinct}
use Rattle.gen_net.specs.Network.{Network}
use Rattle.gen_script.specs.declared.path_fields.PathKind.{PathKind}
use Rattle.gen_script.specs.declared.fault.ScriptFault.{ScriptFault}
use Rattle.gen_script.specs.PathReading.{fits_place, may_follow, longer_by, numbers_in}
use Rattle.gen_script.proofs.Joining.{fails_after}

-- a path without one of 16 generals has room for him
pub room_for : (g : ℕ) (front : List ℕ) → length front ≤ 16 → AllPairs (λ a b. a ≢ b) front → All (λ h. h < 16) front → g < 16 → (Contains front g → ⊥) → length front < 16
room_for g front most apart below lt out =
    let longer : AllPairs (λ a b. a ≢ b) (front ++ g ∷ []) = all_pairs_push (λ a b. a ≢ b) front g apart (λ i d l e. out (subst (λ z. Contains front z) e (Contains-get_or front i d l))) in
    let inside : (x : ℕ) → Contains (front ++ g ∷ []) x → Contains (range_with_len 0 16) x = λ x h. Contains_in_range 0 16 x (omega arith) (All-contains (λ k. k < 16) (front ++ g ∷ []) x (All-push (λ k. k < 16) front g below lt) h) in
    let le = length-le_from_distinct (front ++ g ∷ []) (range_with_len 0 16) longer inside in
    omega (arith, le, length-append front (g ∷ []), length-range_with_len 0 16)

-- what a test for a number behind a path shows
pub known_in : (net : Network) (kind : PathKind) (front : List ℕ) (g : ℕ) → may_follow net kind front g ≡ true → g < net.generals
known_in net kind front g may = ltb-true _ _ (both _ _ (both _ _ may).0).0

not_false : (b : Bool) → not b ≡ true → b ≡ false
not_false true e = absurd cc
not_false false e = refl

pub new_in : (net : Network) (kind : PathKind) (front : List ℕ) (g : ℕ) → may_follow net kind front g ≡ true → Contains front g → ⊥
new_in net kind front g may = among_out front g (not_false (is_among front g) (both _ _ may).1)

pub may_so : (net : Network) (kind : PathKind) (front : List ℕ) (g : ℕ) → ltb g net.generals ≡ true → fits_place kind front g ≡ true → is_among front g ≡ false → may_follow net kind front g ≡ true
may_so net kind front g known fits new = rw (known, fits, new) refl

-- where the first of the numbers left fails, all fail
pub stops : {X : Type 0} (view : X → List ℕ) (net : Network) (kind : PathKind) (front : List ℕ) (rest : List X) (d : X) (e : ReadError ScriptFault) (total : Result (List ℕ) ScriptFault) → 1 ≤ length rest
    → Fails e (longer_by net kind front (view (get_or rest 0 d))) → numbers_in net kind front (map view rest) ≡ total → Fails e total
unfolding numbers_in
stops view net kind front [] d e total some h so = absurd (omega arith)
stops view net kind front (x ∷ rest) d e total some h so = subst (λ (r : Result (List ℕ) ScriptFault). Fails e r) so (fails_after e (longer_by net kind front (view x)) (λ longer. numbers_in net kind longer (map view rest)) h)

-- a test that tells whether he stands in the path is that of the list
pub among_told : (front : List ℕ) (g : ℕ) (t : Bool) → (t ≡ true → Contains front g) → (Contains front g → t ≡ true) → is_among front g ≡ t
among_told front g true there then = in_among front g (there refl)
among_told front g false there then = out_among front g (λ h. let t = then h in absurd cc)

-- a check that doesn't fail
pub passed : (b : Bool) (d : ScriptFault) → check b d ≡ Ok tt → b ≡ true
passed true d e = refl
passed false d e = absurd cc
