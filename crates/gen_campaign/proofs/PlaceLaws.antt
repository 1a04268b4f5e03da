-- The place of the first member of a list that passes a test, and the places of runs.
use Rattle.std.proofs.Common.{◌≡◌, ℕ, ◌≤◌, ◌+◌, Bool, true, false, cond, not, ltb, List, [], ◌∷◌, ◌++◌, length, AllPairs, Some, None, refl, sym, arith}
use Rattle.std.specs.List.{position, position_or_len}
use Rattle.std.proofs.lemmas.Bool.{ltb-false}
use Rattle.std.proofs.lemmas.List.Elements.{All-contains}
use Rattle.gen_types.proofs.Lists.{Contains-middle, AllPairs_head, AllPairs_tail}
use Rattle.gen_net.specs.SameHeaders.{same_header}
use Rattle.gen_net.specs.SameHeaderLaws.{header_decides}
use Rattle.gen_audit.specs.Bundle.{Bundle}
use Rattle.gen_campaign.specs.Campaign.{JoinsRun}
use Rattle.gen_campaign.specs.CampaignPlaces.{PlacesNameRuns, place_of}

cond_is_some : {A : Type 0} (b : Bool) (x y : A) → cond b (Some x) None ≡ Some y → x ≡ y
cond_is_some true x y e = cc
cond_is_some false x y e = absurd cc

cond_is_none : {A : Type 0} (b : Bool) (x : A) → cond b (Some x) None ≡ None → b ≡ false
cond_is_none true x e = absurd cc
cond_is_none false x e = refl

within : {X : Type 0} (p : X → Bool) (xs : List X) → position_or_len p xs ≤ length xs
within p [] = omega arith
within p (x ∷ xs) =
    let rest = within p xs in
    elim (p x) as (λ b. cond (not b) (1 + position_or_len p xs) 0 ≤ length (x ∷ xs)) [ true ↦ omega arith | false ↦ omega (arith, rest) ]

pub none_has : {X : Type 0} (p : X → Bool) (xs : List X) → None ≡ position p xs → length xs ≡ position_or_len p xs
none_has p xs e =
    let past : length xs ≤ position_or_len p xs = ltb-false _ _ (cond_is_none (ltb (position_or_len p xs) (length xs)) (position_or_len p xs) (sym e)) in
    let upto = within p xs in
    omega (arith, past, upto)

pub one_has : {X : Type 0} (p : X → Bool) (xs : List X) (i : ℕ) → Some i ≡ position p xs → i ≡ position_or_len p xs
one_has p xs i e = sym (cond_is_some (ltb (position_or_len p xs) (length xs)) (position_or_len p xs) i (sym e))

-- ---- the places of runs

not_so : (b : Bool) → (b ≡ true → ⊥) → b ≡ false
not_so true never = absurd (never refl)
not_so false never = refl

place_is : (front : List Bundle) (b : Bundle) (back : List Bundle) → AllPairs JoinsRun (front ++ b ∷ back) → place_of (front ++ b ∷ back) b.header ≡ length front
place_is [] b back up =
    let same : same_header b.header b.header ≡ true = (header_decides b.header b.header).1 refl in
    rw same refl
place_is (x ∷ front) b back up =
    let joins : JoinsRun x b = All-contains (JoinsRun x) (front ++ b ∷ back) b (AllPairs_head JoinsRun x (front ++ b ∷ back) up) (Contains-middle front b back) in
    let other : same_header x.header b.header ≡ false = not_so (same_header x.header b.header) (λ e. joins.other ((header_decides x.header b.header).0 e)) in
    let rest = place_is front b back (AllPairs_tail JoinsRun x (front ++ b ∷ back) up) in
    rw (other, rest) (omega arith)

pub places_name_runs : PlacesNameRuns
places_name_runs front b back are = place_is front b back are.joined
