-- A table of queues: what a write to one changes.
use Rattle.std.proofs.Common.{◌≡◌, ℕ, ◌<◌, ◌≤◌, ◌↔◌, List, [], ◌∷◌, ◌++◌, length, map, get_or, set, drop, Option, Some, None, IsSome, Result, Ok, Err, OnOk, is_err, true, false, inl, inr, refl, sym, ap, ◌∙◌}
use Rattle.std.proofs.lemmas.Bool.{cases_lt}
use Rattle.std.proofs.lemmas.List.{map-set, get_or-map, set-get_or}

module _ {D F : Type 0} (f : D → List F) (rows : List D) (i : ℕ) (inside : i < length rows) (old : D) (read : old ≡ get_or rows i old) where
  pub held_at : get_or (map f rows) i [] ≡ f old
  held_at = get_or-map f rows i old [] inside ∙ ap f (sym read)

  pub written_at : (new : D) (held : List F) → f new ≡ held → map f (set rows i new) ≡ set (map f rows) i held
  written_at new held e = map-set f rows i new ∙ ap (set (map f rows) i) e

  pub same_at : (new : D) → f new ≡ f old → map f (set rows i new) ≡ map f rows
  same_at new e = map-set f rows i new ∙ ap (set (map f rows) i) (e ∙ sym held_at) ∙ set-get_or (map f rows) i []

pub pushed : {D F : Type 0} (f : D → List F) (rows : List D) (table : List (List F)) (i j : ℕ) (old new : D) (frame : F) → map f rows ≡ table → i ≡ j → i < length rows → old ≡ get_or rows i old → f new ≡ f old ++ frame ∷ [] → map f (set rows i new) ≡ set table j (get_or table j [] ++ frame ∷ [])
pushed f rows table i j old new frame view at inside read grown =
    let held : get_or (map f rows) i [] ≡ f old = held_at f rows i inside old read in
    written_at f rows i inside old read new (get_or (map f rows) i [] ++ frame ∷ []) (grown ∙ ap (λ z. z ++ frame ∷ []) (sym held))
    ∙ ap (λ t. set t i (get_or t i [] ++ frame ∷ [])) view
    ∙ ap (λ k. set table k (get_or table k [] ++ frame ∷ [])) at

pub popped : {D F : Type 0} (f : D → List F) (rows : List D) (table : List (List F)) (i j : ℕ) (old new : D) → map f rows ≡ table → i ≡ j → i < length rows → old ≡ get_or rows i old → f new ≡ drop 1 (f old) → map f (set rows i new) ≡ set table j (drop 1 (get_or table j []))
popped f rows table i j old new view at inside read shrunk =
    let held : get_or (map f rows) i [] ≡ f old = held_at f rows i inside old read in
    written_at f rows i inside old read new (drop 1 (get_or (map f rows) i [])) (shrunk ∙ ap (drop 1) (sym held))
    ∙ ap (λ t. set t i (drop 1 (get_or t i []))) view
    ∙ ap (λ k. set table k (drop 1 (get_or table k []))) at

-- a queue as it stands in the table
pub at_spot : {D F : Type 0} (f : D → List F) (rows : List D) (i j : ℕ) (old : D) → i ≡ j → i < length rows → old ≡ get_or rows i old → f old ≡ get_or (map f rows) j []
at_spot f rows i j old at inside read = sym (held_at f rows i inside old read) ∙ ap (λ k. get_or (map f rows) k []) at

-- what is left by a front that is looked up
pub none_left : {X : Type 0} (r : Option X) (n : ℕ) → IsSome r ↔ (0 < n) → r ≡ None → n ≤ 0
none_left None n iff e = elim (cases_lt 0 n) [ inl l ↦ let f : false ≡ true = iff.1 l in absurd (cc) | inr h ↦ h ]
none_left (Some x) n iff e = absurd (cc)

pub some_left : {X : Type 0} (r : Option X) (n : ℕ) (x : X) → IsSome r ↔ (0 < n) → r ≡ Some x → 0 < n
some_left None n x iff e = absurd (cc)
some_left (Some y) n x iff e = iff.0 refl

pub on_ok : {T E P : Type 0} (r : Result T E) → OnOk r P → is_err r ≡ false → P
on_ok (Ok x) p e = p
on_ok (Err x) p e = absurd (cc)
