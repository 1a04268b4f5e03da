-- The test whether a message is among others.
use Rattle.std.proofs.Common.{◌≡◌, ◌⊎◌, ◌&&◌, ◌||◌, Bool, true, false, List, [], ◌∷◌, sym, ◌∙◌, ap, refl, subst, inl, inr, eqb}
use Rattle.std.specs.Prelude.{Contains, nat_eq}
use Rattle.std.specs.List.{list_any}
use Rattle.std.specs.Cmp.Lexicographic.{pointwise, same_text}
use Rattle.std.proofs.lemmas.Bool.{eqb-true, eq-eqb, and_parts, and_from, cases_Bool, or_cases, false≢true}
use Rattle.std.proofs.lemmas.Slice.Eq.{bytes_eq-Decides}
use Rattle.gen_types.proofs.Lists.{Contains_here, Contains_there, Contains_cases, Contains_nil}
use Rattle.gen_net.specs.declared.message.Message.{Message}
use Rattle.gen_draw.specs.Telling.{is_same, tells}

-- messages that pass the test are one message
alike : (a b : Message) → is_same a b ≡ true → a ≡ b
alike a b e =
    let first = and_parts (eqb a.from b.from) (eqb a.to b.to && (eqb a.order b.order && pointwise nat_eq a.path b.path)) e in
    let second = and_parts (eqb a.to b.to) (eqb a.order b.order && pointwise nat_eq a.path b.path) first.1 in
    let third = and_parts (eqb a.order b.order) (pointwise nat_eq a.path b.path) second.1 in
    let froms : a.from ≡ b.from = eqb-true a.from b.from first.0 in
    let tos : a.to ≡ b.to = eqb-true a.to b.to second.0 in
    let orders : a.order ≡ b.order = eqb-true a.order b.order third.0 in
    let paths : a.path ≡ b.path = same_text a.path b.path (sym third.1) in
    λ i. record { from = froms i; to = tos i; order = orders i; path = paths i }

-- a message passes the test with itself
itself : (m : Message) → is_same m m ≡ true
itself m =
    and_from (eqb m.from m.from) (eqb m.to m.to && (eqb m.order m.order && pointwise nat_eq m.path m.path)) (eq-eqb m.from m.from refl)
    (and_from (eqb m.to m.to) (eqb m.order m.order && pointwise nat_eq m.path m.path) (eq-eqb m.to m.to refl)
    (and_from (eqb m.order m.order) (pointwise nat_eq m.path m.path) (eq-eqb m.order m.order refl) ((bytes_eq-Decides m.path m.path).1 refl)))

-- a message that is told of is among them
pub tells_has : (messages : List Message) (m : Message) → tells messages m ≡ true → Contains messages m
tells_has [] m e = absurd (false≢true e)
tells_has (x ∷ xs) m e = elim (or_cases (is_same m x) (tells xs m) e) [
  | inl here ↦ subst (λ w. Contains (x ∷ xs) w) (sym (alike m x here)) (Contains_here x xs)
  | inr there ↦ Contains_there x m xs (tells_has xs m there)
]

-- and one that is among them is told of
pub has_tells : (messages : List Message) (m : Message) → Contains messages m → tells messages m ≡ true
has_tells [] m c = absurd (Contains_nil m c)
has_tells (x ∷ xs) m c = elim (Contains_cases x m xs c) [
  | inl e ↦ (let here : is_same m x ≡ true = subst (λ w. is_same m w ≡ true) (sym e) (itself m) in rw here refl)
  | inr later ↦ (let there : tells xs m ≡ true = has_tells xs m later in elim (cases_Bool (is_same m x)) [ inl e ↦ rw e refl | inr e ↦ rw e there ])
]

-- one that is not told of is not among them
pub tells_not : (messages : List Message) (m : Message) → tells messages m ≡ false → Contains messages m → ⊥
tells_not messages m e c = false≢true (sym e ∙ has_tells messages m c)
