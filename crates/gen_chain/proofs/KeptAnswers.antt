-- What is kept, key by key and signature by signature, and what one signature more changes.
use Rattle.std.proofs.Common.{arith, rules, ◌≡◌, ℕ, zero, suc, ◌<◌, ◌+◌, get_or, length, length-append, Bool, true, false, cond, ◌&&◌, inl, inr, List, [], ◌∷◌, ◌++◌, Option, None, Some, Ok, Err, refl, sym, ap, ◌∙◌}
use Rattle.std.specs.Prelude.{nat_eq, ◌≢◌}
use Rattle.std.specs.Cmp.Lexicographic.{pointwise, slice_cmp, bytes_decides, texts_ties}
use Rattle.std.specs.Cmp.{unsigned_ties, IsTotalOrder}
use Rattle.std.specs.Cmp.Rules.{comparing}
use Rattle.std.specs.List.{sum_by}
use Rattle.std.proofs.lemmas.List.Sums.{sum_by-cons}
use Rattle.std.proofs.lemmas.Map.Entries.{sum_by-insert_entry, sum_by-set_value}
use Rattle.std.specs.Global.{Vec}
use Rattle.std.specs.Map.{lookup, set_value, values_of}
use Rattle.std.specs.Option.{option_map, unwrap_or}
use Rattle.std.specs.declared.cmp.Ordering.{Ordering}
use Rattle.std.specs.declared.cmp.Ordering.TheVariants.{Less, Equal, Greater}
use Rattle.std.specs.Ordering.{is_eq, nat_cmp, ordering_then}
use Rattle.std.specs.BTreeMap.{BTreeMap, is_at, get, insert_entry, IsOrdered, Updates}
use Rattle.std.specs.declared.result.Result.{Result}
use Rattle.std.specs.Result.{OnErr}
use Rattle.gen_types.proofs.Lists.{bool_cases}
use Rattle.gen_chain.specs.declared.kept.Verified.{Verified}
use Rattle.gen_chain.specs.declared.kept.Kept.{Kept}
use Rattle.gen_chain.specs.Store.{same_verified, answer_in, kept_at, kept_count}
use Rattle.gen_chain.specs.Keeping.{verified_cmp, items_of}

is_eq-then : (o p : Ordering) → is_eq (ordering_then o p) ≡ (is_eq o && is_eq p)
is_eq-then Less p = refl
is_eq-then Equal p = refl
is_eq-then Greater p = refl

both_same : (a b c d : Bool) → a ≡ b → c ≡ d → (a && c) ≡ (b && d)
both_same a b c d p q = λ i. p i && q i

-- keys that compare as equal are the same
pub tied_verified : (a b : Verified) → is_at (verified_cmp a) b ≡ same_verified a b
tied_verified a b =
    is_eq-then (nat_cmp a.signer b.signer) (ordering_then (nat_cmp a.statement.order b.statement.order) (slice_cmp nat_cmp a.statement.path b.statement.path))
    ∙ both_same _ _ _ _ (sym (unsigned_ties a.signer b.signer)) (is_eq-then (nat_cmp a.statement.order b.statement.order) (slice_cmp nat_cmp a.statement.path b.statement.path)
    ∙ both_same _ _ _ _ (sym (unsigned_ties a.statement.order b.statement.order)) (sym (texts_ties a.statement.path b.statement.path)))

-- what is kept at a key, by the map
found_items : (es : List (Verified × Vec Kept)) (c : Verified) → lookup (same_verified c) (items_of es) ≡ option_map (λ v. v.items) (lookup (is_at (verified_cmp c)) es)
found_items [] c = refl
found_items (e ∷ es) c = elim (bool_cases (same_verified c e.0)) [
  | inl t ↦ rw (tied_verified c e.0, t) refl
  | inr f ↦ rw (tied_verified c e.0, f) (found_items es c)
]

pub kept_get : (m : BTreeMap Verified (Vec Kept)) (c : Verified) (o : Option (Vec Kept)) → get verified_cmp m c ≡ o → kept_at (items_of m.entries) c ≡ unwrap_or (option_map (λ v. v.items) o) []
kept_get m c o e = ap (λ r. unwrap_or r []) (found_items m.entries c) ∙ ap (λ r. unwrap_or (option_map (λ v. v.items) r) []) e

-- what is kept after a vector was put at a key
pub kept_here : (m n : BTreeMap Verified (Vec Kept)) (c : Verified) (w : Vec Kept) → Updates verified_cmp m n c (Some w) → kept_at (items_of n.entries) c ≡ w.items
kept_here m n c w u = kept_get n c (Some w) u.1

pub kept_others : (m n : BTreeMap Verified (Vec Kept)) (c : Verified) (w : Vec Kept) → Updates verified_cmp m n c (Some w) → (other : Verified) → same_verified c other ≡ false → kept_at (items_of n.entries) other ≡ kept_at (items_of m.entries) other
kept_others m n c w u other apart = kept_get n other (get verified_cmp m other) (u.2 other (tied_verified c other ∙ apart)) ∙ sym (kept_get m other (get verified_cmp m other) refl)

-- a vector with the same items in the place of one that is kept
pub set_same : (test : Verified → Bool) (es : List (Verified × Vec Kept)) (v w : Vec Kept) → lookup test es ≡ Some v → w.items ≡ v.items → items_of (set_value test es w) ≡ items_of es
set_same test [] v w found same = refl
set_same test (e ∷ es) v w found same = elim (bool_cases (test e.0)) [
  | inl t ↦
      let is : Some e.1 ≡ Some v = rw t at found in
      let one : e.1 ≡ v = cc in
      rw t (ap (λ xs. (e.0, xs) ∷ items_of es) (same ∙ ap (λ (u : Vec Kept). u.items) (sym one)))
  | inr f ↦ rw f (ap (λ r. (e.0, e.1.items) ∷ r) (set_same test es v w (rw f at found) same))
]

-- one signature more at the end
answer_push-other : (kept : List Kept) (last : Kept) (signature : List ℕ) → pointwise nat_eq last.signature signature ≡ false → answer_in (kept ++ last ∷ []) signature ≡ answer_in kept signature
answer_push-other [] last signature other = rw other refl
answer_push-other (k ∷ kept) last signature other = elim (bool_cases (pointwise nat_eq k.signature signature)) [
  | inl t ↦ rw t refl
  | inr f ↦ rw f (answer_push-other kept last signature other)
]

answer_push-same : (kept : List Kept) (last : Kept) (signature : List ℕ) → pointwise nat_eq last.signature signature ≡ true → answer_in kept signature ≡ None → answer_in (kept ++ last ∷ []) signature ≡ Some last.answer
answer_push-same [] last signature same none = rw same refl
answer_push-same (k ∷ kept) last signature same none = elim (bool_cases (pointwise nat_eq k.signature signature)) [
  | inl t ↦ let is : Some k.answer ≡ None = rw t at none in absurd cc
  | inr f ↦ rw f (answer_push-same kept last signature same (rw f at none))
]

pub answer_push : (kept : List Kept) (last : Kept) (signature : List ℕ) → answer_in kept last.signature ≡ None → answer_in (kept ++ last ∷ []) signature ≡ cond (pointwise nat_eq last.signature signature) (Some last.answer) (answer_in kept signature)
answer_push kept last signature none = elim (bool_cases (pointwise nat_eq last.signature signature)) [
  | inl t ↦ rw t (answer_push-same kept last signature t (rw ((bytes_decides last.signature signature).0 t) at none))
  | inr f ↦ rw f (answer_push-other kept last signature f)
]

-- of what is not kept no signature is kept
abbrev pub ApartAt : Kept → Kept → Type 0
ApartAt a b = a.signature ≢ b.signature

pub none_kept : (kept : List Kept) (signature : List ℕ) → answer_in kept signature ≡ None → (k : ℕ) (other : Kept) → k < length kept → (get_or kept k other).signature ≢ signature
none_kept [] signature none k other below = absurd (omega (arith, below))
none_kept (x ∷ kept) signature none zero other below = λ same.
    let t : pointwise nat_eq x.signature signature ≡ true = (bytes_decides x.signature signature).1 same in
    let is : Some x.answer ≡ None = rw t at none in absurd cc
none_kept (x ∷ kept) signature none (suc k) other below = elim (bool_cases (pointwise nat_eq x.signature signature)) [
  | inl t ↦ let is : Some x.answer ≡ None = rw t at none in absurd cc
  | inr f ↦ none_kept kept signature (rw f at none) k other (omega (arith, below))
]

-- how many are kept, by the map
abbrev item_count : Vec Kept → ℕ
item_count v = length v.items

counted_items : (es : List (Verified × Vec Kept)) → sum_by length (values_of (items_of es)) ≡ sum_by item_count (values_of es)
counted_items [] = refl
counted_items (e ∷ es) = sum_by-cons length e.1.items (values_of (items_of es)) ∙ ap (λ n. length e.1.items + n) (counted_items es) ∙ sym (sum_by-cons item_count e.1 (values_of es))

pub count_set : (test : Verified → Bool) (es : List (Verified × Vec Kept)) (v w : Vec Kept) (last : Kept) → lookup test es ≡ Some v → w.items ≡ v.items ++ last ∷ []
    → kept_count (record { kept = items_of (set_value test es w) }) ≡ kept_count (record { kept = items_of es }) + 1
unfolding kept_count
count_set test es v w last found same =
    omega (arith, sum_by-set_value item_count test es v w found, counted_items es, counted_items (set_value test es w), ap length same, length-append v.items (last ∷ []))

verified_total : IsTotalOrder verified_cmp
verified_total = search (comparing, rules)

pub count_insert : (m : BTreeMap Verified (Vec Kept)) (verified : Verified) (w : Vec Kept) (last : Kept) → IsOrdered verified_cmp m → get verified_cmp m verified ≡ None → w.items ≡ last ∷ []
    → kept_count (record { kept = items_of (insert_entry verified_cmp m.entries verified w) }) ≡ kept_count (record { kept = items_of m.entries }) + 1
unfolding kept_count
count_insert m verified w last ordered none same =
    let added = sum_by-insert_entry item_count verified_total m.entries verified w ordered in
    let zero_more : unwrap_or (option_map item_count (get verified_cmp m verified)) 0 ≡ 0 = ap (λ o. unwrap_or (option_map item_count o) 0) none in
    omega (arith, added, zero_more, counted_items m.entries, counted_items (insert_entry verified_cmp m.entries verified w), ap length same)

-- what holds anyway holds at an error
pub at_err_too : {T E : Type 0} (r : Result T E) (P : Type 0) → P → OnErr r P
at_err_too (Ok x) P p = tt
at_err_too (Err e) P p = p
