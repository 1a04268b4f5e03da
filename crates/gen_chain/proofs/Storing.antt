-- A store after one check.
use Rattle.std.proofs.Common.{arith, ◌≡◌, ℕ, Bool, true, false, cond, eq-eqb, inl, inr, List, [], ◌∷◌, ◌++◌, None, Some, Result, Ok, Err, refl, sym, ap, subst, ◌∙◌}
use Rattle.std.specs.Prelude.{OnOk, OnErr, ◌≢◌, ◌≤◌, ◌+◌, is_some, nat_eq, ◌==◌, ◌&&◌, ◌↔◌}
use Rattle.std.specs.List.{AllPairs}
use Rattle.std.proofs.lemmas.Bool.{eqb-true}
use Rattle.std.proofs.lemmas.List.Quantifiers.{all_pairs_push}
use Rattle.std.specs.Cmp.Lexicographic.{pointwise, same_text}
use Rattle.gen_types.proofs.Lists.{bool_cases}
use Rattle.gen_net.specs.Header.{RunHeader}
use Rattle.gen_chain.specs.declared.statements.Statement.{Statement}
use Rattle.gen_chain.specs.declared.kept.Verified.{Verified}
use Rattle.gen_chain.specs.declared.kept.Kept.{Kept}
use Rattle.gen_chain.specs.Verifying.{HasSigned}
use Rattle.gen_chain.specs.Store.{Store, Triple, is_statement, same_verified, answer_in, kept_at, answer_of, kept_count, IsAfter, KeepsOnce, Serves, KeepsAll}
use Rattle.gen_chain.proofs.TestedChains.{both, and_so, same_list}
use Rattle.gen_chain.proofs.KeptAnswers.{ApartAt, answer_push, none_kept}

abbrev verified_of : Triple → Verified
verified_of t = record { signer = t.signer; statement = t.statement }

-- the triples are the same
abbrev pub is_triple : Triple → Triple → Bool
is_triple t u = same_verified (verified_of t) (verified_of u) && pointwise nat_eq t.signature u.signature

-- what the tests find the same is equal
pub one_verified : (a b : Verified) → same_verified a b ≡ true → a ≡ b
one_verified a b e =
    let p = both (a.signer == b.signer) (is_statement a.statement b.statement) e in
    let q = both (a.statement.order == b.statement.order) (pointwise nat_eq a.statement.path b.statement.path) p.1 in
    let signer = eqb-true _ _ p.0 in
    let order = eqb-true _ _ q.0 in
    let path = same_text a.statement.path b.statement.path (sym q.1) in
    λ i. record { signer = signer i; statement = record { order = order i; path = path i } }

pub same_triples : (t u : Triple) → is_triple t u ≡ true → t ≡ u
same_triples t u e =
    let p = both (same_verified (verified_of t) (verified_of u)) (pointwise nat_eq t.signature u.signature) e in
    let verified = one_verified (verified_of t) (verified_of u) p.0 in
    let signature = same_text t.signature u.signature (sym p.1) in
    λ i. record { signer = (verified i).signer; statement = (verified i).statement; signature = signature i }

same_statement_itself : (s : Statement) → is_statement s s ≡ true
same_statement_itself s = and_so (s.order == s.order) (pointwise nat_eq s.path s.path) (eq-eqb _ _ refl) (same_list s.path)

pub same_itself : (t : Triple) → is_triple t t ≡ true
same_itself t =
    let verified = and_so (t.signer == t.signer) (is_statement t.statement t.statement) (eq-eqb _ _ refl) (same_statement_itself t.statement) in
    and_so (same_verified (verified_of t) (verified_of t)) (pointwise nat_eq t.signature t.signature) verified (same_list t.signature)

-- a store after a check, by the test
pub after_by : (old new : Store) (t : Triple) (answer : Bool) → ((u : Triple) → answer_of new u ≡ cond (is_triple t u) (Some answer) (answer_of old u))
    → kept_count new ≡ kept_count old + cond (is_some (answer_of old t)) 0 1 → IsAfter old t answer new
after_by old new t answer told count = record { here = told t ∙ rw (same_itself t) refl; others = others; count = count }
  where
    others : (u : Triple) → u ≢ t → answer_of new u ≡ answer_of old u
    others u apart = elim (bool_cases (is_triple t u)) [
      | inl y ↦ absurd (apart (sym (same_triples t u y)))
      | inr n ↦ told u ∙ rw n refl
    ]

apart_so : (t u : Triple) → is_triple t u ≡ false → u ≢ t
apart_so t u n e = let self = subst (λ (v : Triple). is_triple t v ≡ true) (sym e) (same_itself t) in absurd cc

-- a check of what is not kept keeps one signature more
pub after_one_more : (old new : Store) (t : Triple) (last : Kept) → last.signature ≡ t.signature → answer_of old t ≡ None
    → kept_at new.kept (verified_of t) ≡ kept_at old.kept (verified_of t) ++ last ∷ []
    → ((other : Verified) → same_verified (verified_of t) other ≡ false → kept_at new.kept other ≡ kept_at old.kept other)
    → kept_count new ≡ kept_count old + 1 → IsAfter old t last.answer new
unfolding answer_of
after_one_more old new t last same none here others count = after_by old new t last.answer told (rw none count)
  where
    told : (u : Triple) → answer_of new u ≡ cond (is_triple t u) (Some last.answer) (answer_of old u)
    told u = elim (bool_cases (same_verified (verified_of t) (verified_of u))) [
      | inl y ↦
          let one = one_verified (verified_of t) (verified_of u) y in
          let at_u : kept_at new.kept (verified_of u) ≡ kept_at old.kept (verified_of u) ++ last ∷ [] = subst (λ (c : Verified). kept_at new.kept c ≡ kept_at old.kept c ++ last ∷ []) one here in
          let absent : answer_in (kept_at old.kept (verified_of u)) last.signature ≡ None = subst (λ (c : Verified). answer_in (kept_at old.kept c) last.signature ≡ None) one (rw same none) in
          rw y (ap (λ (xs : List Kept). answer_in xs u.signature) at_u ∙ (answer_push (kept_at old.kept (verified_of u)) last u.signature absent ∙ ap (λ (xs : List ℕ). cond (pointwise nat_eq xs u.signature) (Some last.answer) (answer_in (kept_at old.kept (verified_of u)) u.signature)) same))
      | inr n ↦ rw n (ap (λ (xs : List Kept). answer_in xs u.signature) (others (verified_of u) n))
    ]

-- whether the general has signed what the triple says
abbrev pub IsRight : RunHeader → Triple → Bool → Type 0
IsRight h t answer = (answer ≡ true) ↔ HasSigned h t.signer t.statement t.signature

some_one : {X : Type 0} (x y : X) → Some x ≡ Some y → x ≡ y
some_one x y e = cc

one_answer : (h : RunHeader) (t : Triple) (a b : Bool) → IsRight h t a → IsRight h t b → a ≡ b
one_answer h t a b p q = elim (bool_cases a) [
  | inl ta ↦ ta ∙ sym (q.1 (p.0 ta))
  | inr fa ↦ elim (bool_cases b) [
    | inl tb ↦ p.1 (q.0 tb) ∙ sym tb
    | inr fb ↦ fa ∙ sym fb
  ]
]

pub serves_after : (h : RunHeader) (old new : Store) (t : Triple) (answer : Bool) → Serves h old → IsRight h t answer → IsAfter old t answer new → Serves h new
serves_after h old new t answer serves right after u b e = elim (bool_cases (is_triple t u)) [
  | inl y ↦
      let said : answer_of new u ≡ Some answer = subst (λ (v : Triple). answer_of new v ≡ Some answer) (same_triples t u y) after.here in
      let one : answer ≡ b = some_one answer b (sym said ∙ e) in
      subst (λ (v : Triple). IsRight h v b) (same_triples t u y) (subst (λ (a : Bool). IsRight h t a) one right)
  | inr n ↦
      let said : answer_of new u ≡ answer_of old u = after.others u (apart_so t u n) in
      serves u b (sym said ∙ e)
]

pub keeps_after : (h : RunHeader) (old new : Store) (t : Triple) (answer : Bool) → Serves h old → IsRight h t answer → IsAfter old t answer new → KeepsAll old new
keeps_after h old new t answer serves right after u b e = elim (bool_cases (is_triple t u)) [
  | inl y ↦
      let said : answer_of new u ≡ Some answer = subst (λ (v : Triple). answer_of new v ≡ Some answer) (same_triples t u y) after.here in
      let one : answer ≡ b = one_answer h u answer b (subst (λ (v : Triple). IsRight h v answer) (same_triples t u y) right) (serves u b e) in
      said ∙ ap Some one
  | inr n ↦ after.others u (apart_so t u n) ∙ e
]

at_most_one : (b : Bool) (count after : ℕ) → after ≡ count + cond b 0 1 → after ≤ count + 1
at_most_one true count after e = omega (arith, e)
at_most_one false count after e = omega (arith, e)

pub count_after : (old new : Store) (t : Triple) (answer : Bool) → IsAfter old t answer new → kept_count new ≤ kept_count old + 1
count_after old new t answer after = at_most_one (is_some (answer_of old t)) (kept_count old) (kept_count new) after.count

-- a key that has one signature more keeps none twice, where this one was not kept
pub once_more : (old new : Store) (verified : Verified) (last : Kept) → KeepsOnce old → answer_in (kept_at old.kept verified) last.signature ≡ None
    → kept_at new.kept verified ≡ kept_at old.kept verified ++ last ∷ []
    → ((other : Verified) → same_verified verified other ≡ false → kept_at new.kept other ≡ kept_at old.kept other)
    → KeepsOnce new
once_more old new verified last once none here others other = elim (bool_cases (same_verified verified other)) [
  | inl y ↦
      let apart = all_pairs_push ApartAt (kept_at old.kept verified) last (once verified) (λ k d below. none_kept (kept_at old.kept verified) last.signature none k d below) in
      subst (λ (v : Verified). AllPairs ApartAt (kept_at new.kept v)) (one_verified verified other y) (subst (AllPairs ApartAt) (sym here) apart)
  | inr n ↦ subst (AllPairs ApartAt) (sym (others other n)) (once other)
]

-- what comes of both is so either way
pub either_way : {T E : Type 0} (r : Result T E) (A B P : Type 0) → OnOk r A → OnErr r B → (A → P) → (B → P) → P
either_way (Ok x) A B P a b good bad = good a
either_way (Err e) A B P a b good bad = bad b
