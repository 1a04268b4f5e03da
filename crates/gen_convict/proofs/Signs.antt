-- Whether a log has a SIGN of a statement, as a test.
use Rattle.std.proofs.Common.{◌≡◌, ◌↔◌, ◌⊎◌, inl, inr, Bool, true, false, ◌||◌, IsTrue, List, [], ◌∷◌, Contains, refl, sym, ap, subst, ◌∙◌}
use Rattle.std.specs.List.{list_any}
use Rattle.gen_types.proofs.Lists.{Contains_here, Contains_there, Contains_cases, Contains_nil}
use Rattle.gen_chain.specs.declared.statements.Statement.{Statement}
use Rattle.gen_log.specs.declared.entries.Entry.{Entry}
use Rattle.gen_log.specs.declared.entries.Entry.TheVariants.{Sign}
use Rattle.gen_log.specs.Log.{RunLog}
use Rattle.gen_log.specs.Signing.{HasSign, is_sign_of}
use Rattle.gen_log.proofs.SignedStatements.{is_sign, sign_is}

either : (a b : Bool) → (a || b) ≡ true → (a ≡ true) ⊎ (b ≡ true)
either true b e = inl refl
either false b e = inr e

or_left : (a b : Bool) → a ≡ true → (a || b) ≡ true
or_left true b e = refl
or_left false b e = absurd cc

or_right : (a b : Bool) → b ≡ true → (a || b) ≡ true
or_right true b e = refl
or_right false b e = e

-- one of a list passes a test exactly where the test of the list says so
pub any_found : {X : Type 0} (test : X → Bool) (xs : List X) → list_any test xs ≡ true → (x : X) × Contains xs x × (test x ≡ true)
any_found test [] e = absurd cc
any_found test (x ∷ xs) e = elim (either (test x) (list_any test xs) e) [
  | inl here ↦ (x, Contains_here x xs, here)
  | inr there ↦ let r = any_found test xs there in (r.0, Contains_there x r.0 xs r.1, r.2)
]

pub any_told : {X : Type 0} (test : X → Bool) (xs : List X) (x : X) → Contains xs x → test x ≡ true → list_any test xs ≡ true
any_told test [] x h e = absurd (Contains_nil x h)
any_told test (y ∷ ys) x h e = elim (Contains_cases y x ys h) [
  | inl same ↦ or_left (test y) (list_any test ys) (ap test same ∙ e)
  | inr there ↦ or_right (test y) (list_any test ys) (any_told test ys x there e)
]

pub sign_found : (log : RunLog) (s : Statement) → list_any (is_sign_of s) log.entries ≡ true → HasSign log s
sign_found log s e =
    let r = any_found (is_sign_of s) log.entries e in
    let is = is_sign s r.0 r.2 in
    (is.0, subst (λ (f : Entry). Contains log.entries f) is.1 r.1)

pub sign_told : (log : RunLog) (s : Statement) → HasSign log s → list_any (is_sign_of s) log.entries ≡ true
sign_told log s has = any_told (is_sign_of s) log.entries (Sign s.order s.path has.0) has.1 (sign_is s has.0)

-- two tests of one thing say the same
pub one_test : (P : Type 0) (a b : Bool) → (a ≡ true → P) → (P → a ≡ true) → (b ≡ true → P) → (P → b ≡ true) → a ≡ b
one_test P true b at an bt bn = sym (bn (at refl))
one_test P false true at an bt bn = an (bt refl)
one_test P false false at an bt bn = refl

pub has_sign_tests : (log : RunLog) (s : Statement) (b : Bool) → IsTrue b ↔ HasSign log s → b ≡ list_any (is_sign_of s) log.entries
has_sign_tests log s b is = one_test (HasSign log s) b (list_any (is_sign_of s) log.entries) (λ e. is.0 e) (λ h. is.1 h) (sign_found log s) (sign_told log s)
