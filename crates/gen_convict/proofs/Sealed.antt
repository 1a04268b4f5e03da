-- Bytes are one log at most, so what is found of the log that was read is so of any.
use Rattle.std.specs.Bool.{nat_eq}
use Rattle.std.proofs.lemmas.Bool.{eqb-true, eq-eqb}
use Rattle.std.proofs.Common.{◌≡◌, ℕ, ◌↔◌, Bool, IsTrue, Option, Some, None, List, [], ◌++◌, sym, ap, subst, ◌∙◌}
use Rattle.gen_types.specs.Spelled.{Spells}
use Rattle.gen_types.proofs.Front.{one_spelling_by}
use Rattle.gen_net.specs.Departs.{DepartsAt}
use Rattle.gen_net.specs.Header.{RunHeader, IsHeader}
use Rattle.gen_chain.specs.declared.statements.Statement.{Statement}
use Rattle.gen_log.specs.Log.{RunLog, IsLog, log_spelling}
use Rattle.gen_log.specs.LogReading.{log_at}
use Rattle.gen_log.specs.Signing.{HasSign}
use Rattle.gen_log.proofs.LogLaws.{logs_read}
use Rattle.gen_local.specs.Erased.{erased}
use Rattle.gen_local.specs.SignedTexts.{stated}
use Rattle.gen_convict.specs.Accused.{TextVerifies}
use Rattle.gen_convict.specs.Contradictions.{IsSealedLogOf, IsMissingFrom, IsDepartingAt}

pub one_log : (h : RunHeader) (bytes : List ℕ) (a b : RunLog) → IsHeader h → Spells (IsLog h) log_spelling bytes a → Spells (IsLog h) log_spelling bytes b → a ≡ b
one_log h bytes a b ok is_a is_b =
    let same : log_spelling a ≡ log_spelling b = sym is_a.spelled ∙ is_b.spelled in
    (one_spelling_by (log_at h) log_spelling (IsLog h) (logs_read h ok.network.ranges.few_orders) a b [] [] is_a.fits is_b.fits (ap (λ (t : List ℕ). t ++ []) same)).0

pub missing_told : (h : RunHeader) (g : ℕ) (bytes : List ℕ) (log : RunLog) (s : Statement) (signature : List ℕ) (told : Bool) → IsHeader h → IsSealedLogOf h g bytes log → IsTrue told ↔ (TextVerifies h g (stated s.order s.path g signature) × (HasSign log s → ⊥)) → IsTrue told ↔ IsMissingFrom h g bytes s signature
missing_told h g bytes log s signature told ok sealed is = (
  (λ t. let k = is.0 t in record { log = log; his = sealed; verifies = k.0; missing = k.1 }),
  (λ m. is.1 (m.verifies, subst (λ (l : RunLog). HasSign l s → ⊥) (one_log h bytes m.log log ok m.his.reads sealed.reads) m.missing)),
)

pub departing_told : (h : RunHeader) (g : ℕ) (bytes : List ℕ) (log : RunLog) (p : ℕ) (told : Bool) → IsHeader h → IsSealedLogOf h g bytes log → IsTrue told ↔ DepartsAt h.network g (erased log.entries) p → IsTrue told ↔ IsDepartingAt h g bytes p
departing_told h g bytes log p told ok sealed is = (
  (λ t. record { log = log; his = sealed; departs = is.0 t }),
  (λ m. is.1 (subst (λ (l : RunLog). DepartsAt h.network g (erased l.entries) p) (one_log h bytes m.log log ok m.his.reads sealed.reads) m.departs)),
)

-- a number that is found, or none, has the property alone
pub found_told : (D : ℕ → Type 0) (r : Option ℕ) (index entry : ℕ) → r ≡ Some index → ((p : ℕ) → (r ≡ Some p) ↔ D p) → IsTrue (nat_eq index entry) ↔ D entry
found_told D r index entry e is = (
  (λ t. subst D (eqb-true index entry t) ((is index).0 e)),
  (λ d. let k : Some index ≡ Some entry = sym e ∙ (is entry).1 d in let same : index ≡ entry = cc in eq-eqb index entry same),
)

pub none_told : (D : ℕ → Type 0) (r : Option ℕ) (entry : ℕ) → r ≡ None → ((p : ℕ) → (r ≡ Some p) ↔ D p) → D entry → ⊥
none_told D r entry e is d = let k : None ≡ Some entry = sym e ∙ (is entry).1 d in absurd cc
