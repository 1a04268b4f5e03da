-- Under each leaf one text.
use Rattle.std.proofs.Common.{◌≡◌, ◌<◌, ◌≤◌, ◌+◌, ◌*◌, ◌⊎◌, inl, inr, ℕ, true, List, [], ◌∷◌, Contains, Option, Some, None, refl, sym, ap, subst, ◌∙◌, arith}
use Rattle.std.specs.List.{AllByRecursion}
use Rattle.gen_types.proofs.Lists.{Contains_cases, Contains_nil}
use Rattle.gen_net.specs.Version.{slot_in}
use Rattle.gen_chain.specs.declared.statements.Statement.{Statement}
use Rattle.gen_chain.specs.Leaves.{leaves_per_run}
use Rattle.gen_log.specs.declared.entries.Entry.TheVariants.{Sign}
use Rattle.gen_log.specs.Entry.{IsEntryOf}
use Rattle.gen_log.specs.Log.{RunLog}
use Rattle.gen_log.specs.Signing.{HasSign}
use Rattle.gen_scenario.specs.Scenario.{Scenario, IsScenario, header_of, script_of}
use Rattle.gen_scenario.specs.WorldLogs.{logs_of}
use Rattle.gen_scenario.proofs.VerifiedLogs.{all_verify}
use Rattle.gen_general.specs.Spending.{EachLeafSignsOnce}
use Rattle.gen_general.proofs.Spending.{followers_sign_once, one_log}
use Rattle.gen_campaign.specs.Series.{ascend_from}
use Rattle.gen_campaign.specs.OneText.{EachLeafHasOneText, IsTextOf, SignsUnder}
use Rattle.gen_campaign.proofs.Testing.{slots_kept}

-- ---- which leaves are a run's

all_at : {X : Type 0} (P : X → Type 0) (xs : List X) (x : X) → AllByRecursion P xs → Contains xs x → P x
all_at P [] x all h = absurd (Contains_nil x h)
all_at P (y ∷ xs) x all h = elim (Contains_cases y x xs h) [
  | inl here ↦ subst P here all.0
  | inr there ↦ all_at P xs x all.1 there
]

abbrev IsInRun : Scenario → ℕ → Type 0
IsInRun s leaf = (k : ℕ) × (k < leaves_per_run) × (leaf ≡ leaves_per_run * slot_in s.version + k)

in_run : (s : Scenario) (g leaf : ℕ) (text : Option Statement) → IsScenario s → g < s.net.generals → SignsUnder s g leaf text → IsInRun s leaf
in_run s g leaf None ok low signs = (15, omega arith, signs.stands)
in_run s g leaf (Some x) ok low signs =
    let verifies = all_verify s ok g low signs.log signs.his in
    let fits = all_at (IsEntryOf (header_of s)) signs.log.entries (Sign x.order x.path signs.stands.0.0) verifies.fits_run.entries signs.stands.0.1 in
    (x.order, omega (arith, fits.0, ok.network.ranges.few_orders), signs.stands.1)

-- ---- the slots of runs

above : (least : ℕ) (runs : List Scenario) (s : Scenario) → ascend_from least runs ≡ true → Contains runs s → least ≤ slot_in s.version
above least [] s up h = absurd (Contains_nil s h)
above least (r ∷ runs) s up h =
    let kept = slots_kept least r runs (r ∷ runs) refl up in
    elim (Contains_cases r s runs h) [
      | inl here ↦ subst (λ (x : Scenario). least ≤ slot_in x.version) here kept.0
      | inr there ↦ let more = above (slot_in r.version + 1) runs s kept.1 there in omega (arith, more, kept.0)
    ]

abbrev AreApart : Scenario → Scenario → Type 0
AreApart s t = (s ≡ t) ⊎ ((slot_in s.version < slot_in t.version) ⊎ (slot_in t.version < slot_in s.version))

apart : (least : ℕ) (runs : List Scenario) (s t : Scenario) → ascend_from least runs ≡ true → Contains runs s → Contains runs t → AreApart s t
apart least [] s t up h k = absurd (Contains_nil s h)
apart least (r ∷ runs) s t up h k =
    let kept = slots_kept least r runs (r ∷ runs) refl up in
    elim (Contains_cases r s runs h) [
      | inl here ↦ elim (Contains_cases r t runs k) [
        | inl same ↦ inl (sym here ∙ same)
        | inr later ↦
            let more = above (slot_in r.version + 1) runs t kept.1 later in
            inr (inl (subst (λ (x : Scenario). slot_in x.version < slot_in t.version) here (omega (arith, more))))
      ]
      | inr there ↦ elim (Contains_cases r t runs k) [
        | inl same ↦
            let more = above (slot_in r.version + 1) runs s kept.1 there in
            inr (inr (subst (λ (x : Scenario). slot_in x.version < slot_in s.version) same (omega (arith, more))))
        | inr later ↦ apart (slot_in r.version + 1) runs s t kept.1 there later
      ]
    ]

-- ---- texts of one run

sole : (a b : RunLog) → Contains (a ∷ []) b → a ≡ b
sole a b h = elim (Contains_cases a b [] h) [ inl here ↦ here | inr there ↦ absurd (Contains_nil b there) ]

one_of : (a b c : RunLog) (logs : List RunLog) → logs ≡ a ∷ [] → Contains logs b → Contains logs c → b ≡ c
one_of a b c logs e hb hc =
    sym (sole a b (subst (λ (xs : List RunLog). Contains xs b) e hb)) ∙ sole a c (subst (λ (xs : List RunLog). Contains xs c) e hc)

one_text : (s : Scenario) (g leaf : ℕ) (log : RunLog) (x y : Option Statement) → EachLeafSignsOnce (header_of s) log → IsTextOf (header_of s) log leaf x → IsTextOf (header_of s) log leaf y → x ≡ y
one_text s g leaf log None None once a b = refl
one_text s g leaf log (Some x) None once a b = absurd (once.head x a.0 (sym a.1 ∙ b))
one_text s g leaf log None (Some y) once a b = absurd (once.head y b.0 (sym b.1 ∙ a))
one_text s g leaf log (Some x) (Some y) once a b = ap (λ (z : Statement). Some z) (once.statements x y a.0 b.0 (sym a.1 ∙ b.1))

within : (s : Scenario) (g leaf : ℕ) (x y : Option Statement) → IsScenario s → SignsUnder s g leaf x → SignsUnder s g leaf y → x ≡ y
within s g leaf x y ok a b =
    let same : b.log ≡ a.log = one_of _ b.log a.log (logs_of s g) (one_log s g a.loyal) b.his a.his in
    one_text s g leaf a.log x y (followers_sign_once s ok g a.loyal a.log a.his) a.stands (subst (λ (log : RunLog). IsTextOf (header_of s) log leaf y) same b.stands)

-- ---- texts of all runs

pub one_text_each : (runs : List Scenario) → ((s : Scenario) → Contains runs s → IsScenario s) → ascend_from 0 runs ≡ true → EachLeafHasOneText runs
one_text_each runs ok up s t g leaf x y h k low high a b =
    let one = in_run s g leaf x (ok s h) low a in
    let other = in_run t g leaf y (ok t k) high b in
    elim (apart 0 runs s t up h k) [
      | inl same ↦ (same, within t g leaf x y (ok t k) (subst (λ (r : Scenario). SignsUnder r g leaf x) same a) b)
      | inr either ↦ elim either [
        | inl before ↦ absurd (omega (arith, before, one.1, one.2, other.1, other.2))
        | inr after ↦ absurd (omega (arith, after, one.1, one.2, other.1, other.2))
      ]
    ]
