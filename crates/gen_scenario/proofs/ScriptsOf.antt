-- Who has a script, and the lines of it.
use Rattle.std.proofs.Common.{◌≡◌, inl, inr, ℕ, List, [], ◌∷◌, Contains, refl, subst, eqb, Some, None, ◌↔◌, true, false, Option, sym, ◌∙◌}
use Rattle.std.proofs.lemmas.Bool.{eqb-true, eq-eqb}
use Rattle.gen_types.proofs.Lists.{Contains_here, Contains_there, Contains_cases, Contains_nil, bool_cases}
use Rattle.gen_script.specs.declared.lines.ScriptLine.{ScriptLine}
use Rattle.gen_script.specs.Script.{Script}
use Rattle.gen_scenario.specs.Scenario.{scripted, script_of, Scenario, IsScenario, SignsForTraitors, has_script}
use Rattle.gen_scenario.proofs.Having.{true_false, in_mapped}
use Rattle.gen_scenario.specs.RoundEntries.{lines_in}
use Rattle.gen_script.specs.Line.{IsScriptLine}
use Rattle.gen_types.proofs.Among.{among_in, in_among, among_out, out_among}

-- who is not among the generals with scripts has none
pub script_none : (scripts : List Script) (g : ℕ) → (Contains (scripted scripts) g → ⊥) → script_of scripts g ≡ None
unfolding script_of
script_none [] g out = refl
script_none (x ∷ scripts) g out = elim (bool_cases (eqb x.general g)) [
  | inl e ↦ absurd (out (subst (λ h. Contains (scripted (x ∷ scripts)) h) (eqb-true _ _ e) (Contains_here x.general (scripted scripts))))
  | inr e ↦ rw e (script_none scripts g (λ h. out (Contains_there x.general g (scripted scripts) h)))
]

-- who is among them has one
pub script_some : (scripts : List Script) (g : ℕ) → Contains (scripted scripts) g → (lines : List ScriptLine) × (script_of scripts g ≡ Some lines)
unfolding script_of
script_some [] g h = absurd (Contains_nil g h)
script_some (x ∷ scripts) g h = elim (bool_cases (eqb x.general g)) [
  | inl e ↦ (x.lines, rw e refl)
  | inr out ↦ elim (Contains_cases x.general g (scripted scripts) h) [
    | inl e ↦ absurd (true_false (eqb x.general g) (eq-eqb _ _ e) out)
    | inr k ↦ let r = script_some scripts g k in (r.0, rw out r.1)
  ]
]

-- the script that these lines are of
pub record IsScriptOf (scripts : List Script) (g : ℕ) (lines : List ScriptLine) : Type 0 where
  pub script : Script
  pub stands : Contains scripts script
  pub general_is : script.general ≡ g
  pub lines_are : script.lines ≡ lines

pub script_found : (scripts : List Script) (g : ℕ) (lines : List ScriptLine) → script_of scripts g ≡ Some lines → IsScriptOf scripts g lines
unfolding script_of
script_found [] g lines e = absurd cc
script_found (x ∷ scripts) g lines e = elim (bool_cases (eqb x.general g)) [
  | inl here ↦
      let found : Some x.lines ≡ Some lines = rw here at e in
      let same : x.lines ≡ lines = cc in
      record { script = x; stands = Contains_here x scripts; general_is = eqb-true _ _ here; lines_are = same }
  | inr out ↦
      let found : script_of scripts g ≡ Some lines = rw out at e in
      let r = script_found scripts g lines found in
      record { script = r.script; stands = Contains_there x r.script scripts r.stands; general_is = r.general_is; lines_are = r.lines_are }
]

-- the lines of his script, none where he has no script
abbrev pub lines_of : List Script → ℕ → List ScriptLine
lines_of scripts g = lines_in (script_of scripts g)

pub record IsLineOf (scripts : List Script) (g : ℕ) (line : ScriptLine) : Type 0 where
  pub script : Script
  pub stands : Contains scripts script
  pub general_is : script.general ≡ g
  pub has : Contains script.lines line

line_in : (scripts : List Script) (g : ℕ) (line : ScriptLine) (o : Option (List ScriptLine)) → script_of scripts g ≡ o → Contains (lines_in o) line → IsLineOf scripts g line
line_in scripts g line None e h = absurd (Contains_nil line h)
line_in scripts g line (Some lines) e h =
    let r = script_found scripts g lines e in
    record { script = r.script; stands = r.stands; general_is = r.general_is; has = subst (λ (ls : List ScriptLine). Contains ls line) (sym r.lines_are) h }

pub line_of : (scripts : List Script) (g : ℕ) (line : ScriptLine) → Contains (lines_of scripts g) line → IsLineOf scripts g line
line_of scripts g line h = line_in scripts g line (script_of scripts g) refl h

pub has_line : (scripts : List Script) (g : ℕ) (lines : List ScriptLine) → script_of scripts g ≡ Some lines → (line : ScriptLine) → Contains lines line → Contains (lines_of scripts g) line
has_line scripts g lines e line h = rw e h

-- his lines are lawful, and traitors alone sign by them
pub lawful_line : (s : Scenario) → IsScenario s → (g : ℕ) (line : ScriptLine) → Contains (lines_of s.scripts g) line → IsScriptLine s.net g line
lawful_line s ok g line h =
    let r = line_of s.scripts g line h in
    subst (λ k. IsScriptLine s.net k line) r.general_is (ok.lawful r.script line r.stands r.has)

pub signing_line : (s : Scenario) → IsScenario s → (g : ℕ) (line : ScriptLine) → Contains (lines_of s.scripts g) line → SignsForTraitors s.scripts line
signing_line s ok g line h =
    let r = line_of s.scripts g line h in
    ok.signers r.script line r.stands r.has

-- whether a general has a script, as a test
pub with_script : (s : Scenario) (g : ℕ) → (has_script s g ≡ true) ↔ ((lines : List ScriptLine) × (script_of s.scripts g ≡ Some lines))
with_script s g = (
  (λ e. script_some s.scripts g (among_in (scripted s.scripts) g e)),
  (λ some.
      let r = script_found s.scripts g some.0 some.1 in
      let mine : Contains (scripted s.scripts) r.script.general = in_mapped (λ (x : Script). x.general) s.scripts r.script r.stands in
      in_among (scripted s.scripts) g (subst (λ k. Contains (scripted s.scripts) k) r.general_is mine)),
)

pub without_script : (s : Scenario) (g : ℕ) → (has_script s g ≡ false) ↔ (script_of s.scripts g ≡ None)
without_script s g = (
  (λ e. script_none s.scripts g (among_out (scripted s.scripts) g e)),
  (λ none. out_among (scripted s.scripts) g (λ h. let some = script_some s.scripts g h in let both : None ≡ Some some.0 = sym none ∙ some.1 in cc)),
)
