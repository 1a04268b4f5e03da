-- What one general knows of a scenario: his script, and the trees of those who have one.
use Rattle.std.proofs.Common.{◌≡◌, ◌<◌, ◌↔◌, ℕ, zero, suc, Bool, true, false, List, [], ◌∷◌, refl, sym, ap, subst, eqb, Option, Some, None, IsSome, IfSome, inl, inr, map, length, get_or, Contains, arith}
use Rattle.std.proofs.Math.Dec.{eqb-suc-zero}
use Rattle.std.specs.Bool.{then_some}
use Rattle.std.proofs.lemmas.Bool.{eqb-true, eq-eqb}
use Rattle.std.proofs.lemmas.List.Elements.{Contains-get_or}
use Rattle.gen_types.proofs.Lists.{Contains_nil, Contains_cases, Contains_mapped, bool_cases}
use Rattle.gen_net.specs.Header.{IsHeader}
use Rattle.gen_net.specs.Version.{height_in}
use Rattle.gen_script.specs.declared.lines.ScriptLine.{ScriptLine}
use Rattle.gen_script.specs.Line.{IsScriptLine}
use Rattle.gen_script.specs.Script.{Script}
use Rattle.gen_scenario.specs.Scenario.{Scenario, IsScenario, header_of, scripted, script_of}
use Rattle.gen_scenario.specs.SignedWorld.{own_order}
use Rattle.gen_scenario.specs.SignerTrees.{tree_in, CanSign, ArePlayable}
use Rattle.gen_scenario.specs.Trees.{general_tree}
use Rattle.gen_scenario.specs.Part.{IsPart, signer_tree, trees_known}
use Rattle.gen_scenario.proofs.Having.{in_mapped}
use Rattle.gen_scenario.proofs.ScriptsOf.{script_found}

-- ---- his script

pub script_here : (g : ℕ) (xs others : List Script) (x : Script) → xs ≡ x ∷ others → eqb x.general g ≡ true → script_of xs g ≡ Some x.lines
unfolding script_of
script_here g xs others x e here = rw (e, here) refl

pub script_later : (g : ℕ) (xs others : List Script) (x : Script) → xs ≡ x ∷ others → eqb x.general g ≡ false → script_of xs g ≡ script_of others g
unfolding script_of
script_later g xs others x e other = rw (e, other) refl

pub script_nowhere : (g : ℕ) (xs : List Script) → xs ≡ [] → script_of xs g ≡ None
unfolding script_of
script_nowhere g xs e = rw e refl

-- ---- the trees of those who have scripts

pub script_known : (s : Scenario) → IsScenario s → (xs : List Script) (i : ℕ) (x : Script) → xs ≡ s.scripts → i < length xs → x ≡ get_or xs i x → x.general < s.net.generals
script_known s ok xs i x same within at = ok.known x (subst (λ (ys : List Script). Contains ys x) same (subst (Contains xs) (sym at) (Contains-get_or xs i x within)))

-- the tree of one of them
pub tree_found : (s : Scenario) (gs : List ℕ) (g : ℕ) → Contains gs g → tree_in (map (signer_tree s) gs) g ≡ Some (general_tree s.master (height_in s.version) g)
unfolding tree_in
tree_found s [] g h = absurd (Contains_nil g h)
tree_found s (x ∷ gs) g h = elim (bool_cases (eqb x g)) [
  | inl here ↦ rw here (ap (λ v. Some (general_tree s.master (height_in s.version) v)) (eqb-true x g here))
  | inr out ↦ elim (Contains_cases x g gs h) [
    | inl e ↦ let t = eq-eqb x g e in absurd cc
    | inr there ↦ rw out (tree_found s gs g there)
  ]
]

can_sign : (s : Scenario) → IsScenario s → (g : ℕ) → Contains (scripted s.scripts) g → g < s.net.generals → CanSign (header_of s) (map (signer_tree s) (scripted s.scripts)) g
can_sign s ok g h low = record {
  known = low;
  tree = general_tree s.master (height_in s.version) g;
  found = tree_found s (scripted s.scripts) g h;
  height = refl;
}

scripted_low : (s : Scenario) → IsScenario s → (scripts : List Script) (g : ℕ) → ((x : Script) → Contains scripts x → Contains s.scripts x) → Contains (scripted scripts) g → g < s.net.generals
scripted_low s ok scripts g inside h =
    let r = Contains_mapped (λ (x : Script). x.general) scripts g h in
    subst (λ v. v < s.net.generals) r.2 (ok.known r.0 (inside r.0 r.1))

playable : (s : Scenario) → IsScenario s → (g : ℕ) (lines : List ScriptLine) → script_of s.scripts g ≡ Some lines → ArePlayable (header_of s) (map (signer_tree s) (scripted s.scripts)) g lines
playable s ok g lines e =
    let is = script_found s.scripts g lines e in
    let all : (h : ℕ) → Contains (scripted s.scripts) h → CanSign (header_of s) (map (signer_tree s) (scripted s.scripts)) h =
    λ h there. can_sign s ok h there (scripted_low s ok s.scripts h (λ x k. k) there) in
    let himself : Contains (scripted s.scripts) g = subst (Contains (scripted s.scripts)) is.general_is (in_mapped (λ (x : Script). x.general) s.scripts is.script is.stands) in
    let line_of : (line : ScriptLine) → Contains lines line → Contains is.script.lines line = λ line h. subst (λ (ls : List ScriptLine). Contains ls line) (sym is.lines_are) h in
    record {
      own = all g himself;
      lawful = λ line h. subst (λ v. IsScriptLine s.net v line) is.general_is (ok.lawful is.script line is.stands (line_of line h));
      signers = λ line h path named member there. all member (ok.signers is.script line is.stands (line_of line h) path named member there);
    }

-- ---- what he knows

-- the own order by a test for the commander
pub own_told : (s : Scenario) (g : ℕ) (commander : Bool) → commander ≡ eqb g 0 → then_some commander s.order ≡ own_order s g
own_told s zero commander is = rw is refl
own_told s (suc g) commander is = rw (is, eqb-suc-zero g) refl

own_low : (s : Scenario) → IsScenario s → (g : ℕ) → IfSome (own_order s g) (λ order. order < s.net.orders)
own_low s ok zero = ok.order_known
own_low s ok (suc g) = tt

own_is : (s : Scenario) (g : ℕ) → IsSome (own_order s g) ↔ (g ≡ 0)
own_is s zero = (λ h. refl, λ e. refl)
own_is s (suc g) = (λ h. absurd cc, λ e. absurd (omega (arith, e)))

pub knows : (s : Scenario) → IsScenario s → IsHeader (header_of s) → (g : ℕ) → g < s.net.generals → (script : Option (List ScriptLine)) → script_of s.scripts g ≡ script → IsPart (record { header = header_of s; me = g; own = own_order s g; script = script; trees = trees_known s script })
knows s ok header g low None e = record { header = header; me = low; own = own_low s ok g; commander = own_is s g; script = tt }
knows s ok header g low (Some lines) e = record { header = header; me = low; own = own_low s ok g; commander = own_is s g; script = playable s ok g lines e }
