-- Scenarios in which two generals have scripts of two lines each.
use Rattle.std.proofs.Common.{◌≡◌, ◌<◌, ◌≤◌, ℕ, true, List, [], ◌∷◌, subst, Some, inl, inr, Contains, arith}
use Rattle.std.specs.List.{list_all}
use Rattle.gen_types.specs.Ends.{is_among}
use Rattle.gen_types.proofs.Among.{among_in}
use Rattle.gen_types.proofs.Decimals.{both}
use Rattle.gen_types.proofs.Lists.{Contains_cases, Contains_nil}
use Rattle.gen_net.specs.declared.version.Version.{Version}
use Rattle.gen_net.specs.Version.{slot_in, greatest_slot}
use Rattle.gen_net.specs.Network.{Network, IsNetwork}
use Rattle.gen_script.specs.declared.lines.ScriptLine.{ScriptLine}
use Rattle.gen_script.specs.Line.{IsScriptLine}
use Rattle.gen_script.specs.NamedPath.{named_path}
use Rattle.gen_script.specs.Script.{Script}
use Rattle.gen_scenario.specs.Scenario.{IsScenario}

pub one_member : {X : Type 0} (P : X → Type 0) (a : X) → P a → (x : X) → Contains (a ∷ []) x → P x
one_member P a p x h = elim (Contains_cases a x [] h) [
  | inl e ↦ subst P e p
  | inr none ↦ absurd (Contains_nil x none)
]

pub all_among : (known path : List ℕ) → list_all (is_among known) path ≡ true → (g : ℕ) → Contains path g → Contains known g
all_among known [] all g h = absurd (Contains_nil g h)
all_among known (x ∷ path) all g h =
    let parts = both (is_among known x) (list_all (is_among known) path) all in
    elim (Contains_cases x g path h) [
      | inl e ↦ subst (Contains known) e (among_in known x parts.0)
      | inr there ↦ all_among known path parts.1 g there
    ]

-- those of a list alone sign in a line
abbrev pub SignAlone : List ℕ → ScriptLine → Type 0
SignAlone known line = (path : List ℕ) → named_path line ≡ Some path → (x : ℕ) → Contains path x → Contains known x

abbrev pub AllOf : Script → (ScriptLine → Type 0) → Type 0
AllOf script P = (line : ScriptLine) → Contains script.lines line → P line

-- the lines of a general are lawful, and those of a list alone sign in them
pub record AreGood (net : Network) (known : List ℕ) (g : ℕ) (script : Script) : Type 0 where
  pub general : script.general ≡ g
  pub lawful : AllOf script (IsScriptLine net g)
  pub alone : AllOf script (SignAlone known)

pub no_scripts : (version : Version) (net : Network) (master : List ℕ) (order : ℕ) (scripts : List Script) → scripts ≡ [] → IsNetwork net → slot_in version ≤ greatest_slot → order < net.orders → IsScenario (record { version = version; net = net; master = master; order = order; scripts = scripts })
no_scripts version net master order scripts none network slot low = rw none (record {
  network = network;
  slot = slot;
  order_known = low;
  known = λ script stands. absurd (Contains_nil script stands);
  ascending = λ i j d l m. absurd (omega (arith, m));
  lawful = λ script line stands there. absurd (Contains_nil script stands);
  signers = λ script line stands there path named g member. absurd (Contains_nil script stands);
})
