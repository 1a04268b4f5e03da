-- Scenarios: a network and the commander's order. A scenario with signatures also has the master seed of all
-- keys and the scripts of the traitors.
use Rattle.std.specs.Prelude.{ℕ, ◌≡◌, ◌≤◌, ◌<◌, Bool, List, [], ◌∷◌, map, Contains, AllPairs, Option, Some, None, if◌then◌else◌, ◌==◌}
use Rattle.std.specs.List.{range_with_len}
use Rattle.gen_types.specs.Ends.{is_among}
use Rattle.gen_tree.specs.Rings.{ring_root, seed_of}
use Rattle.gen_net.specs.declared.version.Version.{Version}
use Rattle.gen_net.specs.Version.{height_in, slot_in, greatest_slot}
use Rattle.gen_net.specs.Network.{Network, IsNetwork}
use Rattle.gen_net.specs.Header.{RunHeader}
use Rattle.gen_script.specs.declared.lines.ScriptLine.{ScriptLine}
use Rattle.gen_script.specs.Line.{IsScriptLine}
use Rattle.gen_script.specs.NamedPath.{named_path}
use Rattle.gen_script.specs.Script.{Script}

-- a scenario without signatures: a network, and the commander's order
pub record Plain : Type 0 where
  pub net : Network
  pub order : ℕ

-- a scenario with signatures: also the version, the master seed from which all keys come, and the scripts
pub record Scenario : Type 0 where
  pub version : Version
  pub net : Network
  pub master : List ℕ
  pub order : ℕ
  pub scripts : List Script

-- the scenario of these parts
abbrev pub scenario_of : Version → Network → List ℕ → ℕ → List Script → Scenario
scenario_of v n m o s = record { version = v; net = n; master = m; order = o; scripts = s }

-- the header of the run: the root of each general is the root of the ring of that general's seed
abbrev pub header_of : Scenario → RunHeader
header_of s = record {
  version = s.version;
  network = s.net;
  roots = map (λ g. ring_root (seed_of s.master g) (height_in s.version)) (range_with_len 0 s.net.generals);
}

-- the generals that have scripts
abbrev pub scripted : List Script → List ℕ
scripted scripts = map (λ script. script.general) scripts

abbrev pub has_script : Scenario → ℕ → Bool
has_script s g = is_among (scripted s.scripts) g

-- the lines of a general's script, if it has one
unfoldable pub script_of : List Script → ℕ → Option (List ScriptLine)
script_of [] g = None
script_of (script ∷ others) g = if script.general == g then Some script.lines else script_of others g

-- if the line names a path, all generals of the path have scripts
abbrev pub SignsForTraitors : List Script → ScriptLine → Type 0
SignsForTraitors scripts line =
    (path : List ℕ) → named_path line ≡ Some path → (g : ℕ) → Contains path g → Contains (scripted scripts) g

-- What holds of each scenario: its network is lawful, its slot is 0 to 3, and its order is one of the
-- network's. Each script belongs to a general of the network, which has no other script. The lines of the
-- scripts are lawful, and only traitors sign by them.
pub record IsScenario (s : Scenario) : Type 0 where
  pub network : IsNetwork s.net
  pub slot : slot_in s.version ≤ greatest_slot
  pub order_known : s.order < s.net.orders
  pub known : (script : Script) → Contains s.scripts script → script.general < s.net.generals
  pub ascending : AllPairs (λ script other. script.general < other.general) s.scripts
  pub lawful : (script : Script) (line : ScriptLine) → Contains s.scripts script → Contains script.lines line
      → IsScriptLine s.net script.general line
  pub signers : (script : Script) (line : ScriptLine) → Contains s.scripts script → Contains script.lines line
      → SignsForTraitors s.scripts line
