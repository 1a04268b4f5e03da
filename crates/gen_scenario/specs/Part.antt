-- What one general of a scenario knows of the run before it begins.
use Rattle.std.specs.Prelude.{ℕ, ◌≡◌, ◌<◌, ◌↔◌, List, [], map, Option, Some, None, IsSome, IfSome}
use Rattle.gen_net.specs.Version.{height_in}
use Rattle.gen_net.specs.Header.{RunHeader, IsHeader}
use Rattle.gen_script.specs.declared.lines.ScriptLine.{ScriptLine}
use Rattle.gen_scenario.specs.declared.signer_trees.SignerTree.{SignerTree}
use Rattle.gen_scenario.specs.Scenario.{Scenario, header_of, scripted, script_of}
use Rattle.gen_scenario.specs.Signing.{Keys}
use Rattle.gen_scenario.specs.SignedWorld.{own_order}
use Rattle.gen_scenario.specs.SignerTrees.{ArePlayable}
use Rattle.gen_scenario.specs.Trees.{general_tree}

-- the header, the general's number, its order if it is the commander, and, if it has a script, the script's
-- lines and the trees of all generals with scripts
pub record Part : Type 0 where
  pub header : RunHeader
  pub me : ℕ
  pub own : Option ℕ
  pub script : Option (List ScriptLine)
  pub trees : List SignerTree

-- the tree of a general of the scenario
abbrev pub signer_tree : Scenario → ℕ → SignerTree
signer_tree s g = record { general = g; tree = general_tree s.master (height_in s.version) g }

-- the trees that a general knows: those of all generals with scripts if it has a script, otherwise none
abbrev pub trees_known : Scenario → Option (List ScriptLine) → List SignerTree
trees_known s None = []
trees_known s (Some lines) = map (signer_tree s) (scripted s.scripts)

-- what a general of the scenario knows
abbrev pub part_of : Scenario → ℕ → Part
part_of s g = record {
  header = header_of s;
  me = g;
  own = own_order s g;
  script = script_of s.scripts g;
  trees = trees_known s (script_of s.scripts g);
}

-- what a general without a script knows: the header, its number and, if it is the commander, its order
abbrev pub followers_part : RunHeader → ℕ → Option ℕ → Part
followers_part h g order = record { header = h; me = g; own = order; script = None; trees = [] }

-- the general is one of the header's network, and it has an order, which is one of the network's, if and only
-- if it is the commander
pub record CanFollow (h : RunHeader) (g : ℕ) (order : Option ℕ) : Type 0 where
  pub me : g < h.network.generals
  pub own : IfSome order (λ v. v < h.network.orders)
  pub commander : IsSome order ↔ (g ≡ 0)

-- What holds of a general's own knowledge. The header is lawful, and the general is one of its network. Only
-- the commander has an order, which is one of the network's. What the lines of the general's script ask for
-- can be made.
pub record IsPart (k : Part) : Type 0 where
  pub header : IsHeader k.header
  pub me : k.me < k.header.network.generals
  pub own : IfSome k.own (λ order. order < k.header.network.orders)
  pub commander : IsSome k.own ↔ (k.me ≡ 0)
  pub script : IfSome k.script (ArePlayable k.header k.trees k.me)

-- the keys of a general that has only its own seed
abbrev pub own_keys : RunHeader → List ℕ → Keys
own_keys h seed = record { header = h; seeds = λ g. seed }
