-- The trees of keys that are known of some generals, and the signatures that can be made with them.
use Rattle.std.specs.Prelude.{ℕ, ◌≡◌, ◌<◌, ◌==◌, if◌then◌else◌, List, [], ◌∷◌, Contains, Option, Some, None}
use Rattle.gen_tree.specs.Rings.{KeyTree}
use Rattle.gen_net.specs.Header.{RunHeader, height_of}
use Rattle.gen_script.specs.declared.lines.ScriptLine.{ScriptLine}
use Rattle.gen_script.specs.Line.{IsScriptLine}
use Rattle.gen_script.specs.NamedPath.{named_path}
use Rattle.gen_scenario.specs.declared.signer_trees.SignerTree.{SignerTree}
use Rattle.gen_scenario.specs.Signing.{Keys}

-- the tree of a general, if it is in the list
unfoldable pub tree_in : List SignerTree → ℕ → Option KeyTree
tree_in [] g = None
tree_in (signer ∷ others) g = if signer.general == g then Some signer.tree else tree_in others g

abbrev pub seed_under : Option KeyTree → List ℕ
seed_under None = []
seed_under (Some tree) = tree.seed

-- the seed of a general's keys, or no bytes if its tree is not in the list
abbrev pub seed_in : List SignerTree → ℕ → List ℕ
seed_in trees g = seed_under (tree_in trees g)

-- the keys that these trees give in the run of a header
abbrev pub keys_with : RunHeader → List SignerTree → Keys
keys_with h trees = record { header = h; seeds = seed_in trees }

-- the signatures of a general can be made with these trees: the general is one of the network, and its tree
-- is in the list and has the run's height
pub record CanSign (h : RunHeader) (trees : List SignerTree) (g : ℕ) : Type 0 where
  pub known : g < h.network.generals
  pub tree : KeyTree
  pub found : tree_in trees g ≡ Some tree
  pub height : tree.height ≡ height_of h

-- the signatures of all generals of a path can be made with these trees
abbrev pub CanSignAll : RunHeader → List SignerTree → List ℕ → Type 0
CanSignAll h trees path = (g : ℕ) → Contains path g → CanSign h trees g

-- the signatures that a line of a script asks for can be made with these trees
abbrev pub CanSignLine : RunHeader → List SignerTree → ScriptLine → Type 0
CanSignLine h trees line = (path : List ℕ) → named_path line ≡ Some path → CanSignAll h trees path

-- a general can do what these lines of its script say: they are lawful, and each signature that they ask for
-- can be made with these trees
pub record ArePlayable (h : RunHeader) (trees : List SignerTree) (me : ℕ) (lines : List ScriptLine) :
    Type 0 where
  pub own : CanSign h trees me
  pub lawful : (line : ScriptLine) → Contains lines line → IsScriptLine h.network me line
  pub signers : (line : ScriptLine) → Contains lines line → CanSignLine h trees line
