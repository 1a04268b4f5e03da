-- In a whole campaign a general signs at most one text under each leaf of its ring.
use Rattle.std.specs.Prelude.{ℕ, ◌≡◌, ◌<◌, List, Contains, Option, Some, None}
use Rattle.gen_net.specs.Header.{RunHeader}
use Rattle.gen_chain.specs.declared.statements.Statement.{Statement}
use Rattle.gen_chain.specs.Leaves.{leaf_of_order, leaf_of_head}
use Rattle.gen_log.specs.Log.{RunLog}
use Rattle.gen_log.specs.Signing.{HasSign}
use Rattle.gen_scenario.specs.Scenario.{Scenario, header_of, script_of}
use Rattle.gen_scenario.specs.WorldLogs.{logs_of}

-- the text of a log that is signed under the leaf: the given statement, which a SIGN has, or the head if no
-- statement is given
abbrev pub IsTextOf : RunHeader → RunLog → ℕ → Option Statement → Type 0
IsTextOf h log leaf (Some x) = HasSign log x × (leaf ≡ leaf_of_order h x.order)
IsTextOf h log leaf None = leaf ≡ leaf_of_head h

-- in the run of the scenario the general has no script, and its log has the text under the leaf
pub record SignsUnder (s : Scenario) (g leaf : ℕ) (text : Option Statement) : Type 0 where
  pub loyal : script_of s.scripts g ≡ None
  pub log : RunLog
  pub his : Contains (logs_of s g) log
  pub stands : IsTextOf (header_of s) log leaf text

-- if a general signs two texts under one leaf in these runs, they are the same text of the same run
abbrev pub EachLeafHasOneText : List Scenario → Type 0
EachLeafHasOneText runs =
    (s t : Scenario) (g leaf : ℕ) (x y : Option Statement) → Contains runs s → Contains runs t
    → g < s.net.generals → g < t.net.generals → SignsUnder s g leaf x → SignsUnder t g leaf y
    → (s ≡ t) × (x ≡ y)
