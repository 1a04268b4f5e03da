-- Which leaves of a general's ring the signed texts of its log take.
use Rattle.std.specs.Prelude.{ℕ, ◌≡◌, ◌↔◌, ◌⊎◌, List, Contains, None}
use Rattle.gen_tree.specs.Rings.{Ring}
use Rattle.gen_net.specs.Header.{RunHeader}
use Rattle.gen_chain.specs.declared.statements.Statement.{Statement}
use Rattle.gen_chain.specs.Leaves.{leaf_of_order, leaf_of_head}
use Rattle.gen_log.specs.declared.entries.Entry.{Entry}
use Rattle.gen_log.specs.declared.entries.Entry.TheVariants.{Sign}
use Rattle.gen_log.specs.Log.{RunLog}
use Rattle.gen_log.specs.Signing.{HasSign}
use Rattle.gen_scenario.specs.declared.heard.Heard.{Heard}
use Rattle.gen_scenario.specs.Scenario.{Scenario, IsScenario, header_of, script_of}
use Rattle.gen_scenario.specs.Frames.{Sender}
use Rattle.gen_scenario.specs.RoundEntries.{sign_entries}
use Rattle.gen_scenario.specs.WorldLogs.{logs_of}
use Rattle.gen_general.specs.Following.{IsSignedWith}

-- the leaf belongs to the order of a SIGN among these entries
pub record IsLeafOfSign (h : RunHeader) (entries : List Entry) (leaf : ℕ) : Type 0 where
  pub order : ℕ
  pub path : List ℕ
  pub signature : List ℕ
  pub stands : Contains entries (Sign order path signature)
  pub leaf_is : leaf ≡ leaf_of_order h order

-- the leaf belongs to a text that is signed in the log: to its head, or to the statement of a SIGN
abbrev pub IsLeafOfLog : RunHeader → RunLog → ℕ → Type 0
IsLeafOfLog h log leaf = (leaf ≡ leaf_of_head h) ⊎ IsLeafOfSign h log.entries leaf

-- the leaves that were taken from a ring are those of the texts of these logs, and no others
abbrev pub IsSpentOnLogs : RunHeader → List RunLog → Ring → Ring → Type 0
IsSpentOnLogs h logs old new =
    (leaf : ℕ) → Contains new.taken leaf
    ↔ (Contains old.taken leaf ⊎ ((log : RunLog) × Contains logs log × IsLeafOfLog h log leaf))

-- ---- laws

-- the leaves that a general without a script takes in a round are those of the SIGNs that it writes in that
-- round
abbrev pub SignsTakeLeaves : Type 0
SignsTakeLeaves =
    (p : Sender) (heard : List Heard) (round leaf : ℕ) → p.script ≡ None
    → IsSignedWith p.keys.header p.own heard round leaf
    ↔ IsLeafOfSign p.keys.header (sign_entries p heard round) leaf

-- each leaf signs at most one text of the log
pub record EachLeafSignsOnce (h : RunHeader) (log : RunLog) : Type 0 where
  pub statements : (x y : Statement) → HasSign log x → HasSign log y
      → leaf_of_order h x.order ≡ leaf_of_order h y.order → x ≡ y
  pub head : (x : Statement) → HasSign log x → leaf_of_order h x.order ≡ leaf_of_head h → ⊥

abbrev pub FollowersSignOnce : Type 0
FollowersSignOnce =
    (s : Scenario) → IsScenario s → (g : ℕ) → script_of s.scripts g ≡ None
    → (log : RunLog) → Contains (logs_of s g) log → EachLeafSignsOnce (header_of s) log
