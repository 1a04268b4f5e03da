-- Which leaves a general takes from its ring.
use Rattle.std.specs.Prelude.{ℕ, ◌≡◌, ◌↔◌, ◌⊎◌, List, Contains, Option, Some, None}
use Rattle.gen_tree.specs.Rings.{Ring}
use Rattle.gen_net.specs.Header.{RunHeader}
use Rattle.gen_log.specs.declared.entries.Entry.{Entry}
use Rattle.gen_log.specs.Log.{RunLog}
use Rattle.gen_scenario.specs.Scenario.{Scenario, header_of, script_of}
use Rattle.gen_general.specs.Spending.{IsLeafOfSign, IsSpentOnLogs}

-- if the general has a ring, the leaves that were taken from it are those of the texts of these logs
abbrev pub RingSpentOn : RunHeader → List RunLog → Option Ring → Option Ring → Type 0
RingSpentOn h logs (Some old) (Some new) = IsSpentOnLogs h logs old new
RingSpentOn h logs None None = Unit {0}
RingSpentOn h logs _ _ = ⊥

-- ---- while the general goes from round to round

-- if the general has a ring, the leaves that were taken from it are those of the SIGNs among these entries
abbrev pub RingSpentOnSigns : RunHeader → List Entry → Option Ring → Option Ring → Type 0
RingSpentOnSigns h entries (Some old) (Some new) =
    (leaf : ℕ) → Contains new.taken leaf ↔ (Contains old.taken leaf ⊎ IsLeafOfSign h entries leaf)
RingSpentOnSigns h entries None None = Unit {0}
RingSpentOnSigns h entries _ _ = ⊥

-- if the general has no script, the leaves that were taken are those of the SIGNs that it has written
abbrev pub HasSpentOnSigns : Scenario → ℕ → List Entry → Option Ring → Option Ring → Type 0
HasSpentOnSigns s g entries old new =
    script_of s.scripts g ≡ None → RingSpentOnSigns (header_of s) entries old new
