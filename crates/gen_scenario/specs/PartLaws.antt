-- What a general knows of its own is enough to act as the scenario says.
use Rattle.std.specs.Prelude.{ℕ, ◌≡◌, List, Contains, Some, None}
use Rattle.gen_tree.specs.Rings.{seed_of}
use Rattle.gen_chain.specs.Chain.{Chain}
use Rattle.gen_log.specs.declared.entries.Entry.{Entry}
use Rattle.gen_script.specs.declared.lines.ScriptLine.{ScriptLine}
use Rattle.gen_scenario.specs.declared.heard.Heard.{Heard}
use Rattle.gen_scenario.specs.Scenario.{Scenario, IsScenario, header_of, scripted, script_of}
use Rattle.gen_scenario.specs.Signing.{Keys}
use Rattle.gen_scenario.specs.Frames.{Sender, signed_in, frame_of}
use Rattle.gen_scenario.specs.SignedWorld.{own_order, sender_of}
use Rattle.gen_scenario.specs.RoundEntries.{sign_entries, send_entries, recv_entries}
use Rattle.gen_scenario.specs.WorldLogs.{logs_over}
use Rattle.gen_scenario.specs.SignerTrees.{keys_with}
use Rattle.gen_scenario.specs.Part.{part_of, own_keys}

-- these keys give the general's own signatures and, if it has a script, those of all generals with scripts
pub record AreHisKeys (s : Scenario) (g : ℕ) (k : Keys) : Type 0 where
  pub header : k.header ≡ header_of s
  pub own : k.seeds g ≡ seed_of s.master g
  pub others : Contains (scripted s.scripts) g → (h : ℕ) → Contains (scripted s.scripts) h
      → k.seeds h ≡ seed_of s.master h

-- a general of the scenario with these keys
abbrev pub part_by : Scenario → ℕ → Keys → Sender
part_by s g k = record { keys = k; me = g; own = own_order s g; script = script_of s.scripts g }

-- whatever they heard, the two senders sign, send and write the same, and they make the same logs from the
-- same entries
pub record ActAlike (p q : Sender) : Type 0 where
  pub frames : (heard : List Heard) (round to : ℕ) → frame_of p heard round to ≡ frame_of q heard round to
  pub signed : (heard : List Heard) (round : ℕ)
      → signed_in p.keys p.me p.own heard round ≡ signed_in q.keys q.me q.own heard round
  pub signs : (heard : List Heard) (round : ℕ) → sign_entries p heard round ≡ sign_entries q heard round
  pub sends : (heard : List Heard) (round to : ℕ)
      → send_entries p heard round to ≡ send_entries q heard round to
  pub recvs : (round from : ℕ) (counted : List Chain)
      → recv_entries p round from counted ≡ recv_entries q round from counted
  pub logs : (entries : List Entry) → logs_over p entries ≡ logs_over q entries

-- a general with such keys acts as the scenario says
abbrev pub KeysAreEnough : Type 0
KeysAreEnough =
    (s : Scenario) → IsScenario s → (g : ℕ) (k : Keys) → AreHisKeys s g k
    → ActAlike (part_by s g k) (sender_of s g)

-- a general without a script has such keys by its own seed, and a general with a script by the trees that it
-- knows
abbrev pub OwnSeedIsEnough : Type 0
OwnSeedIsEnough =
    (s : Scenario) (g : ℕ) → script_of s.scripts g ≡ None
    → AreHisKeys s g (own_keys (header_of s) (seed_of s.master g))

abbrev pub KnownTreesAreEnough : Type 0
KnownTreesAreEnough =
    (s : Scenario) (g : ℕ) (lines : List ScriptLine) → script_of s.scripts g ≡ Some lines
    → AreHisKeys s g (keys_with (header_of s) (part_of s g).trees)
