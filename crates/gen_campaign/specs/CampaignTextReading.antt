-- The scenarios that the text of a campaign says, read line by line, or its first fault and the line of
-- this fault.
use Rattle.std.specs.Prelude.{ℕ, zero, suc, Bool, List, [], ◌∷◌, ◌++◌, codes, Option, Some, None, Result, Ok, Err, nat_lt, ◌==◌}
use Rattle.std.specs.List.{list_all}
use Rattle.std.specs.Str.{bytes_eq}
use Rattle.gen_types.specs.Reading.{◌>>=◌, check}
use Rattle.gen_net.specs.Version.{slot_in}
use Rattle.gen_scenario.specs.Scenario.{Plain, Scenario}
use Rattle.gen_campaign.specs.Campaign.{is_run_count}
use Rattle.gen_text.specs.declared.fault.LineFault.TheVariants.{Shape, Extra, RunCount, Unlike}
use Rattle.gen_text.specs.declared.fault.ScenarioFault.{ScenarioFault}
use Rattle.gen_text.specs.Cursor.{Cursor, start_of}
use Rattle.gen_text.specs.LineReading.{fault_at}
use Rattle.gen_text.specs.CursorReading.{numbered, is_over}
use Rattle.gen_text.specs.NumbersReading.{plain_at}
use Rattle.gen_text.specs.KeysReading.{seed_at, slot_at}
use Rattle.gen_text.specs.ScenarioReading.{signed_at}

-- each of these scenarios has n generals
abbrev pub has_generals_of : List Scenario → ℕ → Bool
has_generals_of before n = list_all (λ s. s.net.generals == n) before

-- each of these scenarios has this seed
abbrev pub has_seed_of : List Scenario → List ℕ → Bool
has_seed_of before seed = list_all (λ s. bytes_eq s.master seed) before

-- the slot is greater than that of each of these scenarios
abbrev pub comes_after : List Scenario → ℕ → Bool
comes_after before slot = list_all (λ s. nat_lt (slot_in s.version) slot) before

-- what was read at line k, which may not be absent
abbrev pub owed : {A : Type 0} → ℕ → Option A → Result A ScenarioFault
owed k None = Err (fault_at Shape k)
owed k (Some x) = Ok x

-- The network and the order of a text behind these, and the cursor behind their lines. Another number of
-- generals is a fault of the line that has it.
unfoldable pub like_plain_at : List Scenario → Cursor → Result (Plain × Cursor) ScenarioFault
like_plain_at before c = do
  n ← numbered (codes "generals") c
  same ← check (has_generals_of before n.0.value) (fault_at Unlike n.0.line)
  plain_at c

-- the seed of a text behind these, and the cursor behind its line
unfoldable pub like_seed_at : List Scenario → Cursor → Result (List ℕ × Cursor) ScenarioFault
like_seed_at before c = do
  seed ← seed_at c
  master ← owed c.line seed.0
  same ← check (has_seed_of before master) (fault_at Unlike c.line)
  Ok (master, seed.1)

-- the slot of a text behind these, which must be greater than theirs
unfoldable pub later_slot_at : List Scenario → Cursor → Result (Unit {0}) ScenarioFault
later_slot_at before c = do
  slot ← slot_at c
  said ← owed c.line slot.0
  check (comes_after before said) (fault_at Unlike c.line)

-- the scenario of a text behind these, and the cursor behind its line `end`
unfoldable pub text_at : List Scenario → Cursor → Result (Scenario × Cursor) ScenarioFault
text_at before c = do
  plain ← like_plain_at before c
  seed ← like_seed_at before plain.1
  later ← later_slot_at before seed.1
  signed_at plain.0 seed.0 seed.1

-- the scenarios of n texts behind these, one after another, and the cursor behind the last
unfoldable pub texts_at : List Scenario → ℕ → Cursor → Result (List Scenario × Cursor) ScenarioFault
texts_at before zero c = Ok ([], c)
texts_at before (suc n) c = do
  one ← text_at before c
  others ← texts_at (before ++ one.0 ∷ []) n one.1
  Ok (one.0 ∷ others.0, others.1)

-- the scenarios of the text of a campaign, or its first fault
unfoldable pub campaign_text_of : List ℕ → Result (List Scenario) ScenarioFault
campaign_text_of text = do
  count ← numbered (codes "campaign") (start_of text)
  few ← check (is_run_count count.0.value) (fault_at RunCount count.0.line)
  texts ← texts_at [] count.0.value count.1
  over ← check (is_over texts.1) (fault_at Extra texts.1.line)
  Ok texts.0
