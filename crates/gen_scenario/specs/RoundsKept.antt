-- What arrives in a round has no effect on what is signed and sent in the same round, and on the SIGNs and
-- SENDs of it.
use Rattle.std.specs.Prelude.{ℕ, ◌≡◌, List, ◌++◌, Contains, Option}
use Rattle.gen_script.specs.declared.lines.ScriptLine.{ScriptLine}
use Rattle.gen_script.specs.Line.{IsScriptLine}
use Rattle.gen_scenario.specs.declared.heard.Heard.{Heard}
use Rattle.gen_scenario.specs.Frames.{Sender, signed_in, frame_of}
use Rattle.gen_scenario.specs.RoundEntries.{lines_in, sign_entries, send_entries}
use Rattle.gen_scenario.specs.Signing.{Keys}
use Rattle.gen_scenario.specs.HeardLaws.{AreOfRound}

abbrev pub SignsKept : Type 0
SignsKept =
    (k : Keys) (me : ℕ) (own : Option ℕ) (heard more : List Heard) (round : ℕ) → AreOfRound round more
    → signed_in k me own (heard ++ more) round ≡ signed_in k me own heard round

-- the lines of the script are lawful, if there is one
abbrev pub HasLawfulLines : Sender → Type 0
HasLawfulLines p =
    (line : ScriptLine) → Contains (lines_in p.script) line → IsScriptLine p.keys.header.network p.me line

abbrev pub FrameKept : Type 0
FrameKept =
    (p : Sender) (heard more : List Heard) (round to : ℕ) → HasLawfulLines p → AreOfRound round more
    → frame_of p (heard ++ more) round to ≡ frame_of p heard round to

abbrev pub SignEntriesKept : Type 0
SignEntriesKept =
    (p : Sender) (heard more : List Heard) (round : ℕ) → HasLawfulLines p → AreOfRound round more
    → sign_entries p (heard ++ more) round ≡ sign_entries p heard round

abbrev pub SendEntriesKept : Type 0
SendEntriesKept =
    (p : Sender) (heard more : List Heard) (round to : ℕ) → HasLawfulLines p → AreOfRound round more
    → send_entries p (heard ++ more) round to ≡ send_entries p heard round to
