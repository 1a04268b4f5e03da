-- Where what is shown stands in a file.
use Rattle.std.specs.Prelude.{ℕ, ◌≡◌, ◌+◌, List, ◌∷◌, ◌++◌, length}
use Rattle.gen_log.specs.declared.entries.Entry.{Entry}
use Rattle.gen_log.specs.Entry.{entry_spelling}
use Rattle.gen_log.specs.Log.{RunLog, log_spelling, run_id_length}
use Rattle.gen_file.specs.Parts.{log_front_length}
use Rattle.gen_show.specs.LogText.{entry_line, entry_lines}

-- the part stands in the file from this byte on
pub record StandsAt (file : List ℕ) (at : ℕ) (part : List ℕ) : Type 0 where
  pub front : List ℕ
  pub back : List ℕ
  pub parts : file ≡ front ++ (part ++ back)
  pub counted : length front ≡ at

-- The lines of a log that is shown at byte at have the line of this entry, and the entry stands in the file
-- at the byte that the line says.
pub record IsShownAt (file : List ℕ) (keeper at : ℕ) (log : RunLog) (before : List Entry)
    (e : Entry) : Type 0 where
  pub place : ℕ
  pub stands : StandsAt file place (entry_spelling e)
  pub first : List ℕ
  pub last : List ℕ
  pub shown : entry_lines keeper 0 (at + log_front_length) log.entries
      ≡ first ++ (entry_line keeper (length before) place e ++ last)

-- so it is of each entry of a log that stands in the file at the byte at which it is shown
abbrev pub OffsetsAreRight : Type 0
OffsetsAreRight =
    (file : List ℕ) (keeper at : ℕ) (log : RunLog) (before : List Entry) (e : Entry) (after : List Entry)
    → length log.run_id ≡ run_id_length → log.entries ≡ before ++ e ∷ after
    → StandsAt file at (log_spelling log) → IsShownAt file keeper at log before e
