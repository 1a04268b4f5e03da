-- What is found in a log that says it is a general's of a run.
use Rattle.std.specs.Prelude.{ℕ, ◌≡◌, ◌↔◌, Bool, not, List, Option, Some, None}
use Rattle.std.specs.List.{list_all, position_from}
use Rattle.gen_net.specs.Header.{RunHeader}
use Rattle.gen_net.specs.Departs.{DepartsAt, IsFollowersLog}
use Rattle.gen_log.specs.declared.entries.Entry.{Entry}
use Rattle.gen_log.specs.Log.{RunLog, IsLog}
use Rattle.gen_log.specs.Verifying.{SaysItIsOf}
use Rattle.gen_local.specs.declared.texts.SignedText.{SignedText}
use Rattle.gen_local.specs.Erased.{erased}
use Rattle.gen_local.specs.SignedTexts.{texts_in, head_in, text_verifies, texts_of}

-- the log, the first entry with a signature that doesn't verify, whether the head verifies, the entry at
-- which the log departs, and the texts that verify
pub record FoundLog : Type 0 where
  pub log : RunLog
  pub unsigned : Option ℕ
  pub sealed : Bool
  pub departure : Option ℕ
  pub texts : List SignedText

-- all signatures of the entry verify
abbrev pub is_signed : RunHeader → Entry → Bool
is_signed h e = list_all (text_verifies h) (texts_in e)

-- the number of the first of these entries with a signature that doesn't verify; the first entry has the
-- given number
abbrev pub first_unsigned : RunHeader → ℕ → List Entry → Option ℕ
first_unsigned h number entries = position_from (λ e. not (is_signed h e)) number entries

-- the log is one of this run's network that says it is the general's of this run, and the other fields are
-- what the definitions give for it
pub record IsFound (h : RunHeader) (general : ℕ) (found : FoundLog) : Type 0 where
  pub fits_run : IsLog h found.log
  pub says : SaysItIsOf h general found.log
  pub unsigned : found.unsigned ≡ first_unsigned h 0 found.log.entries
  pub sealed : found.sealed ≡ text_verifies h (head_in h general found.log)
  pub departs : (p : ℕ) → (found.departure ≡ Some p)
      ↔ DepartsAt h.network general (erased found.log.entries) p
  pub follows : (found.departure ≡ None) ↔ IsFollowersLog h.network general (erased found.log.entries)
  pub texts : found.texts ≡ texts_of h general found.log
