-- The logs and the signed texts that exhibits hold, in their one order.
use Rattle.std.specs.Prelude.{ℕ, Bool, ◌==◌, cond, List, [], ◌∷◌, filter, Result, Ok, Err, Contains}
use Rattle.std.specs.List.{flat_map}
use Rattle.gen_net.specs.Header.{RunHeader}
use Rattle.gen_log.specs.declared.fault.LogFault.{LogFault}
use Rattle.gen_log.specs.Fields.{AreBelow}
use Rattle.gen_log.specs.Log.{RunLog}
use Rattle.gen_log.specs.LogReading.{log_of}
use Rattle.gen_log.specs.Verifying.{says_it_is_of}
use Rattle.gen_local.specs.declared.texts.SignedText.{SignedText}
use Rattle.gen_log.specs.Writing.{LogBytes}
use Rattle.gen_local.specs.SignedTexts as signed

-- each exhibit consists of bytes
abbrev pub AllBytes : List LogBytes → Type 0
AllBytes exhibits = (exhibit : LogBytes) → Contains exhibits exhibit → AreBelow 256 exhibit.bytes

-- a log that was read from an exhibit
pub record HeldLog : Type 0 where
  pub general : ℕ
  pub bytes : List ℕ
  pub log : RunLog

-- the log that an exhibit's bytes read to, if it says that it is of this run and of the exhibit's general, or
-- else nothing; and such logs of all exhibits
abbrev pub held : RunHeader → LogBytes → Result RunLog LogFault → List HeldLog
held h exhibit (Ok log) =
    cond (says_it_is_of h exhibit.general log)
    (record { general = exhibit.general; bytes = exhibit.bytes; log = log } ∷ []) []
held h exhibit (Err fault) = []

unfoldable pub logs_in : RunHeader → List LogBytes → List HeldLog
logs_in h exhibits = flat_map (λ exhibit. held h exhibit (log_of h exhibit.bytes)) exhibits

-- the texts of a log that verify, and those of all exhibits in the order of the exhibits
abbrev pub log_texts : RunHeader → HeldLog → List SignedText
log_texts h l = signed.texts_of h l.general l.log

unfoldable pub texts_in : RunHeader → List LogBytes → List SignedText
texts_in h exhibits = flat_map (log_texts h) (logs_in h exhibits)

-- the texts of all exhibits that verify and that one general signed
abbrev pub is_by : ℕ → SignedText → Bool
is_by general t = t.signer == general

unfoldable pub texts_of : RunHeader → List LogBytes → ℕ → List SignedText
texts_of h exhibits general = filter (is_by general) (texts_in h exhibits)

-- the logs of one general
abbrev pub is_his : ℕ → HeldLog → Bool
is_his general l = l.general == general

unfoldable pub logs_of : RunHeader → List LogBytes → ℕ → List HeldLog
logs_of h exhibits general = filter (is_his general) (logs_in h exhibits)
