-- Texts that are known to have no rival after them.
use Rattle.std.specs.Prelude.{◌≡◌, false, List, Contains}
use Rattle.std.specs.List.{list_any}
use Rattle.gen_convict.specs.declared.run_texts.RunText.{RunText}
use Rattle.gen_convict.specs.AcrossFinding.{meets}

-- none of these texts meets one of the others
abbrev pub MeetNone : List RunText → List RunText → Type 0
MeetNone texts others = (x : RunText) → Contains texts x → list_any (meets x) others ≡ false
