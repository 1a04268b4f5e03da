use Rattle.std.proofs.Common.{◌≡◌, take}
use Rattle.gen_local.specs.Opened.{logs_in}
use Rattle.gen_local.proofs.opening.texts_of.Given as goal

abbrev pub invariant-opened : goal.invariant-opened
invariant-opened l = l.texts.items ≡ logs_in (take l.one-index l.opened)
