use Rattle.std.proofs.Common.{map}
use Rattle.std.proofs.lemmas.List.{append-nil}
use Rattle.gen_convict.specs.Evidence.{told_of}
use Rattle.gen_report.specs.VerdictText.{verdict_text}
use Rattle.gen_verdicts.proofs.laws.one_bundle_is_as_printed.Goals as goal

pub returns : goal.returns
returns c = λ b j across. append-nil (verdict_text b.header j.verdict (map told_of j.convictions.items))
