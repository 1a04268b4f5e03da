use Rattle.std.proofs.Common.{sym, ◌∙◌}
use Rattle.gen_types.proofs.Steps.{ok_is}
use Rattle.gen_script.specs.declared.fault.ScriptFault.{ScriptFault}
use Rattle.gen_script.proofs.LineAgain.{script_line_again}
use Rattle.gen_script.proofs.reading.one_script_line.Goals as goal

pub returns : goal.returns
returns c = λ net me line said other ok first second. ok_is {F = ScriptFault} said other (sym (script_line_again net me line said ok first) ∙ script_line_again net me line other ok second)
