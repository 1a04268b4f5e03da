use Rattle.std.proofs.Common.{sym, ap, ◌∙◌}
use Rattle.gen_script.specs.NamedPath.{named_path}
use Rattle.gen_general.proofs.HearSteps.{found_stands}
use Rattle.gen_general.proofs.scripted.plan_line.Goals as goal

pub make_along-requires-clause-signers : goal.make_along-requires-clause-signers
make_along-requires-clause-signers c = c.requires.signers c.in-Make.path (ap named_path c.in-Make.is)

pub pass_along-requires-clause-signers : goal.pass_along-requires-clause-signers
pass_along-requires-clause-signers c = rw c.generals.ensures (c.requires.signers c.in-Pass.path (ap named_path c.in-Pass.is))

pub pass_along-requires-clause-height : goal.pass_along-requires-clause-height
pass_along-requires-clause-height c = λ x e. c.requires.heard x (found_stands _ _ _ c.args.heard.now x (sym c.find_heard-came.ensures ∙ e))

pub pass_along-requires-in-Bend-clause-height : goal.pass_along-requires-in-Bend-clause-height
pass_along-requires-in-Bend-clause-height c = λ x e. c.requires.heard x (found_stands _ _ _ c.args.heard.now x (sym c.find_heard-came-in-Bend.ensures ∙ e))
