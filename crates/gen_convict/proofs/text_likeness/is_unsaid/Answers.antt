use Rattle.std.proofs.Common.{not, sym, ap, ◌∙◌}
use Rattle.gen_convict.specs.Finding as finds
use Rattle.gen_convict.proofs.Signs.{has_sign_tests}
use Rattle.gen_convict.proofs.text_likeness.is_unsaid.Goals as goal

pub returns-in-OfStatement : goal.returns-in-OfStatement
returns-in-OfStatement c =
    let e = has_sign_tests c.args.log.now c.in-OfStatement.statement c.has_sign.result c.has_sign.ensures in
    ap not e ∙ sym (ap (finds.is_unsaid c.args.log.now) c.in-OfStatement.is)
