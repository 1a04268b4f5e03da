use Rattle.std.proofs.Common.{sym, ◌∙◌}
use Rattle.gen_audit.proofs.Decided.{agree_on, first_is_in, somebody_is}
use Rattle.gen_audit.proofs.audits.agreed_order.Goals as goal

pub decision_of-requires-clause-of_rest : goal.decision_of-requires-clause-of_rest
decision_of-requires-clause-of_rest c = (c.requires.rest.members c.in-Some.general).0 (first_is_in c.args.rest.now c.in-Some.general (sym c.get.ensures.member ∙ c.in-Some.is))

pub unreachable-requires : goal.unreachable-requires
unreachable-requires c = somebody_is c.args.bundle.now c.requires.clean c.args.rest.now c.requires.rest (sym c.get.ensures.member ∙ c.in-None.is)

pub returns : goal.returns
returns c = agree_on c.args.bundle.now c.requires.bundle c.requires.clean c.requires.few c.decision_of.result c.decision_of.ensures.decision
