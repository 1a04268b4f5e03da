use Rattle.std.proofs.lemmas.List.Elements.{All-push}
use Rattle.gen_audit.specs.Verdict.{IsDecision}
use Rattle.gen_audit.proofs.Decided.{next_is_in, one_more_general, are_decisions, all_of_rest}
use Rattle.gen_audit.proofs.audits.decisions_of.Goals as goal

pub decision_of-requires-clause-of_rest : goal.decision_of-requires-clause-of_rest
decision_of-requires-clause-of_rest c = (c.requires.rest.members c.in-Some.general).0 (next_is_in c.generals.decisions.items c.generals.general-iterator c.in-Some.general _ c.args.rest.now c.generals.invariant.generals c.in-Some.ensures.steps)

pub generals-preserved : goal.generals-preserved
generals-preserved c = record {
  generals = rw c.in_ok-push.ensures.items (one_more_general c.generals.decisions.items c.generals.general-iterator c.in-Some.general _ c.args.rest.now c.decision_of.result c.generals.invariant.generals c.in-Some.ensures.steps c.decision_of.ensures.whose);
  each = rw c.in_ok-push.ensures.items (All-push (IsDecision c.args.bundle.now) c.generals.decisions.items c.decision_of.result c.generals.invariant.each c.decision_of.ensures.decision);
}

pub returns : goal.returns
returns c = are_decisions c.args.bundle.now c.requires.bundle c.requires.clean c.args.rest.now c.requires.rest c.generals.decisions.items (all_of_rest c.generals.decisions.items c.generals.general-iterator c.args.rest.now c.generals.invariant.generals c.in-None.ensures.steps.0) c.generals.invariant.each
