use Rattle.std.proofs.Common.{sym, ◌∙◌}
use Rattle.std.proofs.lemmas.Bool.{false≢true}
use Rattle.gen_audit.proofs.Collecting.{pair_added, nobody_added, nothing_added}
use Rattle.gen_audit.proofs.findings_collected.add_unjoined.Goals as goal

pub returns-in_ok-push : goal.returns-in_ok-push
returns-in_ok-push c = rw c.in_ok-push.ensures.items (nobody_added c.args.net.now c.args.rest.now c.args.walks.now c.args.findings.now.items (c.is_empty.ensures.0 c.if-is_empty.true))

pub returns-in_ok-push-2 : goal.returns-in_ok-push-2
returns-in_ok-push-2 c = rw c.in_ok-push-2.ensures.items (pair_added c.args.net.now c.args.rest.now c.args.walks.now c.args.findings.now.items c.in-Err.bad.a c.in-Err.bad.b c.in-Err.ensures.err)

pub returns-in_default : goal.returns-in_default
returns-in_default c = nothing_added c.args.net.now c.args.rest.now c.args.walks.now c.args.findings.now.items (λ none. false≢true (sym c.if-is_empty.false ∙ c.is_empty.ensures.1 none)) c.in_default.ensures.ok
