use Rattle.std.proofs.Common.{string_bytes}
use Rattle.gen_show.proofs.Chains.{behind, both, ended}
use Rattle.gen_show.proofs.evidence.push_evidence.Goals as goal

pub returns-then-holds : goal.returns-then-holds
returns-then-holds c =
    rw c.if-holds.true
    (behind _ (string_bytes c.args.out.now) _ _ _ _
    (both _ _ _ _ _
    (both _ _ _ _ _ (both _ _ _ _ _ c.in_ok-push_header.ensures c.in_ok-push_accused.ensures) c.in_ok-push_kind.ensures)
    c.in_ok-push_claim.ensures)
    (ended _ _ _ _ c.push_str.ensures.bytes))

pub returns-else-holds : goal.returns-else-holds
returns-else-holds c =
    rw c.if-holds.false
    (behind _ (string_bytes c.args.out.now) _ _ _ _
    (both _ _ _ _ _
    (both _ _ _ _ _ (both _ _ _ _ _ c.in_ok-push_header.ensures c.in_ok-push_accused.ensures) c.in_ok-push_kind.ensures)
    c.in_ok-push_claim.ensures)
    (ended _ _ _ _ c.push_str-else-holds.ensures.bytes))
