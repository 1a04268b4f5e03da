use Rattle.std.proofs.Common.{append_assoc}
use Rattle.gen_show.specs.LogText.{unreadable_line}
use Rattle.gen_show.proofs.Chains.{ended}
use Rattle.gen_show.proofs.logs.push_unreadable.Goals as goal

pub returns : goal.returns
unfolding unreadable_line
returns c =
    simp append_assoc
    (ended _ _ _ _
    (simp (append_assoc, c.get-of.ensures.value, c.in_ok-write.ensures.bytes, c.in_ok-push_log_fault.ensures)
    at c.push_str.ensures.bytes))
