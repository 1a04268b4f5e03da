use Rattle.std.proofs.Common.{append_assoc}
use Rattle.gen_show.proofs.entries.push_decided.Goals as goal

pub returns : goal.returns
returns c =
    simp (append_assoc, c.get-number.ensures.value, c.in_ok-push_str.ensures.bytes, c.in_ok-push_members.ensures)
    at c.write.ensures.bytes
