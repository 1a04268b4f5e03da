use Rattle.std.proofs.Common.{string_bytes}
use Rattle.gen_draw.specs.Marks.{found_front, found_opening}
use Rattle.gen_draw.proofs.Chains.{behind, ended}
use Rattle.gen_draw.proofs.marks.push_found_opening.Goals as goal

pub returns : goal.returns
unfolding found_opening found_front
returns c =
    behind _ (string_bytes c.args.out.now) _ _ _ _ c.in_ok-push_str.ensures.bytes
    (behind _ _ _ _ _ _ c.in_ok-push_finding_name.ensures (ended _ _ _ _ c.push_str-2.ensures.bytes))
