use Rattle.std.proofs.Common.{string_bytes}
use Rattle.std.proofs.lemmas.List.{take_all}
use Rattle.gen_draw.specs.Several.{across_opening, across_part}
use Rattle.gen_draw.proofs.Chains.{behind, ended}
use Rattle.gen_draw.proofs.several.push_across.Goals as goal

pub returns : goal.returns
unfolding across_part across_opening
returns c =
    behind _ (string_bytes c.args.out.now) _ _ _ _ c.in_ok-write.ensures.bytes
    (behind _ _ _ _ _ _
    (rw (take_all c.loop-evidence.evidence-index c.args.across.now c.loop-evidence-test.false) at c.loop-evidence.invariant)
    (ended _ _ _ _ c.push_str.ensures.bytes))
