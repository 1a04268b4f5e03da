use Rattle.std.proofs.Common.{◌<◌, sym, ◌∙◌, arith}
use Rattle.gen_script.proofs.PathSteps.{passed, known_in, new_in, room_for}
use Rattle.gen_script.proofs.path_fields.longer_by.Goals as goal

pub at-requires : goal.at-requires
at-requires c =
    let may = sym c.may_follow.ensures ∙ passed c.may_follow.result _ c.in_ok-check.ensures.exact in
    omega (arith, known_in c.args.net.now c.args.kind c.args.front c.in_ok-number.number may, c.generals-generals.ensures.network.ranges.few_generals)

pub push_new-requires-clause-room : goal.push_new-requires-clause-room
push_new-requires-clause-room c =
    let may = sym c.may_follow.ensures ∙ passed c.may_follow.result _ c.in_ok-check.ensures.exact in
    let below : c.in_ok-number.number < 16 = omega (arith, known_in c.args.net.now c.args.kind c.args.front c.in_ok-number.number may, c.generals-generals.ensures.network.ranges.few_generals) in
    room_for c.in_ok-number.number c.args.front c.len-distinct.ensures.at_most c.len-distinct.ensures.distinct c.len-distinct.ensures.below below (new_in c.args.net.now c.args.kind c.args.front c.in_ok-number.number may)
