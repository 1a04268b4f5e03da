use Rattle.std.proofs.Common.{◌≡◌, ◌+◌, ◌<◌, vec_len, MatchBool, subst, arith}
use Rattle.gen_audit.specs.Loops.Hands.{AreHands}
use Rattle.gen_audit.proofs.Joined.{all_joined, ended_hands}
use Rattle.gen_audit.proofs.starting.run_within.Goals as goal

pub returns-clause-hands : goal.returns-clause-hands
returns-clause-hands g c =
    let h = c.args.header.now in let xs = c.args.exhibits.now in let last = c.args.last in
    let handles = c.start_all-started.new.handles in
    let hands = c.join_all-complete.new.hands in
    rw c.ended.ensures
    (ended_hands (λ v. AreHands h xs last v.items) hands c.join_all-complete.result c.start_all-started.result (λ complete started.
    let all : vec_len handles ≡ last = subst (λ b. MatchBool b (vec_len handles ≡ last) (vec_len handles < last)) started c.start_all-started.ensures.count in
    all_joined h xs last (1 + vec_len handles) c.join_all-complete.result hands.items c.join_all-complete.ensures complete (omega arith)))
