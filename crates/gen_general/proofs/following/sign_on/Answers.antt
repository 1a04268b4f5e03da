use Rattle.std.proofs.Common.{◌≡◌, ◌∙◌, Some}
use Rattle.std.proofs.lemmas.Option.{MatchOption-at_some}
use Rattle.gen_general.proofs.Relaying.{one_behind}
use Rattle.gen_general.proofs.following.sign_on.Goals as goal

pub returns-clause-chain : goal.returns-clause-chain
returns-clause-chain c =
    let some : c.take.result ≡ Some c.unwrap-key.result = cc in
    let key = MatchOption-at_some _ _ c.unwrap-key.result some c.take.ensures.key in
    let made = rw (c.leaf_of_order.ensures.value, c.order.ensures.value, c.requires.ring) at key in
    c.extend_chain.ensures.chain ∙ one_behind c.args.header.now c.args.ring.now.seed c.args.chain.now c.args.me c.unwrap-key.result made

pub returns-clause-taken : goal.returns-clause-taken
returns-clause-taken c =
    let some : c.take.result ≡ Some c.unwrap-key.result = cc in
    let listed = MatchOption-at_some _ _ c.unwrap-key.result some c.take.ensures.taken in
    rw (c.leaf_of_order.ensures.value, c.order.ensures.value) at listed.members
