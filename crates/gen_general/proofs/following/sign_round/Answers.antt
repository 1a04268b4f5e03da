use Rattle.std.proofs.Common.{[]}
use Rattle.gen_general.proofs.Relaying.{on_ok, own_with, own_taken_with}
use Rattle.gen_general.proofs.following.sign_round.Goals as goal

pub sign_own-requires-clause-leaf : goal.sign_own-requires-clause-leaf
sign_own-requires-clause-leaf c = λ leaf s. c.requires.leaf leaf
    (rw c.in-Some.is (own_with c.args.header.now c.in-Some.order [] c.args.heard.now c.args.round leaf s))

pub sign_relays-requires-clause-leaf : goal.sign_relays-requires-clause-leaf
sign_relays-requires-clause-leaf c = λ leaf s. c.requires.leaf leaf (rw c.in-None.is s)

pub returns-in-Some-clause-taken : goal.returns-in-Some-clause-taken
returns-in-Some-clause-taken c = rw c.in-Some.is (on_ok _ _ c.sign_own.result
    (own_taken_with c.args.header.now c.in-Some.order [] c.args.heard.now c.args.round c.args.ring.now.taken c.sign_own.new.ring.taken) c.sign_own.ensures.taken)

pub returns-in-None-clause-taken : goal.returns-in-None-clause-taken
returns-in-None-clause-taken c = rw c.in-None.is c.sign_relays.ensures.taken
