use Rattle.std.proofs.Common.{◌≡◌, ap, sym}
use Rattle.gen_general.specs.Loops.Acting.{Follower, IsFree}
use Rattle.gen_general.proofs.roles.Role.begin.Goals as goal

pub sign_round-requires-clause-others : goal.sign_round-requires-clause-others
sign_round-requires-clause-others c = rw (c.header-header.ensures.value, c.me-me.ensures) c.requires.others

pub sign_round-requires-clause-leaf : goal.sign_round-requires-clause-leaf
sign_round-requires-clause-leaf c =
    let free : IsFree c.args.part.now c.args.heard.now c.args.round c.in-Loyal.follower = rw c.in-Loyal.is at c.requires.free in
    let ring : c.in-Loyal.follower.ring ≡ c.follower.inside.ring = ap (λ (f : Follower). f.ring) (sym c.follower.view_is) in
    rw (c.header-header.ensures.value, c.own-own.ensures) (rw ring at free.leaf)

pub plan_round-requires-clause-heard : goal.plan_round-requires-clause-heard
plan_round-requires-clause-heard c = rw c.header-header-in-Scripted.ensures.value (λ x k. (c.requires.others x k).chain)

pub returns-in_ok-signed-in-Loyal-clause-ok : goal.returns-in_ok-signed-in-Loyal-clause-ok
returns-in_ok-signed-in-Loyal-clause-ok c =
    let ring : c.follower.inside.ring ≡ c.in-Loyal.follower.ring = ap (λ (f : Follower). f.ring) c.follower.view_is in
    let e = rw (c.header-header.ensures.value, c.own-own.ensures, c.me-me.ensures, ring) at c.in_ok-signed-in-Loyal.ensures in
    rw c.in-Loyal.is (record {
      signed = e.chains;
      ring = record { seed = e.seed; height = e.height; taken = e.taken };
    })
