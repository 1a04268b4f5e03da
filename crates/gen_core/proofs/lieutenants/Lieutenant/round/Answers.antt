use Rattle.std.proofs.Common.{subst, take, Contains, ◌⊎◌}
use Rattle.std.proofs.lemmas.List.{take_more, take_all}
use Rattle.gen_types.specs.Ascending.{IsListOf}
use Rattle.gen_core.specs.Loops.Picking.{OrderIn}
use Rattle.gen_core.proofs.Best.{learn_start, learn_more}
use Rattle.gen_core.proofs.PickedPaths.{adds_from_picks}
use Rattle.gen_core.proofs.Seeing.{adds_of, seen_more}
use Rattle.gen_core.proofs.lieutenants.Lieutenant.round.Goals as goal

pub loop-chain-init : goal.loop-chain-init
loop-chain-init c = learn_start c.self.inside.known c.len.ensures.ascending

pub loop-chain-preserved : goal.loop-chain-preserved
loop-chain-preserved c =
    rw (take_more c.args.seen.now c.loop-chain.chain-index c.chain-item.result c.loop-chain-test.true, ← c.chain-item.is) (learn_more c.self.inside.known c.loop-chain.known c.insert.new.self (take c.loop-chain.chain-index c.args.seen.now) c.chain-item.result c.loop-chain.invariant c.insert.ensures.members)

pub returns-clause-adds : goal.returns-clause-adds
returns-clause-adds c =
    let picked = c.pick-adds.ensures.0 in
    rw (← c.self.view_is) (λ net run saw arrivals. rw c.pick-adds.ensures.2 (adds_from_picks run _ _ picked (adds_of net run _ c.args.seen.now picked saw arrivals c.pick-adds.ensures.1)))

pub returns-clause-seen : goal.returns-clause-seen
returns-clause-seen c =
    let learnt = subst (λ xs. IsListOf c.loop-chain.known (λ v. Contains c.self.inside.known v ⊎ OrderIn xs v)) (take_all c.loop-chain.chain-index c.args.seen.now c.loop-chain-test.false) c.loop-chain.invariant in
    rw (← c.self.view_is) (λ net run saw arrivals. seen_more net run _ c.args.seen.now c.loop-chain.known saw arrivals learnt)
