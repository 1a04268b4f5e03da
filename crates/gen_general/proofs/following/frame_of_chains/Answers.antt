use Rattle.std.proofs.Common.{◌∙◌, ◌++◌, ◌∷◌, [], List, ℕ, ap}
use Rattle.gen_general.proofs.Relaying.{frame_with, frame_without}
use Rattle.gen_general.proofs.following.frame_of_chains.Goals as goal

pub chains-preserved-then-contains : goal.chains-preserved-then-contains
chains-preserved-then-contains c =
    let has = rw c.path.ensures at c.contains.ensures in
    frame_without c.args.to c.chains.chain-index c.args.chains.now c.chain-item.result c.chains.frame.items c.chains-test.true c.chain-item.is (has.0 c.if-contains.true) c.chains.invariant

pub chains-preserved : goal.chains-preserved
chains-preserved c =
    let has = rw c.path.ensures at c.contains.ensures in
    frame_with c.args.to c.chains.chain-index c.args.chains.now c.chain-item.result c.chains.frame.items _ c.chains-test.true c.chain-item.is (λ h. let t = has.1 h in absurd cc) c.chains.invariant
    (c.in_ok-push.ensures.items ∙ ap (λ (p : List ℕ). c.chains.frame.items ++ p ∷ []) (c.new.ensures ∙ c.in_ok-write_chain.ensures))
