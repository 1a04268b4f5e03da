use Rattle.std.proofs.Common.{◌≡◌, ◌≤◌, ◌∙◌, Bool, true, false, Ok, refl, sym, arith}
use Rattle.std.proofs.lemmas.Bool.{leb-true}
use Rattle.gen_types.specs.Reading.{check}
use Rattle.gen_chain.specs.Chain.{most_signers}
use Rattle.gen_chain.proofs.ChainLaws.{is_chain}
use Rattle.gen_chain.proofs.reading.chain_in_front.Goals as goal
use Rattle.gen_chain.proofs.reading.chain_in_front.Goals.{then-count-ge1, else-count-ge1}

passed : {F : Type 0} (test : Bool) (fault : F) (u : Unit {0}) → check test fault ≡ Ok u → test ≡ true
passed true fault u e = refl
passed false fault u e = absurd cc

pub invariant_of-chain : goal.invariant_of-chain
invariant_of-chain c =
    let count = c.in_ok-count.count in
    let low = leb-true _ _ (passed _ _ _ c.in_ok-check.ensures.exact) in
    let lawful : c.if-count-ge1.check ≡ true = passed _ _ _ c.in_ok-check-2.ensures.exact in
    let both : (1 ≤ count) × (count ≤ most_signers) = elim c.if-count-ge1.branch [
      | then-count-ge1 w ↦ (omega (arith, w.if-count-ge1.true), leb-true _ _ (sym w.check-is ∙ lawful))
      | else-count-ge1 w ↦ absurd (omega (arith, w.if-count-ge1.false, leb-true _ _ (sym w.check-is ∙ lawful)))
    ] in
    rw c.at.ensures (is_chain c.args.height c.in_ok-order.order count _ _ _ low both.0 both.1 c.in_ok-signers.ensures)
