use Rattle.std.proofs.Common.{◌≡◌, ℕ, ap, subst, sym, arith}
use Rattle.gen_net.proofs.Neighbours.{one_more, passed}
use Rattle.gen_net.specs.Network.{Network}
use Rattle.gen_receipt.specs.Convicting.{IsConvicted}
use Rattle.gen_receipting.proofs.Given.{all_convicted, if_none, if_some}
use Rattle.gen_receipting.proofs.told.convicted_by.Goals as goal
use Rattle.gen_receipting.proofs.told.convicted_by.Goals.{then-is_some, else-is_some}

pub generals-preserved : goal.generals-preserved
generals-preserved c =
    let P : ℕ → Type 0 = IsConvicted c.args.header.now c.args.receipts.now in
    let here : Type 0 = P c.at-general.result in
    let found = c.in_ok-evidence_by_receipts.field-0 in
    elim c.if-is_some.branch [
      | then-is_some w ↦ rw w.convicted-is (one_more P c.generals.convicted _ c.generals.number c.generals.invariant (subst P c.at-general.ensures (if_some here found c.is_some.result c.is_some.ensures w.if-is_some.true c.in_ok-evidence_by_receipts.ensures.some)) (rw c.at-general.ensures at w.insert.ensures.members))
      | else-is_some w ↦ rw w.convicted-is (passed P c.generals.convicted c.generals.number c.generals.invariant (λ p. if_none (here → ⊥) found c.is_some.result c.is_some.ensures w.if-is_some.false c.in_ok-evidence_by_receipts.ensures.none (subst P (sym c.at-general.ensures) p)))
    ]

pub returns : goal.returns
returns c =
    let h = c.args.header.now in
    let generals : c.net.result.now.generals ≡ h.network.generals = ap (λ (n : Network). n.generals) c.net.ensures.value in
    let whole : c.generals.number ≡ h.network.generals = omega (arith, generals, c.generals-test.false, c.generals.auto.number-end, c.generals-number-end.ensures.value) in
    all_convicted h c.args.receipts.now c.generals.convicted c.generals.number c.requires whole c.generals.invariant
