use Rattle.std.proofs.Common.{◌≡◌, ◌<◌, length, ap, arith}
use Rattle.std.proofs.lemmas.Bool.{ltb-true, lt-ltb}
use Rattle.gen_net.specs.Network.{Network}
use Rattle.gen_receipt.proofs.OrdersShown.{are_many, is_shown}
use Rattle.gen_receipt.proofs.showing.is_shown.Goals as goal

pub returns : goal.returns
returns c =
    let h = c.args.header.now in
    let rs = c.args.receipts.now in
    let generals = c.generals_showing-generals.result in
    let listed = c.generals_showing-generals.ensures in
    let traitors : c.net-net.result.now.traitors ≡ h.network.traitors = ap (λ (n : Network). n.traitors) c.net-net.ensures.value in (
      (λ t.
          let lt : c.from.result < c.len.result = ltb-true c.from.result c.len.result t in
          is_shown h rs c.args.order generals listed (omega (arith, traitors, c.len.ensures.length, c.traitors.ensures, c.from.ensures, lt))),
      (λ shown.
          let many : h.network.traitors < length generals = are_many h rs c.args.order generals listed shown in
          lt-ltb c.from.result c.len.result (omega (arith, traitors, c.len.ensures.length, c.traitors.ensures, c.from.ensures, many))),
    )
