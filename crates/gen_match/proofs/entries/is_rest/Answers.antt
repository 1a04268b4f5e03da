use Rattle.std.proofs.Common.{◌≡◌, ◌<◌, ◌∙◌, ap, arith}
use Rattle.gen_net.specs.Network.{Network}
use Rattle.gen_match.proofs.Rest.{rest_told}
use Rattle.gen_match.proofs.entries.is_rest.Goals as goal

pub returns-then-get-generals : goal.returns-then-get-generals
returns-then-get-generals c =
    let n : c.generals.result ≡ c.args.header.now.network.generals = c.generals.ensures.value ∙ ap (λ (w : Network). w.generals) c.net.ensures.value in
    let below : c.args.general < c.args.header.now.network.generals = omega (arith, n, c.get.ensures.value, c.if-get-generals.true) in
    rest_told c.args.header.now.network c.args.faulty.now c.args.general c.contains.result below c.contains.ensures
