use Rattle.std.proofs.Common.{◌≡◌, ◌<◌, ◌∷◌, ◌++◌, [], length, ap, arith}
use Rattle.std.proofs.lemmas.List.{take_all}
use Rattle.gen_net.specs.Header.{height_of}
use Rattle.gen_chain.specs.declared.chains.Signer.{Signer}
use Rattle.gen_chain.specs.Chain.{IsSignedChain, signed_path}
use Rattle.gen_chain.specs.Making.{signed_by}
use Rattle.gen_chain.specs.Verifying.{EachHasSigned}
use Rattle.gen_chain.proofs.DistinctPaths.{has_room}
use Rattle.gen_chain.proofs.LongerChains.{chain-push}
use Rattle.gen_chain.proofs.SignedSoFar.{signed-push}
use Rattle.gen_chain.proofs.making.extend_chain.Goals as goal

pub push_new-requires-clause-room : goal.push_new-requires-clause-room
push_new-requires-clause-room c =
    let is = c.requires.height in
    let room = has_room 16 (signed_path c.args.chain.now.signers) c.args.me is.distinct is.below (omega (arith, c.get-below_16.ensures.value, c.get-below_16.ensures.below)) c.requires.new in
    omega (arith, room, ap length c.path-path.ensures)

pub invariant_of-result : goal.invariant_of-result
invariant_of-result c =
    let old = c.args.chain.now.signers in
    let s : Signer = signed_by c.args.key c.args.header.now (record { order = c.order-order.result; path = c.push_new.new.self }) c.args.me in
    let items : c.sign_behind.new.signers.items ≡ old ++ s ∷ [] = rw (c.earlier.invariant.items, take_all c.earlier.signer-index old (omega (arith, c.earlier-test.false, ap length c.signers-signer-items.ensures))) at c.sign_behind.ensures.items in
    let was : IsSignedChain (height_of c.args.header.now) (record { order = c.order-order.result; signers = old }) = rw c.order-order.ensures.value c.requires.height in
    rw (items, c.height.ensures) (chain-push (height_of c.args.header.now) c.order-order.result old s was (omega (arith, c.get-below_16.ensures.value, c.get-below_16.ensures.below)) c.requires.new c.sign_behind.ensures.width)

pub returns-clause-verifies : goal.returns-clause-verifies
returns-clause-verifies c = λ of_key before.
    let old = c.args.chain.now.signers in
    let path : c.push_new.new.self ≡ signed_path old ++ c.args.me ∷ [] = rw c.path-path.ensures at c.push_new.ensures in
    let s : Signer = signed_by c.args.key c.args.header.now (record { order = c.order-order.result; path = signed_path old ++ c.args.me ∷ [] }) c.args.me in
    let items : c.sign_behind.new.signers.items ≡ old ++ s ∷ [] = rw (path, c.earlier.invariant.items, take_all c.earlier.signer-index old (omega (arith, c.earlier-test.false, ap length c.signers-signer-items.ensures))) at c.sign_behind.ensures.items in
    let signed = rw path at c.sign_behind.ensures.signed in
    let low : c.order-order.result < c.args.header.now.network.orders = rw c.order-order.ensures.value before.0 in
    let each : EachHasSigned c.args.header.now c.order-order.result old = rw c.order-order.ensures.value before.1 in
    (low, rw items (signed-push c.args.header.now c.order-order.result old s each (signed of_key)))

pub returns-clause-height : goal.returns-clause-height
returns-clause-height c =
    let old = c.args.chain.now.signers in
    let s : Signer = signed_by c.args.key c.args.header.now (record { order = c.order-order.result; path = c.push_new.new.self }) c.args.me in
    let items : c.sign_behind.new.signers.items ≡ old ++ s ∷ [] = rw (c.earlier.invariant.items, take_all c.earlier.signer-index old (omega (arith, c.earlier-test.false, ap length c.signers-signer-items.ensures))) at c.sign_behind.ensures.items in
    let was : IsSignedChain (height_of c.args.header.now) (record { order = c.order-order.result; signers = old }) = rw c.order-order.ensures.value c.requires.height in
    rw items (chain-push (height_of c.args.header.now) c.order-order.result old s was (omega (arith, c.get-below_16.ensures.value, c.get-below_16.ensures.below)) c.requires.new c.sign_behind.ensures.width)
