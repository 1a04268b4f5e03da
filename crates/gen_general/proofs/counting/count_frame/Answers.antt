use Rattle.std.proofs.Common.{Ok, ◌≡◌, ◌≤◌, ◌+◌, ◌++◌, ◌∷◌, [], take, sym, ap, ◌∙◌, arith, length}
use Rattle.std.proofs.lemmas.List.{take_more, take_all}
use Rattle.gen_scenario.specs.Counted.{counted_of}
use Rattle.gen_scenario.proofs.FirstChains.{as_counted, listed_all, listed_known, listed_many, listed_new, listed_none, listed_start}
use Rattle.gen_general.proofs.IfOks.{is_not}
use Rattle.gen_general.proofs.counting.count_frame.Goals as goal

pub parcels-init : goal.parcels-init
parcels-init c = (c.new-counted.ensures.items ∙ listed_start c.args.header.now c.args.delivery.now, c.requires.serves)

pub parcels-preserved-in_default : goal.parcels-preserved-in_default
parcels-preserved-in_default c =
    let i = c.parcels.parcel-index in
    let frame = c.args.frame.now in
    let grown : take (i + 1) frame ≡ take i frame ++ c.parcel-item.result ∷ [] = take_more frame i c.parcel-item.result c.parcels-test.true ∙ ap (λ x. take i frame ++ x ∷ []) (sym c.parcel-item.is) in
    let none = rw c.bytes.ensures at c.in_ok-chain.ensures.none in
    (rw grown (listed_none c.args.header.now c.args.delivery.now (take i frame) c.parcel-item.result c.parcels.counted.items c.parcels.invariant.0 (none (ap Ok c.in_default.is))), c.in_ok-chain.ensures.serves)

pub parcels-preserved-then-has_order : goal.parcels-preserved-then-has_order
parcels-preserved-then-has_order c =
    let i = c.parcels.parcel-index in
    let frame = c.args.frame.now in
    let grown : take (i + 1) frame ≡ take i frame ++ c.parcel-item.result ∷ [] = take_more frame i c.parcel-item.result c.parcels-test.true ∙ ap (λ x. take i frame ++ x ∷ []) (sym c.parcel-item.is) in
    let has = rw (c.as_slice.ensures.value, c.order.ensures.value) at c.has_order.ensures in
    let some = rw c.bytes.ensures at c.in_ok-chain.ensures.some in
    (rw grown (listed_known c.args.header.now c.args.delivery.now (take i frame) c.parcel-item.result c.parcels.counted.items c.in-Some.chain c.parcels.invariant.0 (some c.in-Some.chain (ap Ok c.in-Some.is)) (has.0 c.if-has_order.true)), c.in_ok-chain.ensures.serves)

pub parcels-preserved : goal.parcels-preserved
parcels-preserved c =
    let i = c.parcels.parcel-index in
    let frame = c.args.frame.now in
    let grown : take (i + 1) frame ≡ take i frame ++ c.parcel-item.result ∷ [] = take_more frame i c.parcel-item.result c.parcels-test.true ∙ ap (λ x. take i frame ++ x ∷ []) (sym c.parcel-item.is) in
    let has = rw (c.as_slice.ensures.value, c.order.ensures.value) at c.has_order.ensures in
    let some = rw c.bytes.ensures at c.in_ok-chain.ensures.some in
    (rw (grown, c.in_ok-push.ensures.items) (listed_new c.args.header.now c.args.delivery.now (take i frame) c.parcel-item.result c.parcels.counted.items c.in-Some.chain c.parcels.invariant.0 (some c.in-Some.chain (ap Ok c.in-Some.is)) (λ k. is_not c.has_order.result _ has c.if-has_order.false k)), c.in_ok-chain.ensures.serves)

-- the chains in the order of their parcels
listed : (c : goal.After-parcels) → c.parcels.counted.items ≡ counted_of c.args.header.now c.args.delivery.now c.args.frame.now
listed c =
    let whole = take_all c.parcels.parcel-index c.args.frame.now c.parcels-test.false in
    let frame = c.args.frame.now in
    let few : length frame ≤ c.args.header.now.network.orders = omega (arith, c.if-frame-from.false, c.from.ensures, c.orders.ensures.value, ap (λ n. n.orders) c.net.ensures.value) in
    listed_all c.args.header.now c.args.delivery.now frame c.parcels.counted.items few (rw whole at c.parcels.invariant.0)

pub returns-clause-counted : goal.returns-clause-counted
returns-clause-counted c = as_counted _ _ _ _ (listed c)

pub returns-clause-exact : goal.returns-clause-exact
returns-clause-exact c = listed c

-- none of a frame that is too long
none : (c : goal.Then-frame-from) → c.new-counted.result.items ≡ counted_of c.args.header.now c.args.delivery.now c.args.frame.now
none c =
    let frame = c.args.frame.now in
    c.new-counted.ensures.items ∙ listed_many c.args.header.now c.args.delivery.now frame (λ few. absurd (omega (arith, few, c.if-frame-from.true, c.from.ensures, c.orders.ensures.value, ap (λ n. n.orders) c.net.ensures.value)))

pub returns-then-frame-from-clause-counted : goal.returns-then-frame-from-clause-counted
returns-then-frame-from-clause-counted c = as_counted _ _ _ _ (none c)

pub returns-then-frame-from-clause-exact : goal.returns-then-frame-from-clause-exact
returns-then-frame-from-clause-exact c = none c
