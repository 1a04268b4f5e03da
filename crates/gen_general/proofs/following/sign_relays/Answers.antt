use Rattle.std.proofs.Common.{◌≡◌, ◌<◌, ◌+◌, ◌∙◌, sym, ap, refl, arith}
use Rattle.gen_scenario.specs.Part.{own_keys}
use Rattle.gen_general.proofs.Relaying.{count_none, count_more, count_below, relays_none, relays_more, relays_all, taken_start, taken_more, taken_end, next_free}
use Rattle.gen_general.proofs.following.sign_relays.Goals as goal

pub orders-init : goal.orders-init
orders-init c =
    let none = count_none c.args.round c.args.heard.now in
    record {
      signed = c.in_ok-signed.ensures.items ∙ sym (relays_none (own_keys c.args.header.now c.args.ring.now.seed) c.args.me c.args.heard.now c.args.round);
      done = c.in_ok-signed.ensures.len ∙ sym none;
      capacity = omega (arith, c.in_ok-signed.ensures.capacity, c.in_ok-rooms.ensures.count, c.len.ensures);
      left = omega (arith, c.in_ok-rooms.ensures.count, none);
      fit = c.in_ok-rooms.ensures.fit;
      seed = refl;
      height = refl;
      taken = taken_start c.args.header.now c.args.heard.now c.args.round c.args.ring.now.taken;
    }

pub relay_order-requires-clause-leaf : goal.relay_order-requires-clause-leaf
relay_order-requires-clause-leaf c =
    let n = c.orders.number in
    let known : n < c.args.header.now.network.orders = omega (arith, c.orders-test.true, c.orders.auto.number-end, c.orders-number-end.ensures.value, ap (λ net. net.orders) c.net.ensures.value) in
    rw c.at-order.ensures (next_free c.args.header.now c.args.heard.now c.args.round c.args.ring.now.taken c.orders.ring.taken n known c.requires.leaf c.orders.invariant.taken)

pub relay_order-requires-clause-rooms : goal.relay_order-requires-clause-rooms
relay_order-requires-clause-rooms c =
    let n = c.orders.number in
    let known : n < c.args.header.now.network.orders = omega (arith, c.orders-test.true, c.orders.auto.number-end, c.orders-number-end.ensures.value, ap (λ net. net.orders) c.net.ensures.value) in
    let more = count_more c.args.round c.args.heard.now n in
    let below = count_below c.args.round c.args.heard.now (n + 1) c.args.header.now.network.orders (omega (arith, known)) in
    rw c.at-order.ensures (omega (arith, more, below, c.orders.invariant.left))

pub relay_order-requires-clause-signed : goal.relay_order-requires-clause-signed
relay_order-requires-clause-signed c =
    let n = c.orders.number in
    let known : n < c.args.header.now.network.orders = omega (arith, c.orders-test.true, c.orders.auto.number-end, c.orders-number-end.ensures.value, ap (λ net. net.orders) c.net.ensures.value) in
    let more = count_more c.args.round c.args.heard.now n in
    let below = count_below c.args.round c.args.heard.now (n + 1) c.args.header.now.network.orders (omega (arith, known)) in
    rw c.at-order.ensures (omega (arith, more, below, c.orders.invariant.done, c.orders.invariant.capacity))

pub orders-preserved : goal.orders-preserved
orders-preserved c =
    let h = c.args.header.now in
    let heard = c.args.heard.now in
    let round = c.args.round in
    let n = c.orders.number in
    let more = count_more round heard n in
    let one = rw (c.at-order.ensures, c.orders.invariant.seed, c.orders.invariant.signed) at c.relay_order.ensures.chain in
    let signed = rw c.at-order.ensures at c.relay_order.ensures.signed in
    let rooms = rw c.at-order.ensures at c.relay_order.ensures.rooms in
    record {
      signed = one ∙ sym (relays_more (own_keys h c.args.ring.now.seed) c.args.me heard round n);
      done = omega (arith, signed, more, c.orders.invariant.done);
      capacity = omega (arith, c.relay_order.ensures.capacity, c.orders.invariant.capacity);
      left = omega (arith, rooms, more, c.orders.invariant.left);
      fit = c.relay_order.ensures.fit;
      seed = c.relay_order.ensures.seed ∙ c.orders.invariant.seed;
      height = c.relay_order.ensures.height ∙ c.orders.invariant.height;
      taken = taken_more h heard round c.args.ring.now.taken c.orders.ring.taken c.relay_order.new.ring.taken n c.orders.invariant.taken (rw c.at-order.ensures at c.relay_order.ensures.taken);
    }

pub returns-clause-chains : goal.returns-clause-chains
returns-clause-chains c =
    let stop : c.orders.number ≡ c.args.header.now.network.orders = omega (arith, c.orders-test.false, c.orders.auto.number-end, c.orders-number-end.ensures.value, ap (λ net. net.orders) c.net.ensures.value) in
    let all = rw stop at c.orders.invariant.signed in
    all ∙ relays_all (own_keys c.args.header.now c.args.ring.now.seed) c.args.me c.args.heard.now c.args.round

pub returns-clause-taken : goal.returns-clause-taken
returns-clause-taken c =
    let stop : c.orders.number ≡ c.args.header.now.network.orders = omega (arith, c.orders-test.false, c.orders.auto.number-end, c.orders-number-end.ensures.value, ap (λ net. net.orders) c.net.ensures.value) in
    let all = rw stop at c.orders.invariant.taken in
    taken_end c.args.header.now c.args.heard.now c.args.round c.args.ring.now.taken c.orders.ring.taken all
