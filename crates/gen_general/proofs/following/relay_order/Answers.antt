use Rattle.std.proofs.Common.{◌≡◌, ◌∙◌, sym, ap, subst, Contains, Some, arith}
use Rattle.std.specs.Prelude.{option_map}
use Rattle.std.proofs.lemmas.List.{length-map}
use Rattle.gen_chain.specs.Leaves.{leaf_of_order}
use Rattle.gen_scenario.specs.Heard.{first_of}
use Rattle.gen_general.specs.Loops.Relays.{IsRoom, due_of}
use Rattle.gen_general.proofs.Relaying.{first_stands, due_has, due_signed, all_popped, taken_one}
use Rattle.gen_general.proofs.following.relay_order.Goals as goal

pub sign_on-requires-clause-new : goal.sign_on-requires-clause-new
sign_on-requires-clause-new c =
    let due : due_of c.args.round (first_of c.args.order c.args.heard.now) ≡ Some c.in-Some.x.now = sym c.due_in.ensures ∙ ap (option_map (λ x. x.now)) c.in-Some.is in
    let first = (due_has c.args.round (first_of c.args.order c.args.heard.now) c.in-Some.x.now due).0 in
    (c.requires.others c.in-Some.x.now (first_stands c.args.order c.args.heard.now c.in-Some.x.now first).0).outside

pub sign_on-requires-clause-chain : goal.sign_on-requires-clause-chain
sign_on-requires-clause-chain c =
    let due : due_of c.args.round (first_of c.args.order c.args.heard.now) ≡ Some c.in-Some.x.now = sym c.due_in.ensures ∙ ap (option_map (λ x. x.now)) c.in-Some.is in
    let first = (due_has c.args.round (first_of c.args.order c.args.heard.now) c.in-Some.x.now due).0 in
    (c.requires.others c.in-Some.x.now (first_stands c.args.order c.args.heard.now c.in-Some.x.now first).0).chain

pub sign_on-requires-clause-room : goal.sign_on-requires-clause-room
sign_on-requires-clause-room c =
    let due : due_of c.args.round (first_of c.args.order c.args.heard.now) ≡ Some c.in-Some.x.now = sym c.due_in.ensures ∙ ap (option_map (λ x. x.now)) c.in-Some.is in
    let now = (due_has c.args.round (first_of c.args.order c.args.heard.now) c.in-Some.x.now due).1 in
    let popped = rw c.unwrap-room.ensures at c.pop.ensures.items in
    let room = (all_popped (IsRoom c.args.header.now c.args.round) c.args.rooms.now.items c.pop.new.self.items c.unwrap-room.result popped c.requires.fit).1 in
    let long = length-map c.in-Some.x.now.chain.signers (λ s. s.general) in
    omega (arith, room.signers, long, now)

pub sign_on-requires-clause-leaf : goal.sign_on-requires-clause-leaf
sign_on-requires-clause-leaf c =
    let due : due_of c.args.round (first_of c.args.order c.args.heard.now) ≡ Some c.in-Some.x.now = sym c.due_in.ensures ∙ ap (option_map (λ x. x.now)) c.in-Some.is in
    let first = (due_has c.args.round (first_of c.args.order c.args.heard.now) c.in-Some.x.now due).0 in
    let o = (first_stands c.args.order c.args.heard.now c.in-Some.x.now first).1 in
    let signed = due_signed c.args.round (first_of c.args.order c.args.heard.now) c.in-Some.x.now due in
    λ k. c.requires.leaf signed (subst (λ v. Contains c.args.ring.now.taken (leaf_of_order c.args.header.now v)) o k)

pub returns-in-Some-clause-fit : goal.returns-in-Some-clause-fit
returns-in-Some-clause-fit c =
    let popped = rw c.unwrap-room.ensures at c.pop.ensures.items in
    (all_popped (IsRoom c.args.header.now c.args.round) c.args.rooms.now.items c.pop.new.self.items c.unwrap-room.result popped c.requires.fit).0

pub returns-in-Some-clause-taken : goal.returns-in-Some-clause-taken
returns-in-Some-clause-taken c =
    let due : due_of c.args.round (first_of c.args.order c.args.heard.now) ≡ Some c.in-Some.x.now = sym c.due_in.ensures ∙ ap (option_map (λ x. x.now)) c.in-Some.is in
    let first = (due_has c.args.round (first_of c.args.order c.args.heard.now) c.in-Some.x.now due).0 in
    let o = (first_stands c.args.order c.args.heard.now c.in-Some.x.now first).1 in
    let signed = due_signed c.args.round (first_of c.args.order c.args.heard.now) c.in-Some.x.now due in
    taken_one c.args.header.now c.args.heard.now c.args.round c.args.ring.now.taken c.sign_on.new.ring.taken c.args.order c.in-Some.x.now.chain.order o signed c.sign_on.ensures.taken
