use Rattle.std.proofs.Common.{take, ◌≡◌, ap, ◌∙◌, List, arith, length, refl}
use Rattle.std.specs.Prelude.{option_to_list}
use Rattle.gen_chain.specs.Chain.{Chain}
use Rattle.gen_general.specs.Loops.Journals.{signs_at, chain_with}
use Rattle.gen_scenario.specs.RoundEntries.{sign_of}
use Rattle.gen_general.proofs.Standing.{role_signs_are}
use Rattle.gen_general.proofs.JournalChains.{by_none, by_nothing, by_some}
use Rattle.gen_general.proofs.participants.Participant.sign_entries.Goals as goal

pub orders-init : goal.orders-init
orders-init c =
    let none : length c.args.empty.items ≡ 0 = ap length c.requires.empty in
    record {
      written = c.requires.empty ∙ by_none sign_of (signs_at c.args.self.now);
      rooms = omega (arith, c.requires.rooms);
      room = c.requires.room;
      few = omega (arith, none);
    }

pub orders-preserved : goal.orders-preserved
orders-preserved c =
    let cs : List Chain = signs_at c.args.self.now in
    let i = c.self.inside in
    let made = role_signs_are i.part i.heard.items (take i.begun i.heard.items) i.round i.role c.self.invariant.standing.acts in
    let found = c.in-Some.ensures ∙ ap (chain_with c.at.result) made ∙ ap (λ p. chain_with c.at.result (signs_at p)) c.self.view_is ∙ ap (λ v. chain_with v cs) c.at.ensures in
    let one : length (option_to_list c.pop.result) ≡ 1 = rw c.unwrap-room.ensures refl in
    let pushed = rw (c.unwrap.ensures, c.sign_entry.ensures) at c.push.ensures.items in
    record {
      written = by_some sign_of cs c.orders.number _ _ c.in-Some.chain.now c.orders.invariant.written found pushed;
      rooms = omega (arith, one, c.pop.ensures.len, c.orders.invariant.rooms);
      room = omega (arith, c.push.ensures.capacity, c.orders.invariant.room);
      few = omega (arith, c.push.ensures.len, c.orders.invariant.few);
    }

pub orders-preserved-in_default : goal.orders-preserved-in_default
orders-preserved-in_default c =
    let cs : List Chain = signs_at c.args.self.now in
    let i = c.self.inside in
    let made = role_signs_are i.part i.heard.items (take i.begun i.heard.items) i.round i.role c.self.invariant.standing.acts in
    let none = c.in_default.ensures ∙ ap (chain_with c.at.result) made ∙ ap (λ p. chain_with c.at.result (signs_at p)) c.self.view_is ∙ ap (λ v. chain_with v cs) c.at.ensures in
    record {
      written = by_nothing sign_of cs c.orders.number _ c.orders.invariant.written none;
      rooms = omega (arith, c.orders.invariant.rooms);
      room = c.orders.invariant.room;
      few = omega (arith, c.orders.invariant.few);
    }
