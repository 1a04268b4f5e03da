use Rattle.std.proofs.Common.{take, ap, ◌∙◌, List}
use Rattle.gen_chain.specs.Chain.{Chain}
use Rattle.gen_general.specs.Loops.Journals.{sends_at, chain_with}
use Rattle.gen_scenario.specs.RoundEntries.{send_of}
use Rattle.gen_general.proofs.Standing.{role_sends_are}
use Rattle.gen_general.proofs.JournalChains.{by_none, by_nothing, by_some}
use Rattle.gen_general.proofs.participants.Participant.send_entries.Goals as goal

pub orders-init : goal.orders-init
orders-init c = c.new-entries.ensures.items ∙ by_none (send_of c.args.to) (sends_at c.args.self.now c.args.to)

pub orders-preserved : goal.orders-preserved
orders-preserved c =
    let cs : List Chain = sends_at c.args.self.now c.args.to in
    let i = c.self.inside in
    let made = role_sends_are i.part i.heard.items (take i.begun i.heard.items) i.round c.args.to i.role c.self.invariant.standing.acts in
    let found = c.in-Some.ensures ∙ ap (chain_with c.at.result) made ∙ ap (λ p. chain_with c.at.result (sends_at p c.args.to)) c.self.view_is ∙ ap (λ v. chain_with v cs) c.at.ensures in
    let pushed = rw (c.order.ensures.value, c.path.ensures) at c.in_ok-push.ensures.items in
    by_some (send_of c.args.to) cs c.orders.number _ _ c.in-Some.chain.now c.orders.invariant found pushed

pub orders-preserved-in_default : goal.orders-preserved-in_default
orders-preserved-in_default c =
    let cs : List Chain = sends_at c.args.self.now c.args.to in
    let i = c.self.inside in
    let made = role_sends_are i.part i.heard.items (take i.begun i.heard.items) i.round c.args.to i.role c.self.invariant.standing.acts in
    let none = c.in_default.ensures ∙ ap (chain_with c.at.result) made ∙ ap (λ p. chain_with c.at.result (sends_at p c.args.to)) c.self.view_is ∙ ap (λ v. chain_with v cs) c.at.ensures in
    by_nothing (send_of c.args.to) cs c.orders.number _ c.orders.invariant none
