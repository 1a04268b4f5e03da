use Rattle.std.proofs.Common.{◌≡◌, ◌∙◌, ap, rules, Some, slice_set}
use Rattle.std.proofs.lemmas.List.{get_or_default}
use Rattle.gen_desk.specs.History.{Filing, MayHappen, empty, row_at}
use Rattle.gen_desk.specs.Histories.{History, with_event}
use Rattle.gen_desk.specs.Kept.{history_of}
use Rattle.gen_desk.proofs.Growing.{files}
use Rattle.gen_desk.proofs.state.DeskState.file_made.Goals as goal

pub invariant_of-self-2 : goal.invariant_of-self-2
invariant_of-self-2 c =
    let rows = c.self.inside.rows.items in let steps = c.self.inside.steps.items in
    let may : MayHappen rows (Filing c.give_up-place.result c.args.exhibit) = search rules in
    let row : c.index_mut.result.now ≡ row_at rows c.give_up-place.result = c.index_mut.ensures.value ∙ get_or_default rows c.give_up-place.result c.index_mut.result.now empty may.0 in
    rw (row, c.push_reserved.ensures.items, c.reserve.ensures.items) (files rows steps c.give_up-place.result c.args.exhibit c.self.invariant may).kept

pub returns-clause-filed : goal.returns-clause-filed
returns-clause-filed c =
    let rows = c.self.inside.rows.items in let steps = c.self.inside.steps.items in
    let may : MayHappen rows (Filing c.give_up-place.result c.args.exhibit) = search rules in
    let row : c.index_mut.result.now ≡ row_at rows c.give_up-place.result = c.index_mut.ensures.value ∙ get_or_default rows c.give_up-place.result c.index_mut.result.now empty may.0 in
    let grown : history_of (slice_set rows c.give_up-place.result (record { filed = Some c.args.exhibit; claimed = c.index_mut.result.now.claimed; report = c.index_mut.result.now.report })) c.push_reserved.new.self.items ≡ with_event (history_of rows steps) (Filing c.give_up-place.result c.args.exhibit) = rw (row, c.push_reserved.ensures.items, c.reserve.ensures.items) (files rows steps c.give_up-place.result c.args.exhibit c.self.invariant may).history in
    grown ∙ ap (λ (h : History). with_event h (Filing c.give_up-place.result c.args.exhibit)) c.self.view_is ∙ ap (λ p. with_event c.args.self.now (Filing p c.args.exhibit)) c.give_up-place.ensures
