use Rattle.std.proofs.Common.{◌≡◌, ◌∙◌, ap, rules, Some, slice_set}
use Rattle.std.proofs.lemmas.List.{get_or_default}
use Rattle.gen_desk.specs.History.{Reporting, MayHappen, empty, row_at}
use Rattle.gen_desk.specs.Histories.{History, with_event}
use Rattle.gen_desk.specs.Kept.{history_of}
use Rattle.gen_desk.proofs.Growing.{reports}
use Rattle.gen_desk.proofs.state.DeskState.report_in.Goals as goal

pub invariant_of-self-2 : goal.invariant_of-self-2
invariant_of-self-2 c =
    let rows = c.self.inside.rows.items in let steps = c.self.inside.steps.items in
    let may : MayHappen rows (Reporting c.place-place.result c.args.report) = search rules in
    let row : c.index_mut.result.now ≡ row_at rows c.place-place.result = c.index_mut.ensures.value ∙ get_or_default rows c.place-place.result c.index_mut.result.now empty may.0 in
    rw (row, c.push_reserved.ensures.items, c.reserve.ensures.items) (reports rows steps c.place-place.result c.args.report c.self.invariant may).kept

pub returns-clause-reported : goal.returns-clause-reported
returns-clause-reported c =
    let rows = c.self.inside.rows.items in let steps = c.self.inside.steps.items in
    let may : MayHappen rows (Reporting c.place-place.result c.args.report) = search rules in
    let row : c.index_mut.result.now ≡ row_at rows c.place-place.result = c.index_mut.ensures.value ∙ get_or_default rows c.place-place.result c.index_mut.result.now empty may.0 in
    let grown : history_of (slice_set rows c.place-place.result (record { filed = c.index_mut.result.now.filed; claimed = c.index_mut.result.now.claimed; report = Some c.args.report })) c.push_reserved.new.self.items ≡ with_event (history_of rows steps) (Reporting c.place-place.result c.args.report) = rw (row, c.push_reserved.ensures.items, c.reserve.ensures.items) (reports rows steps c.place-place.result c.args.report c.self.invariant may).history in
    grown ∙ ap (λ (h : History). with_event h (Reporting c.place-place.result c.args.report)) c.self.view_is ∙ ap (λ p. with_event c.args.self.now (Reporting p c.args.report)) c.place-place.ensures
