use Rattle.std.proofs.Common.{◌≡◌, ◌∙◌, ap, rules, true, Some, slice_set}
use Rattle.std.proofs.lemmas.List.{get_or_default}
use Rattle.gen_desk.specs.History.{Claiming, MayHappen, empty, row_at}
use Rattle.gen_desk.specs.Histories.{History, IsClaimed, with_event}
use Rattle.gen_desk.specs.Kept.{history_of}
use Rattle.gen_desk.proofs.Growing.{claims}
use Rattle.gen_desk.proofs.state.DeskState.claim_in.Goals as goal

pub invariant_of-self-2 : goal.invariant_of-self-2
invariant_of-self-2 c =
    let rows = c.self.inside.rows.items in let steps = c.self.inside.steps.items in
    let may : MayHappen rows (Claiming c.in-Some.place) = search rules in
    let row : c.index_mut.result.now ≡ row_at rows c.in-Some.place = c.index_mut.ensures.value ∙ get_or_default rows c.in-Some.place c.index_mut.result.now empty may.0 in
    rw (row, c.push_reserved.ensures.items, c.reserve.ensures.items) (claims rows steps c.in-Some.place c.self.invariant may).kept

pub returns-clause-claimed : goal.returns-clause-claimed
returns-clause-claimed c =
    let rows = c.self.inside.rows.items in let steps = c.self.inside.steps.items in
    let may : MayHappen rows (Claiming c.in-Some.place) = search rules in
    let row : c.index_mut.result.now ≡ row_at rows c.in-Some.place = c.index_mut.ensures.value ∙ get_or_default rows c.in-Some.place c.index_mut.result.now empty may.0 in
    let is : IsClaimed c.args.self.now (record { place = c.in-Some.place; shown = c.in-Some-2.exhibit }) = search rules in
    let grown : history_of (slice_set rows c.in-Some.place (record { filed = c.index_mut.result.now.filed; claimed = true; report = c.index_mut.result.now.report })) c.push_reserved.new.self.items ≡ with_event (history_of rows steps) (Claiming c.in-Some.place) = rw (row, c.push_reserved.ensures.items, c.reserve.ensures.items) (claims rows steps c.in-Some.place c.self.invariant may).history in
    (is, grown ∙ ap (λ (h : History). with_event h (Claiming c.in-Some.place)) c.self.view_is)
