use Rattle.std.proofs.Common.{◌≡◌, ◌<◌, ◌+◌, ◌∙◌, take, length, slice_set, sym, subst, arith}
use Rattle.gen_general.specs.DrivenRecords.{AllHear}
use Rattle.gen_world.proofs.RowHearing.{IsNextRow, has_place, sender_known, next_act, row_heard, all_heard}
use Rattle.gen_world.proofs.world.hear_all.Goals as goal

pub index_mut-part-requires : goal.index_mut-part-requires
index_mut-part-requires c =
    let x = c.row-item.result in
    let ps = c.rows.parts.items in
    let j : c.from.result ≡ x.to = c.from.ensures ∙ c.get.ensures.value ∙ c.to.ensures in
    let known : x.to < length ps = has_place c.args.scenario.now c.args.gone c.rows.row-index c.args.rows.now ps x c.requires.rows c.rows-test.true c.row-item.is c.rows.invariant in
    omega (arith, j, known, c.rows.parts.ok.0, c.rows.parts.ok.1)

pub hear-requires-clause-from : goal.hear-requires-clause-from
hear-requires-clause-from c =
    let s = c.args.scenario.now in
    let x = c.row-item.result in
    let p = c.index_mut-part.result.now in
    let j : c.from.result ≡ x.to = c.from.ensures ∙ c.get.ensures.value ∙ c.to.ensures in
    let next : IsNextRow s c.args.gone c.rows.row-index c.args.rows.now c.rows.parts.items x p = record { all_rows = c.requires.rows; within = c.rows-test.true; at = c.row-item.is; receiver = rw j at c.index_mut-part.ensures.value; so_far = c.rows.invariant } in
    rw c.from-in-rows.ensures (sender_known s c.header-lawful.ensures.scenario c.args.gone c.rows.row-index c.args.rows.now c.rows.parts.items x p next)

pub hear-requires-clause-next : goal.hear-requires-clause-next
hear-requires-clause-next c =
    let s = c.args.scenario.now in
    let x = c.row-item.result in
    let p = c.index_mut-part.result.now in
    let j : c.from.result ≡ x.to = c.from.ensures ∙ c.get.ensures.value ∙ c.to.ensures in
    let next : IsNextRow s c.args.gone c.rows.row-index c.args.rows.now c.rows.parts.items x p = record { all_rows = c.requires.rows; within = c.rows-test.true; at = c.row-item.is; receiver = rw j at c.index_mut-part.ensures.value; so_far = c.rows.invariant } in
    rw c.from-in-rows.ensures (next_act s c.header-lawful.ensures.scenario c.args.gone c.rows.row-index c.args.rows.now c.rows.parts.items x p next)

pub rows-preserved : goal.rows-preserved
rows-preserved c =
    let s = c.args.scenario.now in
    let k = c.args.gone in
    let i = c.rows.row-index in
    let rows = c.args.rows.now in
    let x = c.row-item.result in
    let p = c.index_mut-part.result.now in
    let ps = c.rows.parts.items in
    let q = c.hear.new.self in
    let j : c.from.result ≡ x.to = c.from.ensures ∙ c.get.ensures.value ∙ c.to.ensures in
    let next : IsNextRow s k i rows ps x p = record { all_rows = c.requires.rows; within = c.rows-test.true; at = c.row-item.is; receiver = rw j at c.index_mut-part.ensures.value; so_far = c.rows.invariant } in
    let heard = rw (c.from-in-rows.ensures, c.parcels.ensures) at c.in_ok-hear.ensures.ok in
    subst (λ m. AllHear s k (take (i + 1) rows) (slice_set ps m q)) (sym j) (row_heard s c.header-lawful.ensures.scenario k i rows ps x p next q heard)

pub returns : goal.returns
returns c = all_heard c.args.scenario.now c.header-lawful.ensures.scenario c.args.gone c.rows.row-index c.args.rows.now c.rows.parts.items c.requires.rows c.rows-test.false c.rows.invariant
