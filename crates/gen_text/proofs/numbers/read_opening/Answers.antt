use Rattle.std.proofs.Common.{◌≡◌, ℕ, codes, Ok, refl}
use Rattle.std.proofs.lemmas.Result.{err_from_is_err_and}
use Rattle.gen_types.specs.declared.reading.ReadError.{ReadError}
use Rattle.gen_types.specs.declared.reading.ReadError.TheVariants as errors
use Rattle.gen_types.specs.Reading.{Fails}
use Rattle.gen_text.specs.declared.cursor.Numbered.{Numbered}
use Rattle.gen_text.specs.declared.fault.ScenarioFault.{ScenarioFault}
use Rattle.gen_text.specs.Cursor.{Cursor}
use Rattle.gen_text.specs.CursorReading.{numbered}
use Rattle.gen_text.specs.EdgeReading.{EdgeLines}
use Rattle.gen_text.specs.LineReading.{number_behind}
use Rattle.gen_text.specs.NumbersReading.{opening_at}
use Rattle.gen_text.proofs.EdgeLoop.{edges_from, goes, is_done, ends_in_line, ends_in_edge}
use Rattle.gen_text.proofs.numbers.read_opening.Goals as goal

module _ (start : Cursor) (x : Numbered × Cursor) (counted : numbered (codes "generals") start ≡ Ok x) where
  no_edges : (e : ReadError ScenarioFault) → Fails e (edges_from x.1) → Fails e (opening_at start)
  unfolding opening_at
  no_edges errors.Memory h = tt
  no_edges (errors.Fault f) h = rw (counted, h) refl

  no_traitors : (o : EdgeLines) (e : ReadError ScenarioFault) → edges_from x.1 ≡ Ok o → Fails e (number_behind o.next.number (codes "traitors") o.next.fields) → Fails e (opening_at start)
  unfolding opening_at
  no_traitors o errors.Memory h k = tt
  no_traitors o (errors.Fault f) h k = rw (counted, h, k) refl

  is_opening : (o : EdgeLines) (m : ℕ) → edges_from x.1 ≡ Ok o → number_behind o.next.number (codes "traitors") o.next.fields ≡ Ok m
      → opening_at start ≡ Ok (record { generals = x.0.value; edges = o.found; traitors = m; after = o.after })
  unfolding opening_at
  is_opening o m h k = rw (counted, h, k) refl

pub returns-in_err-line : goal.returns-in_err-line
returns-in_err-line c =
    let p = err_from_is_err_and c.from_residual-in_err-line.result c.from_residual-in_err-line.ensures.1 in
    rw (p.1, p.2) (no_edges _ _ c.in_ok-generals.ensures _ (ends_in_line _ _ _ _ c.in_err-line.ensures.exact c.lines.invariant))

pub returns-in_err-edge_in : goal.returns-in_err-edge_in
returns-in_err-edge_in c =
    let p = err_from_is_err_and c.from_residual-in_err-edge_in.result c.from_residual-in_err-edge_in.ensures.1 in
    let fault = rw c.deref.ensures.value at c.in_err-edge_in.ensures in
    rw (p.1, p.2) (no_edges _ _ c.in_ok-generals.ensures _ (ends_in_edge _ _ _ _ _ c.in_ok-line.ensures.exact fault c.lines.invariant))

pub returns-in_err-traitors-in-None : goal.returns-in_err-traitors-in-None
returns-in_err-traitors-in-None c =
    let p = err_from_is_err_and c.from_residual-in_err-traitors-in-None.result c.from_residual-in_err-traitors-in-None.ensures.1 in
    let none = rw (c.in-None.is, c.deref.ensures.value) at c.in_ok-edge_in.ensures in
    let fault = rw c.deref-in-None.ensures.value at c.in_err-traitors-in-None.ensures in
    rw (p.1, p.2) (no_traitors _ _ c.in_ok-generals.ensures _ _ (is_done _ _ _ _ c.in_ok-line.ensures.exact none c.lines.invariant) fault)

pub returns-in-None : goal.returns-in-None
returns-in-None c =
    let none = rw (c.in-None.is, c.deref.ensures.value) at c.in_ok-edge_in.ensures in
    let said = rw c.deref-in-None.ensures.value at c.in_ok-traitors-in-None.ensures in
    is_opening _ _ c.in_ok-generals.ensures _ _ (is_done _ _ _ _ c.in_ok-line.ensures.exact none c.lines.invariant) said

pub lines-preserved : goal.lines-preserved
lines-preserved c =
    let some = rw (c.in-Some.is, c.deref.ensures.value) at c.in_ok-edge_in.ensures in
    rw c.in_ok-push-in-Some.ensures.items (goes _ _ _ _ _ c.in_ok-line.ensures.exact some c.lines.invariant)
