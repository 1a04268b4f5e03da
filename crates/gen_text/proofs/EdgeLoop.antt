-- The loop over the lines of edges.
use Rattle.std.proofs.Common.{◌≡◌, ℕ, List, [], ◌∷◌, ◌++◌, Some, None, Result, Ok, Err, refl, sym, ap, ◌∙◌, append_assoc}
use Rattle.std.proofs.lemmas.List.{append-nil}
use Rattle.gen_types.specs.declared.reading.ReadError.{ReadError}
use Rattle.gen_types.specs.declared.reading.ReadError.TheVariants as errors
use Rattle.gen_types.specs.Reading.{◌>>=◌, Fails}
use Rattle.gen_text.specs.declared.fault.ScenarioFault.{ScenarioFault}
use Rattle.gen_text.specs.Cursor.{Cursor, Line}
use Rattle.gen_text.specs.CursorReading.{next_line}
use Rattle.gen_text.specs.EdgeReading.{EdgeLines, with_edge, after_edge, edge_lines_at, edge_in}
use Rattle.gen_text.proofs.Stepping.{stepped}

abbrev pub with_front : List (ℕ × ℕ) → Result EdgeLines ScenarioFault → Result EdgeLines ScenarioFault
with_front front read = read >>= λ o. Ok (record o { found = front ++ o.found })

-- the edges from this cursor on
abbrev pub edges_from : Cursor → Result EdgeLines ScenarioFault
edges_from c = edge_lines_at c.line c.parts

edges_step : (k : ℕ) (ps : List (List ℕ)) → edge_lines_at k ps ≡ (next_line (record { line = k; parts = ps }) >>= λ l. edge_in l.0.number l.0.fields >>= λ e. after_edge e l (edge_lines_at l.1.line l.1.parts))
unfolding edge_lines_at next_line
edges_step k [] = refl
edges_step k (line ∷ more) = stepped k line more (λ l j ps. edge_in l.0.number l.0.fields >>= λ e. after_edge e l (edge_lines_at j ps))

regroup : (front : List (ℕ × ℕ)) (e : ℕ × ℕ) (r : Result EdgeLines ScenarioFault) → with_front front (with_edge r e) ≡ with_front (front ++ e ∷ []) r
regroup front e (Ok o) = ap (λ (es : List (ℕ × ℕ)). Ok (record o { found = es })) (sym (append_assoc front (e ∷ []) o.found))
regroup front e (Err f) = refl

pub goes : (front : List (ℕ × ℕ)) (c : Cursor) (l : Line × Cursor) (e : ℕ × ℕ) (total : Result EdgeLines ScenarioFault) → next_line c ≡ Ok l → edge_in l.0.number l.0.fields ≡ Ok (Some e)
    → with_front front (edges_from c) ≡ total → with_front (front ++ e ∷ []) (edges_from l.1) ≡ total
goes front c l e total read is so_far =
    let one : edges_from c ≡ with_edge (edges_from l.1) e = edges_step c.line c.parts ∙ rw (read, is) refl in
    sym (regroup front e (edges_from l.1)) ∙ ap (with_front front) (sym one) ∙ so_far

pub is_done : (front : List (ℕ × ℕ)) (c : Cursor) (l : Line × Cursor) (total : Result EdgeLines ScenarioFault) → next_line c ≡ Ok l → edge_in l.0.number l.0.fields ≡ Ok None
    → with_front front (edges_from c) ≡ total → total ≡ Ok (record { found = front; next = l.0; after = l.1 })
is_done front c l total read is so_far =
    let one : edges_from c ≡ Ok (record { found = []; next = l.0; after = l.1 }) = edges_step c.line c.parts ∙ rw (read, is) refl in
    sym so_far ∙ ap (with_front front) one ∙ ap (λ (es : List (ℕ × ℕ)). Ok (record { found = es; next = l.0; after = l.1 })) (append-nil front)

pub ends_in_line : (err : ReadError ScenarioFault) (front : List (ℕ × ℕ)) (c : Cursor) (total : Result EdgeLines ScenarioFault) → Fails err (next_line c)
    → with_front front (edges_from c) ≡ total → Fails err total
ends_in_line errors.Memory front c total h so_far = tt
ends_in_line (errors.Fault f) front c total h so_far =
    let one : edges_from c ≡ Err f = edges_step c.line c.parts ∙ rw h refl in
    sym so_far ∙ ap (with_front front) one

pub ends_in_edge : (err : ReadError ScenarioFault) (front : List (ℕ × ℕ)) (c : Cursor) (l : Line × Cursor) (total : Result EdgeLines ScenarioFault) → next_line c ≡ Ok l → Fails err (edge_in l.0.number l.0.fields)
    → with_front front (edges_from c) ≡ total → Fails err total
ends_in_edge errors.Memory front c l total read h so_far = tt
ends_in_edge (errors.Fault f) front c l total read h so_far =
    let one : edges_from c ≡ Err f = edges_step c.line c.parts ∙ rw (read, h) refl in
    sym so_far ∙ ap (with_front front) one
