-- From the cursor where a line begins to the cursor behind it.
use Rattle.std.proofs.Common.{◌≡◌, ℕ, ◌+◌, ltb, eqb, List, ◌∷◌, length, Result, Ok, Err, refl, sym, ap}
use Rattle.std.specs.List.{list_any}
use Rattle.gen_types.specs.Reading.{◌>>=◌}
use Rattle.gen_types.specs.Texts.{fields}
use Rattle.gen_types.proofs.Steps.{after, after_guard, at_end}
use Rattle.gen_text.specs.declared.fault.LineFault.TheVariants.{Unfinished, TooLong, Foreign}
use Rattle.gen_text.specs.declared.fault.ScenarioFault.{ScenarioFault}
use Rattle.gen_text.specs.Text.{is_foreign, longest_line}
use Rattle.gen_text.specs.Cursor.{Cursor, Line}
use Rattle.gen_text.specs.LineReading.{fault_at, line_at}
use Rattle.gen_text.specs.CursorReading.{next_line}

abbrev pub done : {A : Type 0} → A → Result A ScenarioFault
done x = Ok x

line_rest : (k : ℕ) (line : List ℕ) (more : List (List ℕ)) (l : List ℕ × List (List ℕ)) → line_at k (line ∷ more) ≡ Ok l → more ≡ l.1
line_rest k line more l e =
    after_guard (list_any is_foreign line) (fault_at Foreign k) _ l e (λ clean e0.
    after_guard (ltb longest_line (length line)) (fault_at TooLong k) _ l e0 (λ short e1.
    after_guard (eqb (length more) 0) (fault_at Unfinished k) (done (line, more)) l e1 (λ going e2.
    let pair : (line, more) ≡ l = cc in
    ap (λ (p : List ℕ × List (List ℕ)). p.1) pair)))

abbrev IsBehind : ℕ → List (List ℕ) → Line × Cursor → Type 0
IsBehind k more l = l.1 ≡ record { line = k + 1; parts = more }

behind_line : (k : ℕ) (line : List ℕ) (more : List (List ℕ)) (l : Line × Cursor) → next_line (record { line = k; parts = line ∷ more }) ≡ Ok l → IsBehind k more l
unfolding next_line
behind_line k line more l e =
    after (line_at k (line ∷ more)) (λ x. done (record { number = k; bytes = x.0; fields = fields x.0 }, record { line = k + 1; parts = x.1 })) l e (λ x r0 e0.
    let rest = line_rest k line more x r0 in
    at_end {F = ScenarioFault} (IsBehind k more) (record { number = k; bytes = x.0; fields = fields x.0 }, record { line = k + 1; parts = x.1 }) l e0
    (ap (λ (ps : List (List ℕ)). record { line = k + 1; parts = ps }) (sym rest)))

-- what is done behind a line is done at the cursor behind it
pub stepped : {A : Type 0} (k : ℕ) (line : List ℕ) (more : List (List ℕ)) (f : Line × Cursor → ℕ → List (List ℕ) → Result A ScenarioFault)
    → (next_line (record { line = k; parts = line ∷ more }) >>= λ l. f l (k + 1) more) ≡ (next_line (record { line = k; parts = line ∷ more }) >>= λ l. f l l.1.line l.1.parts)
stepped k line more f = of_line (next_line (record { line = k; parts = line ∷ more })) refl
  where
    of_line : (r : Result (Line × Cursor) ScenarioFault) → next_line (record { line = k; parts = line ∷ more }) ≡ r → (r >>= λ l. f l (k + 1) more) ≡ (r >>= λ l. f l l.1.line l.1.parts)
    of_line (Ok l) e = ap (λ (c : Cursor). f l c.line c.parts) (sym (behind_line k line more l e))
    of_line (Err d) e = refl
