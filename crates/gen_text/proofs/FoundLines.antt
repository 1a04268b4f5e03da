-- Lines that are read are spelled so.
use Rattle.std.proofs.Common.{◌≡◌, ℕ, ◌+◌, ◌<◌, ◌≤◌, Bool, true, false, cond, ltb, eqb, List, [], ◌∷◌, length, Option, Some, None, Result, Ok, Err, refl, sym, ap, ◌∙◌, arith}
use Rattle.std.specs.List.{list_any}
use Rattle.std.specs.Str.{bytes_eq}
use Rattle.std.specs.Fmt.{decimal}
use Rattle.std.proofs.lemmas.Bool.{ltb-false}
use Rattle.std.proofs.lemmas.Bool.Decides.{nat_tests}
use Rattle.std.proofs.lemmas.List.Splits.{join_with_byte-slice_split}
use Rattle.std.proofs.lemmas.Slice.Eq.{bytes_eq-Decides}
use Rattle.gen_types.specs.Reading.{◌>>=◌}
use Rattle.gen_types.specs.Texts.{fields, number_of}
use Rattle.gen_types.proofs.Decimals.{number_found}
use Rattle.gen_types.proofs.Steps.{after, after_guard, at_end}
use Rattle.gen_text.specs.declared.cursor.Numbered.{Numbered}
use Rattle.gen_text.specs.declared.fault.LineFault.TheVariants.{Unfinished, Shape, Number, TooLong, Foreign}
use Rattle.gen_text.specs.declared.fault.ScenarioFault.{ScenarioFault}
use Rattle.gen_text.specs.Text.{is_foreign, longest_line}
use Rattle.gen_text.specs.Fields.{line_of, said}
use Rattle.gen_text.specs.Cursor.{Cursor, Line}
use Rattle.gen_text.specs.LineReading.{fault_at, number_in, number_behind, line_at}
use Rattle.gen_text.specs.CursorReading.{next_line, numbered}
use Rattle.gen_text.proofs.Stepping.{done}

-- an if that fails where its test doesn't hold
pub passed : {A P : Type 0} (b : Bool) (d : ScenarioFault) (r : Result A ScenarioFault) (y : A) → cond b r (Err d) ≡ Ok y → (b ≡ true → r ≡ Ok y → P) → P
passed true d r y e k = k refl e
passed false d r y e k = absurd cc

longer : (n : ℕ) → eqb n 0 ≡ false → 0 < n
longer n e = grind (arith, nat_tests)

-- a line is the first part, and parts follow it
record BytesOf (ps : List (List ℕ)) (l : List ℕ × List (List ℕ)) : Type 0 where
  parts : ps ≡ l.0 ∷ l.1
  short : length l.0 ≤ longest_line
  going : 0 < length l.1

bytes_found : (k : ℕ) (ps : List (List ℕ)) (l : List ℕ × List (List ℕ)) → line_at k ps ≡ Ok l → BytesOf ps l
bytes_found k [] l e = absurd cc
bytes_found k (line ∷ more) l e =
    after_guard (list_any is_foreign line) (fault_at Foreign k) _ l e (λ clean e0.
    after_guard (ltb longest_line (length line)) (fault_at TooLong k) _ l e0 (λ short e1.
    after_guard (eqb (length more) 0) (fault_at Unfinished k) (done (line, more)) l e1 (λ going e2.
    at_end {F = ScenarioFault} (BytesOf (line ∷ more)) (line, more) l e2 (record { parts = refl; short = ltb-false _ _ short; going = longer _ going }))))

-- the same of a line that is cut into its fields
pub record LineOf (c : Cursor) (l : Line × Cursor) : Type 0 where
  pub parts : c.parts ≡ l.0.bytes ∷ l.1.parts
  pub fields : line_of l.0.fields ≡ l.0.bytes
  pub short : length l.0.bytes ≤ longest_line
  pub going : 0 < length l.1.parts

pub line_found : (c : Cursor) (l : Line × Cursor) → next_line c ≡ Ok l → LineOf c l
unfolding next_line
line_found c l e =
    after (line_at c.line c.parts) (λ x. done (record { number = c.line; bytes = x.0; fields = fields x.0 }, record { line = c.line + 1; parts = x.1 })) l e (λ x r0 e0.
    let f = bytes_found c.line c.parts x r0 in
    at_end {F = ScenarioFault} (LineOf c) (record { number = c.line; bytes = x.0; fields = fields x.0 }, record { line = c.line + 1; parts = x.1 }) l e0
    (record { parts = f.parts; fields = join_with_byte-slice_split 32 x.0; short = f.short; going = f.going }))

-- the first part is the line of these fields
pub first_is : (c : Cursor) (l : Line × Cursor) (fs : List (List ℕ)) → LineOf c l → l.0.fields ≡ fs → c.parts ≡ line_of fs ∷ l.1.parts
first_is c l fs f e = f.parts ∙ ap (λ (b : List ℕ). b ∷ l.1.parts) (sym f.fields ∙ ap line_of e)

given : (o : Option ℕ) (k n : ℕ) → (let r : Result ℕ ScenarioFault = elim o [ None ↦ Err (fault_at Number k) | Some m ↦ Ok m ] in r ≡ Ok n) → o ≡ Some n
given None k n e = absurd cc
given (Some m) k n e = cc

pub digits_found : (k n : ℕ) (bs : List ℕ) → number_in k bs ≡ Ok n → (bs ≡ decimal n) × (n < 256)
digits_found k n bs e = number_found bs n (given (number_of bs) k n e)

pub behind_found : (k n : ℕ) (word : List ℕ) (fs : List (List ℕ)) → number_behind k word fs ≡ Ok n → (fs ≡ said word n) × (n < 256)
unfolding number_behind
behind_found k n word [] e = absurd cc
behind_found k n word (w ∷ []) e = absurd cc
behind_found k n word (w ∷ x ∷ []) e =
    passed (bytes_eq w word) (fault_at Shape k) (number_in k x) n e (λ same read.
    let d = digits_found k n x read in
    let is : w ≡ word = (bytes_eq-Decides w word).0 same in
    (rw (is, d.0) refl, d.1))
behind_found k n word (w ∷ x ∷ y ∷ more) e = absurd cc

-- the first part is the line of a word and a number
pub record NumberOf (word : List ℕ) (c : Cursor) (x : Numbered × Cursor) : Type 0 where
  pub parts : c.parts ≡ line_of (said word x.0.value) ∷ x.1.parts
  pub small : x.0.value < 256
  pub going : 0 < length x.1.parts

pub numbered_found : (word : List ℕ) (c : Cursor) (x : Numbered × Cursor) → numbered word c ≡ Ok x → NumberOf word c x
unfolding numbered
numbered_found word c x e =
    after (next_line c) (λ l. number_behind l.0.number word l.0.fields >>= λ n. done (record { line = l.0.number; value = n }, l.1)) x e (λ l r0 e0.
    after (number_behind l.0.number word l.0.fields) (λ n. done (record { line = l.0.number; value = n }, l.1)) x e0 (λ n r1 e1.
    let f = line_found c l r0 in
    let d = behind_found l.0.number n word l.0.fields r1 in
    at_end {F = ScenarioFault} (NumberOf word c) (record { line = l.0.number; value = n }, l.1) x e1
    (record { parts = first_is c l (said word n) f d.0; small = d.1; going = f.going })))
