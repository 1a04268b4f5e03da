-- How long the parts of a log are.
use Rattle.std.proofs.Common.{◌≡◌, ℕ, ◌+◌, ◌≤◌, List, [], ◌∷◌, ◌++◌, length, refl, ap, ◌∙◌, arith}
use Rattle.std.specs.Prelude.{sum_by}
use Rattle.std.specs.Int.{w64, to_be_bytes}
use Rattle.std.specs.List.{flat_map}
use Rattle.std.proofs.lemmas.List.{length-append}
use Rattle.std.proofs.lemmas.List.Concat.{flat_map-cons}
use Rattle.std.proofs.lemmas.List.Sums.{sum_by-cons}
use Rattle.gen_log.specs.declared.entries.Entry.{Entry}
use Rattle.gen_log.specs.declared.entries.Entry.TheVariants.{Start, Sign, Send, Recv, Decide}
use Rattle.gen_log.specs.Entry.{entry_spelling, entry_length}
use Rattle.gen_log.specs.Log.{RunLog, log_spelling}
use Rattle.gen_log.specs.Texts.{IsTextOf}

pub length_spelled : (e : Entry) → length (entry_spelling e) ≡ entry_length e
length_spelled (Start general own) = refl
length_spelled (Sign order path signature) = simp length-append (omega arith)
length_spelled (Send to order path) = omega arith
length_spelled (Recv from chain) = omega arith
length_spelled (Decide orders order) = refl

pub length_entries : (es : List Entry) → length (flat_map entry_spelling es) ≡ sum_by entry_length es
length_entries [] = refl
length_entries (e ∷ es) =
    rw (flat_map-cons, sum_by-cons) (length-append (entry_spelling e) (flat_map entry_spelling es) ∙ (λ i. length_spelled e i + length_entries es i))

-- the entries end within the bytes of the log
pub entries_within : (log : RunLog) (bytes : List ℕ) → IsTextOf log bytes → 40 + sum_by entry_length log.entries ≤ length bytes
entries_within log bytes is =
    let flat : List ℕ = flat_map entry_spelling log.entries in
    let count : List ℕ = to_be_bytes w64 (length log.entries) in
    let whole : length bytes ≡ length (log_spelling log) = ap length is.spelled in
    let one = length-append log.run_id (count ++ (flat ++ log.head)) in
    let two = length-append count (flat ++ log.head) in
    let three = length-append flat log.head in
    let eight : length count ≡ 8 = refl in
    omega (arith, whole, one, two, three, eight, is.run_id, length_entries log.entries)
