-- Where the entries of a log stand in a file.
use Rattle.std.proofs.Common.{◌≡◌, ℕ, ◌+◌, List, [], ◌∷◌, ◌++◌, length, refl, sym, ap, ◌∙◌, append_assoc, arith, subst}
use Rattle.std.specs.Prelude.{sum_by}
use Rattle.std.specs.Int.{w64, to_be_bytes}
use Rattle.std.specs.List.{flat_map}
use Rattle.std.proofs.lemmas.List.{length-append}
use Rattle.std.proofs.lemmas.List.Concat.{flat_map-cons}
use Rattle.std.proofs.lemmas.List.Sums.{sum_by-cons}
use Rattle.gen_log.specs.declared.entries.Entry.{Entry}
use Rattle.gen_log.specs.Entry.{entry_spelling, entry_length}
use Rattle.gen_log.specs.Log.{log_spelling}
use Rattle.gen_file.specs.Parts.{log_front_length}
use Rattle.gen_file.proofs.Lengths.{length_entries}
use Rattle.gen_show.specs.LogText.{entry_line, entry_lines}
use Rattle.gen_show.specs.Offsets.{IsShownAt, OffsetsAreRight, StandsAt}

-- the lines of entries have that of each, with where the entries before it end
lines_have : (k n at : ℕ) (before : List Entry) (e : Entry) (after : List Entry)
    → (first last : List ℕ) × (entry_lines k n at (before ++ e ∷ after) ≡ first ++ (entry_line k (n + length before) (at + sum_by entry_length before) e ++ last))
lines_have k n at [] e after =
    let p : n ≡ n + 0 = omega arith in
    let q : at ≡ at + 0 = omega arith in
    ([], entry_lines k (n + 1) (at + entry_length e) after, λ i. entry_line k (p i) (q i) e ++ entry_lines k (n + 1) (at + entry_length e) after)
lines_have k n at (b ∷ bs) e after =
    let have = lines_have k (n + 1) (at + entry_length b) bs e after in
    let line : List ℕ = entry_line k (n + 1 + length bs) (at + entry_length b + sum_by entry_length bs) e in
    let p : n + length (b ∷ bs) ≡ n + 1 + length bs = omega arith in
    let q : at + sum_by entry_length (b ∷ bs) ≡ at + entry_length b + sum_by entry_length bs = omega (arith, sum_by-cons entry_length b bs) in
    rw (p, q) (
      entry_line k n at b ++ have.0,
      have.1,
      ap (λ (ls : List ℕ). entry_line k n at b ++ ls) have.2
          ∙ sym (append_assoc (entry_line k n at b) have.0 (line ++ have.1)),
    )

-- the bytes of entries have those of each
bytes_have : (before : List Entry) (e : Entry) (after : List Entry)
    → flat_map entry_spelling (before ++ e ∷ after) ≡ flat_map entry_spelling before ++ (entry_spelling e ++ flat_map entry_spelling after)
bytes_have [] e after = flat_map-cons entry_spelling e after
bytes_have (b ∷ bs) e after =
    rw (flat_map-cons entry_spelling b (bs ++ e ∷ after), flat_map-cons entry_spelling b bs, bytes_have bs e after) (sym (append_assoc (entry_spelling b) (flat_map entry_spelling bs) (entry_spelling e ++ flat_map entry_spelling after)))

-- what stands in a part stands in the file
stands_in : (file part piece : List ℕ) (at k : ℕ) → StandsAt file at part → StandsAt part k piece → StandsAt file (at + k) piece
stands_in file part piece at k whole inner = record {
  front = whole.front ++ inner.front;
  back = inner.back ++ whole.back;
  parts = whole.parts ∙ ap (λ (p : List ℕ). whole.front ++ (p ++ whole.back)) inner.parts ∙ simp append_assoc refl;
  counted = length-append whole.front inner.front ∙ (λ i. whole.counted i + inner.counted i);
}

in_log : (run_id head : List ℕ) (before : List Entry) (e : Entry) (after : List Entry) → length run_id ≡ 32
    → StandsAt (log_spelling (record { run_id = run_id; entries = before ++ e ∷ after; head = head })) (log_front_length + sum_by entry_length before) (entry_spelling e)
in_log run_id head before e after wide =
    let flat : List ℕ = flat_map entry_spelling before in
    let count : List ℕ = to_be_bytes w64 (length (before ++ e ∷ after)) in
    let back : List ℕ = flat_map entry_spelling after ++ head in
    let one = length-append run_id (count ++ flat) in
    let two = length-append count flat in
    let eight : length count ≡ 8 = refl in
    record {
      front = run_id ++ (count ++ flat);
      back = back;
      parts = rw (bytes_have before e after) (simp append_assoc refl);
      counted = omega (arith, one, two, eight, wide, length_entries before);
    }

offsets : (file : List ℕ) (keeper at : ℕ) (run_id head : List ℕ) (before : List Entry) (e : Entry) (after : List Entry) → length run_id ≡ 32
    → StandsAt file at (log_spelling (record { run_id = run_id; entries = before ++ e ∷ after; head = head }))
    → IsShownAt file keeper at (record { run_id = run_id; entries = before ++ e ∷ after; head = head }) before e
offsets file keeper at run_id head before e after wide whole =
    let lines = lines_have keeper 0 (at + log_front_length) before e after in
    let none : 0 + length before ≡ length before = omega arith in
    let sum : at + log_front_length + sum_by entry_length before ≡ at + (log_front_length + sum_by entry_length before) = omega arith in
    record {
      place = at + (log_front_length + sum_by entry_length before);
      stands = stands_in file _ (entry_spelling e) at (log_front_length + sum_by entry_length before) whole (in_log run_id head before e after wide);
      first = lines.0;
      last = lines.1;
      shown = lines.2 ∙ (λ i. lines.0 ++ (entry_line keeper (none i) (sum i) e ++ lines.1));
    }

pub offsets_are_right : OffsetsAreRight
offsets_are_right file keeper at log before e after wide is =
    subst (λ (es : List Entry). StandsAt file at (log_spelling (record { run_id = log.run_id; entries = es; head = log.head }))
    → IsShownAt file keeper at (record { run_id = log.run_id; entries = es; head = log.head }) before e)
    (sym is) (offsets file keeper at log.run_id log.head before e after wide)
