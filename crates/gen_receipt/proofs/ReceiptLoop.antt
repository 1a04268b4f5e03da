-- The loop that reads receipts one behind another.
use Rattle.std.proofs.Common.{◌≡◌, ◌<◌, ◌≤◌, ℕ, zero, suc, Bool, true, false, eqb, eqb-true, List, [], ◌∷◌, ◌++◌, length, Result, Ok, Err, refl, sym, ap, append_assoc, ◌∙◌, arith}
use Rattle.std.proofs.lemmas.List.{append-nil}
use Rattle.gen_types.specs.declared.reading.ReadError.{ReadError}
use Rattle.gen_types.specs.declared.reading.ReadError.TheVariants as errors
use Rattle.gen_types.specs.Reading.{◌>>=◌, Fails}
use Rattle.gen_net.specs.Header.{RunHeader}
use Rattle.gen_receipt.specs.declared.receipts.Receipt.{Receipt}
use Rattle.gen_receipt.specs.declared.receipt_fault.ReceiptFault.{ReceiptFault}
use Rattle.gen_receipt.specs.ReceiptReading.{receipt_under, receipts_under}
use Rattle.gen_receipt.proofs.ReceiptLaws.{none_left, first_and_others, first_fails}

-- what was read before, and what is still read
abbrev put_behind : List Receipt → Result (List Receipt) ReceiptFault → Result (List Receipt) ReceiptFault
put_behind front read = read >>= λ rs. Ok (front ++ rs)

pub record IsReading (h : RunHeader) (front : List Receipt) (rest : List ℕ) (total : Result (List Receipt) ReceiptFault) : Type 0 where
  pub most : ℕ
  pub few : length rest ≤ most
  pub so_far : put_behind front (receipts_under most h rest) ≡ total

none_before : (read : Result (List Receipt) ReceiptFault) → put_behind [] read ≡ read
none_before (Ok rs) = refl
none_before (Err f) = refl

regroup : (front : List Receipt) (r : Receipt) (read : Result (List Receipt) ReceiptFault) → put_behind front (read >>= λ rs. Ok (r ∷ rs)) ≡ put_behind (front ++ r ∷ []) read
regroup front r (Ok rs) = ap (λ (xs : List Receipt). Ok xs) (sym (append_assoc front (r ∷ []) rs))
regroup front r (Err f) = refl

pub begins : (h : RunHeader) (bytes : List ℕ) → IsReading h [] bytes (receipts_under (length bytes) h bytes)
begins h bytes = record { most = length bytes; few = omega arith; so_far = none_before (receipts_under (length bytes) h bytes) }

more_by : (h : RunHeader) (front : List Receipt) (most : ℕ) (rest : List ℕ) (x : Receipt × List ℕ) (total : Result (List Receipt) ReceiptFault) → 0 < length rest → receipt_under h rest ≡ Ok x → length x.1 < length rest → length rest ≤ most
    → put_behind front (receipts_under most h rest) ≡ total → IsReading h (front ++ x.0 ∷ []) x.1 total
more_by h front zero rest x total some e shorter few so_far = absurd (omega (arith, some, few))
more_by h front (suc most) rest x total some e shorter few so_far = record {
  most = most;
  few = omega (arith, shorter, few);
  so_far = sym (regroup front x.0 (receipts_under most h x.1)) ∙ sym (ap (put_behind front) (first_and_others most h rest x some e)) ∙ so_far;
}

pub one_more : (h : RunHeader) (front : List Receipt) (rest : List ℕ) (x : Receipt × List ℕ) (total : Result (List Receipt) ReceiptFault) → IsReading h front rest total → receipt_under h rest ≡ Ok x → length x.1 < length rest → IsReading h (front ++ x.0 ∷ []) x.1 total
one_more h front rest x total reading e shorter = more_by h front reading.most rest x total (omega (arith, shorter)) e shorter reading.few reading.so_far

fault_by : (h : RunHeader) (front : List Receipt) (most : ℕ) (rest : List ℕ) (f : ReceiptFault) (total : Result (List Receipt) ReceiptFault) → 0 < length rest → receipt_under h rest ≡ Err f → length rest ≤ most
    → put_behind front (receipts_under most h rest) ≡ total → total ≡ Err f
fault_by h front zero rest f total some e few so_far = absurd (omega (arith, some, few))
fault_by h front (suc most) rest f total some e few so_far = sym so_far ∙ ap (put_behind front) (first_fails most h rest f some e)

pub fails : (h : RunHeader) (front : List Receipt) (rest : List ℕ) (e : ReadError ReceiptFault) (total : Result (List Receipt) ReceiptFault) → IsReading h front rest total → 0 < length rest → Fails e (receipt_under h rest) → Fails e total
fails h front rest errors.Memory total reading some e = tt
fails h front rest (errors.Fault f) total reading some e = fault_by h front reading.most rest f total some e reading.few reading.so_far

pub is_done : (h : RunHeader) (front : List Receipt) (rest : List ℕ) (total : Result (List Receipt) ReceiptFault) → IsReading h front rest total → rest ≡ [] → total ≡ Ok front
is_done h front rest total reading none =
    let empty : receipts_under reading.most h rest ≡ Ok [] = ap (receipts_under reading.most h) none ∙ none_left reading.most h in
    sym reading.so_far ∙ ap (put_behind front) empty ∙ ap (λ (xs : List Receipt). Ok xs) (append-nil front)

-- ---- the test of the loop

pub something_left : (bytes : List ℕ) (empty : Bool) → empty ≡ eqb (length bytes) 0 → empty ≡ false → 0 < length bytes
something_left [] empty e some =
    let none : empty ≡ true = e in
    absurd cc
something_left (b ∷ bytes) empty e some = omega arith

pub nothing_left : (bytes : List ℕ) (empty : Bool) → empty ≡ eqb (length bytes) 0 → empty ≡ true → bytes ≡ []
nothing_left [] empty e none = refl
nothing_left (b ∷ bytes) empty e none = absurd (omega (arith, eqb-true (length (b ∷ bytes)) 0 (sym e ∙ none)))
