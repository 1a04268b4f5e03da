-- What is left of an input that is read from left to right, and which of its bytes are a log.
use Rattle.std.proofs.Common.{◌≡◌, ◌≤◌, ℕ, ◌+◌, ◌-◌, ◌^◌, List, [], ◌∷◌, ◌++◌, length, Ok, refl, sym, ap, ◌∙◌, append_assoc, arith}
use Rattle.std.specs.Prelude.{slice_range}
use Rattle.std.specs.Int.{w32, to_be_bytes}
use Rattle.std.proofs.lemmas.List.{length-append}
use Rattle.std.proofs.Math.Seq.{take-append_seam, drop-append_seam}
use Rattle.gen_types.specs.Bytes.{byte_at, bytes_at, number_at}
use Rattle.gen_types.proofs.ByteFields.{IsBytes, byte_takes, bytes_takes, number_takes, wide32}
use Rattle.gen_audit.specs.declared.bundle_fault.BundleFault.TheVariants as faults
use Rattle.gen_audit.specs.BundleReading.{owner_at, walks_at}
use Rattle.gen_audit.specs.BundleFields.{front_at, faulty_at}
use Rattle.gen_audit.specs.BundleSpelling.{bundle_marks, walks_spelling}
use Rattle.gen_audit.specs.Ends.{IsEndOf}
use Rattle.gen_audit.proofs.BundleFronts.{faulty_reads, fronts_read}
use Rattle.gen_audit.proofs.BundleLaws.{owner_takes, walks_read}
use Rattle.gen_net.specs.Front.{front_spelling}
use Rattle.gen_net.specs.Header.{RunHeader}
use Rattle.gen_log.specs.Fields.{set_spelling}

pub whole : (all : List ℕ) → IsEndOf all all
whole all = record { front = []; parts = refl }

pub goes_on : (all bytes text rest : List ℕ) → IsEndOf all bytes → bytes ≡ text ++ rest → IsEndOf all rest
goes_on all bytes text rest end parts = record {
  front = end.front ++ text;
  parts = end.parts ∙ (ap (λ (t : List ℕ). end.front ++ t) parts ∙ sym (append_assoc end.front text rest));
}

-- ---- behind each field

pub behind_byte : (all bytes rest : List ℕ) (b : ℕ) → IsBytes bytes → byte_at faults.Truncated bytes ≡ Ok (b, rest) → IsEndOf all bytes → IsEndOf all rest
behind_byte all bytes rest b fits read end = goes_on all bytes (b ∷ []) rest end (byte_takes faults.Truncated bytes b rest fits read).0.parts

pub behind_walks : (all bytes : List ℕ) (header : RunHeader × List ℕ) (faulty : List ℕ × List ℕ) (walks : List (List ℕ) × List ℕ) (n : ℕ) → n ≤ 16 → IsBytes bytes → front_at bytes ≡ Ok header → faulty_at n header.1 ≡ Ok faulty
    → walks_at n faulty.1 ≡ Ok walks → IsEndOf all bytes → IsEndOf all walks.1
behind_walks all bytes header faulty walks n few fits r0 r1 r2 end =
    let t0 = (fronts_read.takes bytes header fits r0).0 in
    let t1 = ((faulty_reads n few).takes header.1 faulty t0.rest_fits r1).0 in
    let t2 = ((walks_read n).takes faulty.1 walks t1.rest_fits r2).0 in
    let one = goes_on all bytes (front_spelling bundle_marks header.0) header.1 end t0.parts in
    let two = goes_on all header.1 (set_spelling faulty.0) faulty.1 one t1.parts in
    goes_on all faulty.1 (walks_spelling walks.0) walks.1 two t2.parts

-- ---- which bytes a log is

-- the log stands in the whole, and the rest behind it
pub record IsLogIn (all log rest : List ℕ) : Type 0 where
  pub front : List ℕ
  pub parts : all ≡ front ++ (log ++ rest)

pub log_in : (all bytes : List ℕ) (n before : ℕ) (general size : ℕ × List ℕ) (log : List ℕ × List ℕ) → IsBytes bytes → owner_at n before bytes ≡ Ok general → number_at faults.Truncated w32 general.1 ≡ Ok size
    → bytes_at faults.Truncated size.0 size.1 ≡ Ok log → IsEndOf all bytes → IsLogIn all log.0 log.1
log_in all bytes n before general size log fits r0 r1 r2 end =
    let t0 = (owner_takes n before bytes general fits r0).0 in
    let t1 = (number_takes faults.Truncated w32 (2 ^ 32) wide32 general.1 size.0 size.1 t0.rest_fits r1).0 in
    let t2 = (bytes_takes faults.Truncated size.0 size.1 log.0 log.1 t1.rest_fits r2).0 in
    let one = goes_on all bytes (general.0 ∷ []) general.1 end t0.parts in
    let two = goes_on all general.1 (to_be_bytes w32 size.0) size.1 one t1.parts in
    record { front = two.front; parts = two.parts ∙ ap (λ (t : List ℕ). two.front ++ t) t2.parts }

pub log_end : (all log rest : List ℕ) → IsLogIn all log rest → IsEndOf all rest
log_end all log rest is = goes_on all (log ++ rest) log rest (record { front = is.front; parts = is.parts }) refl

pub log_count : (all log rest : List ℕ) (is : IsLogIn all log rest) → length all ≡ length is.front + (length log + length rest)
log_count all log rest is = ap length is.parts ∙ (length-append is.front (log ++ rest) ∙ ap (λ k. length is.front + k) (length-append log rest))

range_at : (front log rest : List ℕ) → slice_range (front ++ (log ++ rest)) (length front) (length front + length log) ≡ log
range_at front log rest =
    let size : (length front + length log) - length front ≡ length log = omega arith in
    rw (size, drop-append_seam front (log ++ rest)) (take-append_seam log rest)

-- from the index on that is got by counting from the end
pub log_range : (all log rest : List ℕ) → IsLogIn all log rest → (from to : ℕ) → to ≡ length all - length rest → from ≡ to - length log → slice_range all from to ≡ log
log_range all log rest is from to to_is from_is =
    let count = log_count all log rest is in
    let to_at : to ≡ length is.front + length log = omega (arith, to_is, count) in
    let from_at : from ≡ length is.front = omega (arith, from_is, to_at) in
    rw (is.parts, from_at, to_at) (range_at is.front log rest)
