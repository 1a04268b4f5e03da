use Rattle.std.proofs.Common.{◌≡◌, ℕ, List, ◌++◌, length, take, drop, ap, ◌∙◌, sym, arith}
use Rattle.std.specs.Int.{w32, to_be_bytes, from_be_bytes}
use Rattle.std.proofs.lemmas.List.{length-take, length-drop, take_all, take-append-drop, drop-drop}
use Rattle.gen_types.proofs.ByteFields.{IsBytes, IsBytes-take, wide32}
use Rattle.gen_identity.proofs.set_states.NumberedState.from_bytes.Goals as goal

-- a number of four bytes, and what stands behind it
both_parts : (bytes front back : List ℕ) (n : ℕ) → n ≡ from_be_bytes w32 front → front ≡ take 4 bytes → back ≡ drop 4 bytes → length bytes ≡ 68 → IsBytes bytes → to_be_bytes w32 n ++ back ≡ bytes
both_parts bytes front back n number first last long are =
    let four : length (take 4 bytes) ≡ 4 = omega (arith, length-take 4 bytes, long) in
    let again : to_be_bytes w32 n ≡ take 4 bytes = ap (to_be_bytes w32) (number ∙ ap (from_be_bytes w32) first) ∙ wide32.back (take 4 bytes) four (IsBytes-take 4 bytes are) in
    ap (λ (xs : List ℕ). xs ++ back) again ∙ ap (λ (xs : List ℕ). take 4 bytes ++ xs) last ∙ take-append-drop 4 bytes

pub returns : goal.returns
returns c =
    let bytes = c.args.bytes.now in
    let long : length bytes ≡ 68 = c.told-bytes in
    let state : c.new.result ≡ take 32 (drop 4 bytes) = c.new.ensures ∙ c.copy_from_slice-2.ensures.after in
    let system : c.copy_from_slice-3.new.self ≡ drop 36 bytes
    = c.copy_from_slice-3.ensures.after ∙ take_all 32 (drop 36 bytes) (omega (arith, length-drop 36 bytes, long)) in
    let both : c.new.result ++ c.copy_from_slice-3.new.self ≡ drop 4 bytes
    = ap (λ (xs : List ℕ). xs ++ c.copy_from_slice-3.new.self) state ∙ ap (λ (xs : List ℕ). take 32 (drop 4 bytes) ++ xs) (system ∙ sym (drop-drop 32 4 bytes)) ∙ take-append-drop 32 (drop 4 bytes) in
    both_parts bytes c.copy_from_slice.new.self (c.new.result ++ c.copy_from_slice-3.new.self) c.from_be_bytes.result c.from_be_bytes.ensures c.copy_from_slice.ensures.after both long c.fits-bytes
