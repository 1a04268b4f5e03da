use Rattle.std.proofs.Common.{◌≡◌, ◌++◌, [], ◌∷◌, List, ℕ, length, ap, ◌∙◌, arith}
use Rattle.std.proofs.lemmas.List.{append-nil}
use Rattle.gen_lmots.specs.Coefficients.{checksum}
use Rattle.gen_lmots.specs.Strings.{u16str}
use Rattle.gen_lmots.proofs.Walked.{written}
use Rattle.gen_lmots.proofs.coefficients.checked.Goals as goal

pub returns : goal.returns
returns c =
    let left = c.copy_from_slice.ensures.after in
    let right : c.copy_from_slice-2.new.self ≡ u16str (checksum c.args.hash.now)
    = c.copy_from_slice-2.ensures.after ∙ c.to_be_bytes.ensures ∙ ap u16str c.checksum.ensures in
    let wide : length c.copy_from_slice.new.self ≡ 32 = omega (arith, ap length left, c.told-hash) in
    written c.copy_from_slice.new.self (0 ∷ 0 ∷ []) c.copy_from_slice-2.new.self 32 2 wide
    ∙ append-nil (c.copy_from_slice.new.self ++ c.copy_from_slice-2.new.self)
    ∙ ap (λ (xs : List ℕ). xs ++ c.copy_from_slice-2.new.self) left ∙ ap (λ (xs : List ℕ). c.args.hash.now ++ xs) right
