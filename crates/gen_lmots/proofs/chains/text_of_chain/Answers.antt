use Rattle.std.proofs.Common.{◌≡◌, ◌++◌, List, ℕ, length, take, drop, replicate, length-append, ap, ◌∙◌, arith}
use Rattle.std.proofs.lemmas.List.{take_at}
use Rattle.gen_lmots.specs.Strings.{front, u16str}
use Rattle.gen_lmots.proofs.Walked.{written}
use Rattle.gen_lmots.proofs.chains.text_of_chain.Goals as goal

pub returns : goal.returns
returns c =
    let place = c.args.place.now in
    let a = c.copy_from_slice.new.self in
    let b = c.copy_from_slice-2.new.self in
    let rest = replicate 35 0 in
    let first : a ≡ front place = c.copy_from_slice.ensures.after ∙ c.front_of.ensures in
    let second : b ≡ u16str c.args.chain = c.copy_from_slice-2.ensures.after ∙ c.to_be_bytes.ensures in
    let wide : length a ≡ 20 = c.copy_from_slice.ensures.len in
    let both : length (a ++ b) ≡ 22 = omega (arith, length-append a b, wide, ap length second) in
    ap (take 22) (written a rest b 20 2 wide) ∙ take_at (a ++ b) (drop 2 rest) 22 both
    ∙ ap (λ (x : List ℕ). x ++ b) first
    ∙ ap (λ (x : List ℕ). front place ++ x) second
