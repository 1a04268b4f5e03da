use Rattle.std.proofs.Common.{◌≡◌, ◌++◌, List, ℕ, length, take, drop, slice_set, ap, ◌∙◌, arith}
use Rattle.std.proofs.lemmas.List.{take_at, length-take-le}
use Rattle.sha2.specs.Sha256.{sha256}
use Rattle.gen_lmots.specs.Strings.{u8str}
use Rattle.gen_lmots.proofs.Walked.{step-text}
use Rattle.gen_lmots.proofs.chains.chain_step.Goals as goal

pub returns-clause-value : goal.returns-clause-value
returns-clause-value c =
    let text = c.args.text.now in
    let set = slice_set text 22 c.args.step in
    c.digest.ensures ∙ ap sha256 (ap (λ (v : List ℕ). take 23 set ++ (v ++ drop 32 (drop 23 set))) c.copy_from_slice.ensures.after ∙ step-text text c.args.value.now c.args.step c.told-text)

pub returns-clause-kept : goal.returns-clause-kept
returns-clause-kept c =
    let text = c.args.text.now in
    let set = slice_set text 22 c.args.step in
    let whole = ap (λ (v : List ℕ). take 23 set ++ (v ++ drop 32 (drop 23 set))) c.copy_from_slice.ensures.after ∙ step-text text c.args.value.now c.args.step c.told-text in
    let wide : length (take 22 text) ≡ 22 = length-take-le 22 text (omega (arith, c.told-text)) in
    ap (take 22) whole ∙ take_at (take 22 text) (u8str c.args.step ++ c.args.value.now) 22 wide
