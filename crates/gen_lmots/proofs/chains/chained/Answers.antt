use Rattle.std.proofs.Common.{◌≡◌, ◌+◌, ◌-◌, ◌++◌, List, ℕ, suc, sym, ap, ◌∙◌, append_assoc, arith}
use Rattle.sha2.specs.Sha256.{sha256}
use Rattle.gen_lmots.specs.Chains.{chain_step}
use Rattle.gen_lmots.specs.Strings.{front, u8str, u16str}
use Rattle.gen_lmots.proofs.Walked.{chained-zero, chained-suc}
use Rattle.gen_lmots.proofs.chains.chained.Goals as goal

pub steps-init : goal.steps-init
steps-init c =
    let a = c.args in
    let none : a.first - a.first ≡ 0 = omega arith in
    (rw none (sym (chained-zero a.place.now a.chain a.first a.value.now)), c.text_of_chain-text.ensures)

pub steps-preserved : goal.steps-preserved
steps-preserved c =
    let a = c.args in
    let next : c.steps.step + 1 - a.first ≡ suc (c.steps.step - a.first) = omega (arith, c.steps.auto.step) in
    let at : a.first + (c.steps.step - a.first) ≡ c.steps.step = omega (arith, c.steps.auto.step) in
    let text = c.steps.invariant.1 in
    let one : c.chain_step-reached.result ≡ chain_step a.place.now a.chain c.steps.step c.steps.reached =
    c.chain_step-reached.ensures.value
    ∙ ap (λ (f : List ℕ). sha256 (f ++ (u8str c.steps.step ++ c.steps.reached))) text
    ∙ ap sha256 (append_assoc (front a.place.now) (u16str a.chain) (u8str c.steps.step ++ c.steps.reached)) in
    (rw (next, chained-suc, at, ← c.steps.invariant.0) one, c.chain_step-reached.ensures.kept ∙ text)
