use Rattle.std.proofs.Common.{◌≡◌, ◌++◌, ℕ, List, length, ap, refl, ◌∙◌, arith}
use Rattle.gen_identity.proofs.Above.{placed}
use Rattle.gen_identity.proofs.set_states.joined.Goals as goal

pub returns : goal.returns
returns c =
    let state = c.copy_from_slice.ensures.after in
    let system = c.copy_from_slice-2.ensures.after in
    let wide : length c.copy_from_slice.new.self ≡ 32 = omega (arith, ap length state, c.told-state) in
    placed c.copy_from_slice.new.self c.copy_from_slice-2.new.self _ wide refl
    ∙ ap (λ (xs : List ℕ). xs ++ c.copy_from_slice-2.new.self) state ∙ ap (λ (xs : List ℕ). c.args.state.now ++ xs) system
