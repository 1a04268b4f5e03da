use Rattle.std.proofs.Common.{◌≡◌, ◌≤◌, ℕ, ◌+◌, ◌-◌, List, sym, ap, ◌∙◌, arith}
use Rattle.gen_identity.specs.States.{state_after}
use Rattle.gen_identity.specs.Sets.{set_roots}
use Rattle.gen_identity.proofs.Steps.{state_after-none, no_roots, steps_add}
use Rattle.gen_enroll.proofs.Pieces.{grown_by_turn}
use Rattle.gen_enroll.proofs.making.roots_of_sets.Goals as goal

pub turns-init : goal.turns-init
turns-init g c =
    let state = c.args.state.now in
    let none : c.args.count - c.args.count ≡ 0 = omega arith in
    let start = c.new-next.ensures ∙ c.as_bytes.ensures in
    record {
      within = omega arith;
      state = start ∙ sym (state_after-none state) ∙ ap (state_after state) (sym none);
      roots = c.in_ok-roots.ensures.items ∙ sym (no_roots state c.args.height) ∙ ap (set_roots state c.args.height) (sym none);
    }

pub turns-preserved : goal.turns-preserved
turns-preserved g c =
    let state = c.args.state.now in
    let height = c.args.height in
    let before = c.turns.invariant in
    let done = c.args.count - c.turns.left in
    let turn = c.min-turn.result in
    let some : turn ≤ c.turns.left = omega (arith, c.min-turn.ensures) in
    let up : done + turn ≡ c.args.count - (c.turns.left - turn) = omega (arith, some, before.within) in
    let from : c.as_bytes-in-turns.result.now ≡ state_after state done = c.as_bytes-in-turns.ensures ∙ before.state in
    record {
      within = omega (arith, before.within);
      state = c.advance-next.ensures ∙ ap (λ (s : List ℕ). state_after s turn) before.state ∙ steps_add state done turn ∙ ap (state_after state) up;
      roots = grown_by_turn state c.as_bytes-in-turns.result.now height done turn (c.args.count - (c.turns.left - turn)) c.turns.roots.items c.append_turn.new.roots.items up from before.roots c.in_ok-append_turn.ensures;
    }

pub returns : goal.returns
returns g c =
    let all : c.args.count - c.turns.left ≡ c.args.count = omega (arith, c.turns-test.false) in
    rw all at c.turns.invariant.roots
