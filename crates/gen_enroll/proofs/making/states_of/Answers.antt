use Rattle.std.proofs.Common.{◌≡◌, sym, ap, ◌∙◌}
use Rattle.gen_identity.specs.States.{next_state, state_after}
use Rattle.gen_identity.proofs.Steps.{state_after-none, state_after-more}
use Rattle.gen_enroll.proofs.Pieces.{no_states, set_states-more}
use Rattle.gen_enroll.proofs.making.states_of.Goals as goal

pub sets-init : goal.sets-init
sets-init c = record {
  next = c.new-next.ensures ∙ sym (state_after-none c.args.state.now);
  states = c.in_ok-states.ensures.items ∙ sym (no_states c.args.state.now);
}

pub sets-preserved : goal.sets-preserved
sets-preserved c =
    let state = c.args.state.now in
    let n = c.sets.counter in
    let before = c.sets.invariant in
    let own : c.as_bytes.result.now ≡ state_after state n = c.as_bytes.ensures ∙ before.next in
    record {
      next = c.next-next.ensures ∙ ap next_state before.next ∙ sym (state_after-more state n);
      states = rw (set_states-more state n, ← own, ← before.states) c.in_ok-push.ensures.items;
    }
