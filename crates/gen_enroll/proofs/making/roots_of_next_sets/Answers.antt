use Rattle.std.proofs.Common.{◌≡◌, ℕ, List, sym, ap, ◌∙◌, arith}
use Rattle.gen_tree.specs.Rings.{ring_root}
use Rattle.gen_identity.specs.States.{next_state, set_seed}
use Rattle.gen_identity.specs.Sets.{set_roots}
use Rattle.gen_identity.proofs.Steps.{state_after-none, state_after-more, no_roots, set_roots-more}
use Rattle.gen_enroll.proofs.making.roots_of_next_sets.Goals as goal

pub sets-init : goal.sets-init
sets-init c = record {
  state = sym (state_after-none c.args.state);
  roots = c.in_ok-roots.ensures.items ∙ sym (no_roots c.args.state c.args.height);
}

pub sets-preserved : goal.sets-preserved
sets-preserved c =
    let n = c.sets.counter in
    let before = c.sets.invariant in
    let root = c.in_ok-root.ensures ∙ ap (λ (s : List ℕ). ring_root (set_seed s) c.args.height) before.state in
    record {
      state = c.next-state.ensures ∙ ap next_state before.state ∙ sym (state_after-more c.args.state n);
      roots = rw (set_roots-more c.args.state c.args.height n, ← root, ← before.roots) c.in_ok-push.ensures.items;
    }

pub returns : goal.returns
returns c =
    let all : c.sets.counter ≡ c.args.count = omega arith in
    c.sets.invariant.roots ∙ ap (set_roots c.args.state c.args.height) all
