use Rattle.std.proofs.Common.{◌≡◌, ◌++◌, ℕ, List, map, ap, subst, ◌∙◌}
use Rattle.std.specs.Prelude.{OnOk}
use Rattle.gen_tree.specs.Rings.{ring_root}
use Rattle.gen_identity.specs.States.{set_seed}
use Rattle.gen_identity.specs.Sets.{set_roots}
use Rattle.gen_enroll.proofs.Pieces.{roots_of_states}
use Rattle.gen_enroll.proofs.making.append_turn.Goals as goal

pub returns : goal.returns
returns g c =
    let root = λ (state : List ℕ). ring_root (set_seed state) c.args.height in
    let all : map root c.deref.result.now ≡ set_roots c.args.state.now c.args.height c.args.count
    = ap (map root) (c.deref.ensures.value ∙ c.in_ok-states.ensures) ∙ roots_of_states c.args.state.now c.args.height c.args.count in
    subst (λ (roots : List (List ℕ)). OnOk c.append_roots_of_states.result (c.append_roots_of_states.new.roots.items ≡ c.args.roots.now.items ++ roots)) all c.append_roots_of_states.ensures
