use Rattle.std.proofs.Common.{List, ℕ, length, ap, ◌∙◌}
use Rattle.gen_enroll.proofs.Pieces.{length-set_roots}
use Rattle.gen_enroll.proofs.making.roots_of_secret.Goals as goal

pub new-requires-clause-count : goal.new-requires-clause-count
new-requires-clause-count g c =
    ap (λ (roots : List (List ℕ)). length roots) c.in_ok-roots.ensures ∙ length-set_roots c.new-state.result c.args.height c.sets_on.result ∙ c.sets_on.ensures
