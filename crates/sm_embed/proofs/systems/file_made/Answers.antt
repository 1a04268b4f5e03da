use Rattle.std.proofs.Common.{List, ℕ, length, ap, ◌∙◌}
use Rattle.gen_enroll.proofs.Pieces.{length-set_roots}
use Rattle.sm_embed.proofs.systems.file_made.Goals as goal

pub new-file-requires-clause-count : goal.new-file-requires-clause-count
new-file-requires-clause-count c =
    ap (λ (roots : List (List ℕ)). length roots) c.in_ok-roots.ensures ∙ length-set_roots _ _ _ ∙ c.sets_on.ensures
