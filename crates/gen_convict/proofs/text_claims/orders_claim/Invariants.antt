use Rattle.std.proofs.Common.{◌≡◌, drop, map}
use Rattle.std.specs.List.{find}
use Rattle.gen_convict.specs.Finding as finds
use Rattle.gen_convict.proofs.text_claims.orders_claim.Given as goal

abbrev pub invariant-loop-first : goal.invariant-loop-first
invariant-loop-first l = find (λ x. finds.is_command x.text) (map (λ t. t.now) (drop l.first-index l.texts)) ≡ find (λ x. finds.is_command x.text) (map (λ t. t.now) l.texts)
