use Rattle.std.proofs.Common.{◌≡◌, drop, map}
use Rattle.gen_convict.specs.FindingClaims as finds
use Rattle.gen_convict.proofs.text_claims.texts_claim.Given as goal

abbrev pub invariant-loop-first : goal.invariant-loop-first
invariant-loop-first l = finds.texts_claim (map (λ t. t.now) (drop l.first-index l.firsts)) (map (λ t. t.now) l.texts) ≡ finds.texts_claim (map (λ t. t.now) l.firsts) (map (λ t. t.now) l.texts)
