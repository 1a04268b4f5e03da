use Rattle.std.proofs.Common.{◌≡◌, drop, map}
use Rattle.std.specs.List.{find}
use Rattle.gen_convict.specs.Finding as finds
use Rattle.gen_convict.proofs.log_claims.unsaid_in.Given as goal

abbrev pub invariant-loop-text : goal.invariant-loop-text
invariant-loop-text l = find (λ x. finds.is_unsaid l.log x.text) (map (λ t. t.now) (drop l.text-index l.firsts)) ≡ find (λ x. finds.is_unsaid l.log x.text) (map (λ t. t.now) l.firsts)
