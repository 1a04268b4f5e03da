use Rattle.std.proofs.Common.{◌≡◌, drop, map}
use Rattle.std.specs.List.{find}
use Rattle.gen_convict.specs.Finding as finds
use Rattle.gen_convict.proofs.first_texts.first_unlike.Given as goal

abbrev pub invariant-loop-other : goal.invariant-loop-other
invariant-loop-other l = find (λ x. finds.is_unlike l.text.text x.text) (map (λ t. t.now) (drop l.other-index l.texts)) ≡ find (λ x. finds.is_unlike l.text.text x.text) (map (λ t. t.now) l.texts)
