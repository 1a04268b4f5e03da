use Rattle.std.proofs.Common.{◌≡◌, ◌++◌, map, take}
use Rattle.gen_convict.specs.Evidence.{told_of}
use Rattle.gen_facts.specs.Facts.{equal_roots_fact}
use Rattle.gen_judging.specs.AuditFacts.{conviction_told}
use Rattle.gen_judging.proofs.facts.campaign_facts.Given as goal

abbrev pub invariant-loop-evidence : goal.invariant-loop-evidence
invariant-loop-evidence l = l.facts.items ≡ l.initial.facts.items ++ map (conviction_told l.bundles) (map told_of (take l.evidence-index l.across))

abbrev pub invariant-loop-pair : goal.invariant-loop-pair
invariant-loop-pair l = l.facts.items ≡ l.initial.facts.items ++ map equal_roots_fact (take l.pair-index l.pairs)
