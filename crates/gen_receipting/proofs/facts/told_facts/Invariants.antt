use Rattle.std.proofs.Common.{◌≡◌, ◌++◌, map, take}
use Rattle.gen_facts.specs.Facts.{heads_fact}
use Rattle.gen_receipting.specs.ToldFacts.{told_fact}
use Rattle.gen_receipting.proofs.facts.told_facts.Given as goal

abbrev pub invariant-loop-receipt : goal.invariant-loop-receipt
invariant-loop-receipt l = l.facts.items ≡ l.initial.facts.items ++ map told_fact (take l.receipt-index l.receipts)

abbrev pub invariant-loop-general : goal.invariant-loop-general
invariant-loop-general l = l.initial.facts.items ++ map heads_fact l.initial.general-iterator ≡ l.facts.items ++ map heads_fact l.general-iterator
