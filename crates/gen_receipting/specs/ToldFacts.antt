-- What receipts tell, as facts: rows of numbers.
use Rattle.std.specs.Prelude.{List, ◌∷◌, ◌++◌, map}
use Rattle.gen_net.specs.Header.{RunHeader}
use Rattle.gen_facts.specs.Facts.{heads_fact, receipt_fact, shown_fact}
use Rattle.gen_facts.specs.declared.fact.Fact.{Fact}
use Rattle.gen_receipting.specs.declared.told.Told.{Told}
use Rattle.gen_receipting.specs.declared.told.ToldReceipt.{ToldReceipt}

-- the fact of a receipt
abbrev pub told_fact : ToldReceipt → Fact
told_fact t = receipt_fact t.decision t.entries t.holds

-- the facts of the orders that are shown, of each receipt, and of each general that is convicted
abbrev pub told_facts : RunHeader → Told → List Fact
told_facts h t =
    shown_fact h t.shown ∷ (map told_fact t.receipts.items ++ map heads_fact t.convicted)
