-- What receipts tell, as lines.
use Rattle.std.specs.Prelude.{ℕ, List, ◌++◌, codes, if◌then◌else◌}
use Rattle.std.specs.Fmt.{decimal}
use Rattle.std.specs.List.{flat_map}
use Rattle.gen_net.specs.Header.{RunHeader}
use Rattle.gen_report.specs.Decisions.{decision_line}
use Rattle.gen_report.specs.VerdictText.{run_line}
use Rattle.gen_file.specs.Lists.{listed}
use Rattle.gen_receipting.specs.declared.told.Told.{Told}
use Rattle.gen_receipting.specs.declared.told.ToldReceipt.{ToldReceipt}

-- the line of a receipt that doesn't hold, by its general
unfoldable pub failing_line : ℕ → List ℕ
failing_line g = codes "general " ++ decimal g ++ codes " fails\n"

-- the line of a receipt: that of its decision, if it holds
abbrev pub receipt_line : ToldReceipt → List ℕ
receipt_line t = if t.holds then decision_line t.decision else failing_line t.decision.general

-- the line of a general that is convicted
unfoldable pub convicted_line : ℕ → List ℕ
convicted_line g = codes "general " ++ decimal g ++ codes " convicted\n"

-- the lines of the run id and of the orders that are shown
unfoldable pub opening_lines : RunHeader → List ℕ → List ℕ
opening_lines h shown = run_line h ++ codes "shown " ++ listed shown ++ codes "\n"

-- the text of what receipts tell
abbrev pub told_text : RunHeader → Told → List ℕ
told_text h t =
    opening_lines h t.shown
    ++ (flat_map receipt_line t.receipts.items ++ (flat_map convicted_line t.convicted ++ codes "end\n"))
