-- The lines of findings.
use Rattle.std.specs.Prelude.{ℕ, List, [], ◌∷◌, ◌++◌, codes}
use Rattle.std.specs.Fmt.{decimal}
use Rattle.gen_log.specs.declared.fault.LogFault.{LogFault}
use Rattle.gen_log.specs.FaultNumbers.{log_fault_numbers}
use Rattle.gen_match.specs.declared.finding.Finding.{Finding}
use Rattle.gen_match.specs.declared.finding.Finding.TheVariants.{Missing, Several, Unreadable, Foreign, Unsigned, Unsealed, Departs, Unmatched, Underivable, Unjoined, Nobody}

-- the numbers of a log's rule and of a chain's rule, as a text names them
abbrev pub rules_named : List ℕ → List ℕ
rules_named [] = []
rules_named (l ∷ []) = codes "L" ++ decimal l
rules_named (l ∷ c ∷ _) = codes "L" ++ decimal l ++ codes " C" ++ decimal c

-- the name of a log's fault, and, if that is a chain's fault, the name of the chain's fault behind it
abbrev pub log_fault_name : LogFault → List ℕ
log_fault_name fault = rules_named (log_fault_numbers fault)

-- a message in words: sender, receiver, round and order
abbrev pub message_named : ℕ → ℕ → ℕ → ℕ → List ℕ
message_named from to round order =
    codes " from " ++ decimal from ++ codes " to " ++ decimal to ++ codes " round " ++ decimal round
    ++ codes " order " ++ decimal order

-- a finding in words: its number, such as `N8`, and what it is about
abbrev pub finding_named : Finding → List ℕ
finding_named (Missing general) = codes "N1 general " ++ decimal general
finding_named (Several general) = codes "N2 general " ++ decimal general
finding_named (Unreadable general fault) =
    codes "N3 general " ++ decimal general ++ codes " " ++ log_fault_name fault
finding_named (Foreign general) = codes "N4 general " ++ decimal general
finding_named (Unsigned general entry) =
    codes "N5 general " ++ decimal general ++ codes " entry " ++ decimal entry
finding_named (Unsealed general) = codes "N6 general " ++ decimal general
finding_named (Departs general entry) =
    codes "N7 general " ++ decimal general ++ codes " entry " ++ decimal entry
finding_named (Unmatched from to round order) = codes "N8" ++ message_named from to round order
finding_named (Underivable from to round order) = codes "N9" ++ message_named from to round order
finding_named (Unjoined first second) = codes "N10 pair " ++ decimal first ++ codes " " ++ decimal second
finding_named Nobody = codes "N11"

-- the line of a finding
abbrev pub finding_line : Finding → List ℕ
finding_line finding = finding_named finding ++ codes "\n"
