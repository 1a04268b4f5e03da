-- The names of faults of headers and logs.
use Rattle.std.specs.Prelude.{ℕ, List, [], ◌∷◌, ◌++◌, codes}
use Rattle.std.specs.Fmt.{decimal}
use Rattle.gen_net.specs.declared.fault.HeaderFault.{HeaderFault}
use Rattle.gen_net.specs.FaultNumber.{header_fault_number}
use Rattle.gen_log.specs.declared.fault.LogFault.{LogFault}
use Rattle.gen_log.specs.FaultNumbers.{log_fault_numbers}

-- the name of a header's fault
unfoldable pub header_fault_name : HeaderFault → List ℕ
header_fault_name fault = codes "H" ++ decimal (header_fault_number fault)

-- the numbers of a log's rule and of a chain's rule, as a text names them
abbrev pub rules_named : List ℕ → List ℕ
rules_named [] = []
rules_named (l ∷ []) = codes "L" ++ decimal l
rules_named (l ∷ c ∷ _) = codes "L" ++ decimal l ++ codes " C" ++ decimal c

-- the name of a log's fault, and, if that is a chain's fault, the name of the chain's fault behind it
abbrev pub log_fault_name : LogFault → List ℕ
log_fault_name fault = rules_named (log_fault_numbers fault)
