-- The text of a judgement: a verdict, and convictions.
use Rattle.std.specs.Prelude.{ℕ, List, ◌++◌, codes}
use Rattle.std.specs.List.{flat_map}
use Rattle.std.specs.Fmt.{decimal}
use Rattle.hex.specs.Hex.{encode_lower}
use Rattle.gen_net.specs.Header.{RunHeader, run_id_of}
use Rattle.gen_convict.specs.Evidence.{Accusation}
use Rattle.gen_convict.specs.First.{kind_of}
use Rattle.gen_scenario.specs.declared.scenario.Decision.{Decision}
use Rattle.gen_audit.specs.declared.verdicts.Verdict.{Verdict}
use Rattle.gen_audit.specs.declared.verdicts.Verdict.TheVariants.{Agreed, Explained, No}
use Rattle.gen_report.specs.Findings.{finding_line}

-- the line with the run id in 64 hexadecimal digits
abbrev pub run_line : RunHeader → List ℕ
run_line h = codes "run " ++ encode_lower (run_id_of h) ++ codes "\n"

-- the line that says which order a general decided
abbrev pub decided_line : Decision → List ℕ
decided_line d = codes "general " ++ decimal d.general ++ codes " decides " ++ decimal d.order ++ codes "\n"

-- the line of the verdict, and a line for each decision or finding
abbrev pub answer_lines : Verdict → List ℕ
answer_lines (Agreed order) = codes "verdict agreed " ++ decimal order ++ codes "\n"
answer_lines (Explained decisions) = codes "verdict explained\n" ++ flat_map decided_line decisions
answer_lines (No findings) = codes "verdict no\n" ++ flat_map finding_line findings

-- the line of a conviction: the general, and the kind of the evidence
abbrev pub convicted_line : Accusation → List ℕ
convicted_line x =
    codes "convicted " ++ decimal x.accused ++ codes " by K" ++ decimal (kind_of x.claim) ++ codes "\n"

-- the text of a judgement: the run, the verdict with its decisions or findings, the convictions, and `end`
abbrev pub verdict_text : RunHeader → Verdict → List Accusation → List ℕ
verdict_text h verdict convictions =
    run_line h ++ answer_lines verdict ++ flat_map convicted_line convictions ++ codes "end\n"
