-- A log as lines: each entry with the byte at which it stands in the file.
use Rattle.std.specs.Prelude.{ℕ, ◌+◌, List, [], ◌∷◌, ◌++◌, codes, length, sum_by, Option, Some, None, Result, Ok, Err}
use Rattle.std.specs.Fmt.{decimal}
use Rattle.hex.specs.Hex.{encode_lower}
use Rattle.gen_net.specs.Header.{RunHeader}
use Rattle.gen_chain.specs.Chain.{signed_path}
use Rattle.gen_log.specs.declared.entries.Entry.{Entry}
use Rattle.gen_log.specs.declared.entries.Entry.TheVariants.{Start, Sign, Send, Recv, Decide}
use Rattle.gen_log.specs.declared.fault.LogFault.{LogFault}
use Rattle.gen_log.specs.Entry.{entry_length}
use Rattle.gen_log.specs.Log.{RunLog}
use Rattle.gen_log.specs.LogReading.{log_of}
use Rattle.gen_file.specs.FaultText.{log_fault_name}
use Rattle.gen_file.specs.Parts.{log_front_length}
use Rattle.gen_file.specs.Lists.{listed}

-- an order of one's own, or a minus
abbrev pub own_said : Option ℕ → List ℕ
own_said None = codes "-"
own_said (Some v) = decimal v

-- what was signed: its round, which is the length of its path, its order, and its path
unfoldable pub signed_said : ℕ → List ℕ → List ℕ
signed_said order path =
    codes " round " ++ decimal (length path) ++ codes " order " ++ decimal order
    ++ codes " path " ++ listed path

-- What an entry of this general's log says, without its signatures. A START has the general that it names,
-- and the general's own order; a message its sender, its receiver, and what was signed; a DECIDE the set of
-- orders, and the order that was decided.
abbrev pub entry_said : ℕ → Entry → List ℕ
entry_said keeper (Start general own) =
    codes " start general " ++ decimal general ++ codes " own " ++ own_said own
entry_said keeper (Sign order path signature) = codes " sign" ++ signed_said order path
entry_said keeper (Send to order path) =
    codes " send from " ++ decimal keeper ++ codes " to " ++ decimal to ++ signed_said order path
entry_said keeper (Recv from chain) =
    codes " recv from " ++ decimal from ++ codes " to " ++ decimal keeper
    ++ signed_said chain.order (signed_path chain.signers)
entry_said keeper (Decide orders order) =
    codes " decide set " ++ listed orders ++ codes " order " ++ decimal order

-- where an entry stands: its number, the general whose log it is in, and the byte at which it begins
unfoldable pub entry_front : ℕ → ℕ → ℕ → List ℕ
entry_front keeper number at =
    codes "entry " ++ decimal number ++ codes " of " ++ decimal keeper ++ codes " byte " ++ decimal at

-- the line of an entry
abbrev pub entry_line : ℕ → ℕ → ℕ → Entry → List ℕ
entry_line keeper number at e = entry_front keeper number at ++ entry_said keeper e ++ codes "\n"

-- the lines of entries that stand one behind another, from this number and this byte on
abbrev pub entry_lines : ℕ → ℕ → ℕ → List Entry → List ℕ
entry_lines keeper number at [] = []
entry_lines keeper number at (e ∷ es) =
    entry_line keeper number at e ++ entry_lines keeper (number + 1) (at + entry_length e) es

-- the first line of what is shown as a log: the general, the byte at which it begins, and its length
unfoldable pub log_line : ℕ → ℕ → ℕ → List ℕ
log_line general at size =
    codes "log of " ++ decimal general ++ codes " byte " ++ decimal at
    ++ codes " length " ++ decimal size ++ codes "\n"

-- the line of a log that reads: the run that it says it is of, and the number of its entries
unfoldable pub says_line : ℕ → RunLog → List ℕ
says_line general log =
    codes "says of " ++ decimal general ++ codes " run " ++ encode_lower log.run_id
    ++ codes " entries " ++ decimal (length log.entries) ++ codes "\n"

-- the line behind the entries: where the signature of the head begins
unfoldable pub head_line : ℕ → ℕ → List ℕ
head_line general at = codes "head of " ++ decimal general ++ codes " byte " ++ decimal at ++ codes "\n"

-- the line of bytes that are no log, with their fault
unfoldable pub unreadable_line : ℕ → LogFault → List ℕ
unreadable_line general fault =
    codes "unreadable of " ++ decimal general ++ codes " fault " ++ log_fault_name fault ++ codes "\n"

-- the lines of what was read as a log that begins at this byte
abbrev pub reading_lines : ℕ → ℕ → Result RunLog LogFault → List ℕ
reading_lines general at (Err fault) = unreadable_line general fault
reading_lines general at (Ok log) =
    says_line general log ++ entry_lines general 0 (at + log_front_length) log.entries
    ++ head_line general (at + log_front_length + sum_by entry_length log.entries)

-- the lines of bytes that begin at this byte and are shown as the log of a general in the run of a header
unfoldable pub log_lines : RunHeader → ℕ → ℕ → List ℕ → List ℕ
log_lines h general at bytes =
    log_line general at (length bytes) ++ reading_lines general at (log_of h bytes)
