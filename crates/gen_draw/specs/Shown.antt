-- What shown logs say was sent, received and decided.
use Rattle.std.specs.Prelude.{ℕ, List, [], ◌∷◌, Result, Ok, Err}
use Rattle.std.specs.List.{flat_map}
use Rattle.gen_net.specs.Header.{RunHeader}
use Rattle.gen_net.specs.declared.message.Message.{Message}
use Rattle.gen_chain.specs.Chain.{signed_path}
use Rattle.gen_log.specs.declared.entries.Entry.{Entry}
use Rattle.gen_log.specs.declared.entries.Entry.TheVariants.{Start, Sign, Send, Recv, Decide}
use Rattle.gen_log.specs.declared.fault.LogFault.{LogFault}
use Rattle.gen_log.specs.Log.{RunLog}
use Rattle.gen_log.specs.LogReading.{log_of}
use Rattle.gen_log.specs.Writing.{LogBytes}

-- the message that an entry says its log's general sent
abbrev pub sent_by : ℕ → Entry → List Message
sent_by general (Send to order path) = record { from = general; to = to; order = order; path = path } ∷ []
sent_by general (Start _ _) = []
sent_by general (Sign _ _ _) = []
sent_by general (Recv _ _) = []
sent_by general (Decide _ _) = []

-- the message that an entry says its log's general received
abbrev pub received_by : ℕ → Entry → List Message
received_by general (Recv from chain) =
    record { from = from; to = general; order = chain.order; path = signed_path chain.signers } ∷ []
received_by general (Start _ _) = []
received_by general (Sign _ _ _) = []
received_by general (Send _ _ _) = []
received_by general (Decide _ _) = []

-- the decision of its log's general that an entry tells, with its order
abbrev pub decided_by : ℕ → Entry → List (ℕ × ℕ)
decided_by general (Decide orders order) = (general, order) ∷ []
decided_by general (Start _ _) = []
decided_by general (Sign _ _ _) = []
decided_by general (Send _ _ _) = []
decided_by general (Recv _ _) = []

-- the entries of what was read as a log; none if it is no log
abbrev pub entries_in : Result RunLog LogFault → List Entry
entries_in (Ok log) = log.entries
entries_in (Err fault) = []

abbrev pub entries_of : RunHeader → LogBytes → List Entry
entries_of h x = entries_in (log_of h x.bytes)

-- what a shown log says was sent, received and decided
unfoldable pub sent_in : RunHeader → LogBytes → List Message
sent_in h x = flat_map (sent_by x.general) (entries_of h x)

unfoldable pub received_in : RunHeader → LogBytes → List Message
received_in h x = flat_map (received_by x.general) (entries_of h x)

unfoldable pub decided_in : RunHeader → LogBytes → List (ℕ × ℕ)
decided_in h x = flat_map (decided_by x.general) (entries_of h x)

-- what all shown logs say was sent, received and decided
abbrev pub all_sent : RunHeader → List LogBytes → List Message
all_sent h exhibits = flat_map (sent_in h) exhibits

abbrev pub all_received : RunHeader → List LogBytes → List Message
all_received h exhibits = flat_map (received_in h) exhibits

abbrev pub all_decided : RunHeader → List LogBytes → List (ℕ × ℕ)
all_decided h exhibits = flat_map (decided_in h) exhibits
