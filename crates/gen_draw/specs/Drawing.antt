-- Where a message stands in a picture: there if and only if a shown log says so.
use Rattle.std.specs.Prelude.{ℕ, ◌≡◌, ◌⊎◌, ◌↔◌, List, Contains, Result, Ok}
use Rattle.gen_net.specs.Header.{RunHeader}
use Rattle.gen_net.specs.declared.message.Message.{Message}
use Rattle.gen_chain.specs.Chain.{Chain, signed_path}
use Rattle.gen_log.specs.declared.entries.Entry.{Entry}
use Rattle.gen_log.specs.declared.entries.Entry.TheVariants.{Send, Recv}
use Rattle.gen_log.specs.declared.fault.LogFault.{LogFault}
use Rattle.gen_log.specs.Log.{RunLog}
use Rattle.gen_log.specs.LogReading.{log_of}
use Rattle.gen_log.specs.Writing.{LogBytes}
use Rattle.gen_draw.specs.declared.arrow.Arrow.{Arrow}
use Rattle.gen_draw.specs.declared.arrow.ToldBy.{ToldBy}
use Rattle.gen_draw.specs.declared.arrow.ToldBy.TheVariants.{Both, Sender, Receiver}
use Rattle.gen_draw.specs.Shown.{all_received, all_sent}
use Rattle.gen_draw.specs.Telling.{arrows_between}

-- something that is shown as the general's log reads as a log that has the entry
pub record HasEntry (h : RunHeader) (exhibits : List LogBytes) (general : ℕ) (entry : Entry) : Type 0 where
  pub exhibit : LogBytes
  pub shown : Contains exhibits exhibit
  pub whose : exhibit.general ≡ general
  pub log : RunLog
  pub reads : log_of h exhibit.bytes ≡ Ok log
  pub entry_of : Contains log.entries entry

-- a shown log of its sender has a SEND of the message
abbrev pub SaysSent : RunHeader → List LogBytes → Message → Type 0
SaysSent h exhibits m = HasEntry h exhibits m.from (Send m.to m.order m.path)

-- a shown log of its receiver has a RECV of the message
pub record SaysReceived (h : RunHeader) (exhibits : List LogBytes) (m : Message) : Type 0 where
  pub chain : Chain
  pub order : chain.order ≡ m.order
  pub path : signed_path chain.signers ≡ m.path
  pub received : HasEntry h exhibits m.to (Recv m.from chain)

-- the arrows of the messages that the shown logs have
abbrev pub arrows_of : RunHeader → List LogBytes → List Arrow
arrows_of h exhibits = arrows_between (all_sent h exhibits) (all_received h exhibits)

-- the message is drawn as one that these logs have: Both, Sender or Receiver
abbrev pub IsDrawn : RunHeader → List LogBytes → ToldBy → Message → Type 0
IsDrawn h exhibits told m = Contains (arrows_of h exhibits) (record { message = m; told = told })

-- A message is drawn as one that its sender's log has (Both or Sender) if and only if a shown log of the
-- sender says that it was sent. It is solid (Both) if a shown log of its receiver says that it was received,
-- and else dashed. It is drawn dashed as Receiver if and only if a shown log of the receiver says that it was
-- received and no shown log of the sender says that it was sent.
pub record DrawsWhatLogsSay (h : RunHeader) (exhibits : List LogBytes) : Type 0 where
  pub sent : (m : Message) → (IsDrawn h exhibits Both m ⊎ IsDrawn h exhibits Sender m) ↔ SaysSent h exhibits m
  pub both : (m : Message) → IsDrawn h exhibits Both m ↔ (SaysSent h exhibits m × SaysReceived h exhibits m)
  pub sender : (m : Message)
      → IsDrawn h exhibits Sender m ↔ (SaysSent h exhibits m × (SaysReceived h exhibits m → ⊥))
  pub receiver : (m : Message)
      → IsDrawn h exhibits Receiver m ↔ (SaysReceived h exhibits m × (SaysSent h exhibits m → ⊥))

-- this holds of each header and all that is shown under it
abbrev pub MessagesStandWhereLogsSay : Type 0
MessagesStandWhereLogsSay = (h : RunHeader) (exhibits : List LogBytes) → DrawsWhatLogsSay h exhibits
