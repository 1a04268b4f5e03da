-- The rounds of a plain run, as the program makes them one after another.
use Rattle.std.specs.Prelude.{ℕ, ◌≡◌, ◌≢◌, ◌<◌, ◌↔◌, List, map, Contains}
use Rattle.gen_net.specs.Network.{Network, rounds}
use Rattle.gen_net.specs.declared.message.Message.{Message}
use Rattle.gen_net.specs.Run.{Run}
use Rattle.gen_core.specs.Seeing.{Lieutenant, HasSeen}
use Rattle.gen_core.specs.declared.sending.Outgoing.{Outgoing}
use Rattle.gen_core.specs.Sending.{outgoing}
use Rattle.gen_scenario.specs.World.{IsRelay}

-- the message is from this general, and is one of the chains that the list has it send
abbrev pub IsAmong : ℕ → List Outgoing → Message → Type 0
IsAmong from out message =
    (message.from ≡ from) × Contains out (outgoing message.to message.order message.path)

-- the message is one that g relays after round l, and round l is not the last
abbrev pub RelayedBy : Network → Run → ℕ → ℕ → Message → Type 0
RelayedBy net run g l message =
    (message.from ≡ g) × (l < rounds net) × IsRelay net run g l message

-- the state is that of a lieutenant that has seen the first k rounds of the run
pub record IsReady (net : Network) (run : Run) (k : ℕ) (state : Lieutenant) : Type 0 where
  pub lieutenant : state.me ≢ 0
  pub general : state.me < net.generals
  pub gone : state.gone ≡ k
  pub seen : HasSeen net run state

-- the numbers of these lieutenants
abbrev pub numbers_of : List Lieutenant → List ℕ
numbers_of states = map (λ state. state.me) states

-- the list has exactly the messages that these generals relay after round l
abbrev pub AreRelays : Network → Run → ℕ → List ℕ → List Message → Type 0
AreRelays net run l generals messages =
    (message : Message)
    → Contains messages message
    ↔ (Contains generals message.from × (l < rounds net) × IsRelay net run message.from l message)
