-- The one run of a scenario with signatures: its frames, the chains of them that count, and the messages.
use Rattle.std.specs.Prelude.{ℕ, zero, suc, ◌-◌, List, [], ◌++◌, map, filter, Option, Some, None}
use Rattle.std.specs.List.{range_with_len, list_any, flat_map}
use Rattle.gen_tree.specs.Rings.{seed_of}
use Rattle.gen_net.specs.Network.{Network, rounds}
use Rattle.gen_net.specs.Edges.{joins}
use Rattle.gen_net.specs.declared.message.Message.{Message}
use Rattle.gen_net.specs.Run.{Run}
use Rattle.gen_chain.specs.Chain.{Chain, signed_path}
use Rattle.gen_scenario.specs.declared.delivery.Delivery.{Delivery}
use Rattle.gen_scenario.specs.declared.heard.Heard.{Heard}
use Rattle.gen_scenario.specs.Scenario.{Scenario, header_of, script_of}
use Rattle.gen_scenario.specs.Signing.{Keys}
use Rattle.gen_scenario.specs.Counted.{counted_of}
use Rattle.gen_scenario.specs.Frames.{Sender, frame_of}

-- the keys with which the generals of a scenario sign
abbrev pub keys_of : Scenario → Keys
keys_of s = record { header = header_of s; seeds = λ g. seed_of s.master g }

-- the own order of a general: only the commander has one
abbrev pub own_order : Scenario → ℕ → Option ℕ
own_order s zero = Some s.order
own_order s (suc g) = None

-- what a general of the scenario knows of its own
abbrev pub sender_of : Scenario → ℕ → Sender
sender_of s g = record { keys = keys_of s; me = g; own = own_order s g; script = script_of s.scripts g }

-- those of these generals that are neighbours of a general
abbrev pub near_of : Network → ℕ → List ℕ → List ℕ
near_of net g = filter (λ h. list_any (joins g h) net.edges)

-- the neighbours of a general, in ascending order
abbrev pub neighbours_of : Network → ℕ → List ℕ
neighbours_of net g = near_of net g (range_with_len 0 net.generals)

-- a frame's place in the run: its sender, its receiver and its round
abbrev pub delivery : ℕ → ℕ → ℕ → Delivery
delivery round from to = record { from = from; to = to; round = round }

-- what a receiver hears of the frame of one sender in a round, where `heard` gives what each sender heard in
-- earlier rounds
abbrev pub heard_of : Scenario → (ℕ → List Heard) → ℕ → ℕ → ℕ → List Heard
heard_of s heard round to from =
    map (λ c. record { from = from; chain = c })
    (counted_of (header_of s) (delivery round from to) (frame_of (sender_of s from) (heard from) round to))

-- what a receiver hears in a round, in ascending order of senders
unfoldable pub heard_in : Scenario → (ℕ → List Heard) → ℕ → ℕ → List Heard
heard_in s heard round to = flat_map (heard_of s heard round to) (neighbours_of s.net to)

-- what a general has heard after the first k rounds, round by round
unfoldable pub heard_by : Scenario → ℕ → ℕ → List Heard
heard_by s zero g = []
heard_by s (suc k) g = heard_by s k g ++ heard_in s (heard_by s k) (suc k) g

-- the frame from a general to a neighbour in a round, 1 to R
unfoldable pub frame_at : Scenario → ℕ → ℕ → ℕ → List (List ℕ)
frame_at s round from to = frame_of (sender_of s from) (heard_by s (round - 1) from) round to

-- the chains of this frame that count
unfoldable pub counted_at : Scenario → ℕ → ℕ → ℕ → List Chain
counted_at s round from to = counted_of (header_of s) (delivery round from to) (frame_at s round from to)

-- the message that stands for a chain that a general heard
abbrev pub message_to : ℕ → Heard → Message
message_to g x = record { from = x.from; to = g; order = x.chain.order; path = signed_path x.chain.signers }

-- the messages of the run: one for each chain that a general heard
unfoldable pub messages_of : Scenario → Run
messages_of s =
    flat_map (λ g. map (message_to g) (heard_by s (rounds s.net) g)) (range_with_len 0 s.net.generals)
