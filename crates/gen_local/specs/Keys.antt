-- Places of entries as numbers, which ascend as the places do.
use Rattle.std.specs.Prelude.{ℕ, ◌+◌, ◌*◌, ◌<◌, length, Some, None}
use Rattle.gen_net.specs.Network.{Network, rounds}
use Rattle.gen_net.specs.Log.{LogEntry, Started, Signed, Sent, Received, Decided}
use Rattle.gen_log.specs.Entry.{erase}
use Rattle.gen_log.specs.declared.entries.Entry.{Entry}

-- the numbers of the places of a SIGN, a SEND and a RECV in round l
abbrev pub sign_key : ℕ → ℕ → ℕ
sign_key l v = l * 1024 + 256 + v * 16

abbrev pub send_key : ℕ → ℕ → ℕ → ℕ
send_key l to v = l * 1024 + 512 + to * 16 + v

abbrev pub recv_key : ℕ → ℕ → ℕ → ℕ
recv_key l from v = l * 1024 + 768 + from * 16 + v

-- the number of an entry's place
abbrev pub key : Network → LogEntry → ℕ
key net (Started general own) = 0
key net (Signed order path) = sign_key (length path) order
key net (Sent to order path) = send_key (length path) to order
key net (Received from order path) = recv_key (length path) from order
key net (Decided orders order) = (rounds net + 1) * 1024

abbrev pub key_of : Network → Entry → ℕ
key_of net e = key net (erase e)

-- the orders and generals of an entry are below 16
abbrev pub IsSmall : LogEntry → Type 0
IsSmall (Started general None) = Unit {0}
IsSmall (Started general (Some v)) = v < 16
IsSmall (Signed order path) = order < 16
IsSmall (Sent to order path) = (to < 16) × (order < 16)
IsSmall (Received from order path) = (from < 16) × (order < 16)
IsSmall (Decided orders order) = Unit {0}
