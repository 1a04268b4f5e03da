-- The fields of a script line after its word. Of each field the first fault is told: that it does not read
-- comes before its own rule.
use Rattle.std.specs.Prelude.{ℕ, ◌&&◌, List, [], ◌∷◌, Option, Some, None, Result, Ok, Err, nat_lt, nat_le}
use Rattle.std.specs.List.{list_any}
use Rattle.hex.specs.Hex.{decode_of}
use Rattle.hex.specs.declared.error.FromHexError.{FromHexError}
use Rattle.gen_types.specs.Reading.{◌>>=◌, check}
use Rattle.gen_types.specs.Texts.{number_of}
use Rattle.gen_net.specs.Network.{Network, rounds}
use Rattle.gen_net.specs.Edges.{joins}
use Rattle.gen_script.specs.declared.fault.ScriptFault.{ScriptFault}
use Rattle.gen_script.specs.declared.fault.ScriptFault.TheVariants.{Number, BadRound, NoNeighbour, BadOrder}

-- a number that was read, or the fault that there is none
abbrev pub known_number : Option ℕ → Result ℕ ScriptFault
known_number None = Err Number
known_number (Some n) = Ok n

abbrev pub number_in : List ℕ → Result ℕ ScriptFault
number_in digits = known_number (number_of digits)

-- the number of a round, from the first that is allowed to the last
unfoldable pub round_in : Network → ℕ → List ℕ → Result ℕ ScriptFault
round_in net first digits = do
  round ← number_in digits
  known ← check (nat_le first round && nat_le round (rounds net)) BadRound
  Ok round

-- the number of a neighbour of g
unfoldable pub neighbour_in : Network → ℕ → List ℕ → Result ℕ ScriptFault
neighbour_in net g digits = do
  h ← number_in digits
  near ← check (list_any (joins g h) net.edges) NoNeighbour
  Ok h

-- the number of an order of the network
unfoldable pub order_in : Network → List ℕ → Result ℕ ScriptFault
order_in net digits = do
  v ← number_in digits
  known ← check (nat_lt v net.orders) BadOrder
  Ok v

-- the bytes of a parcel, at least one
abbrev pub some_bytes : Result (List ℕ) FromHexError → Result (List ℕ) ScriptFault
some_bytes (Err e) = Err Number
some_bytes (Ok []) = Err Number
some_bytes (Ok (b ∷ more)) = Ok (b ∷ more)

abbrev pub parcel_in : List ℕ → Result (List ℕ) ScriptFault
parcel_in digits = some_bytes (decode_of digits)
