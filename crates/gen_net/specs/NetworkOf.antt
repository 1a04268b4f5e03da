-- Which numbers and edges make a network, and which rule the others break first.
use Rattle.std.specs.Prelude.{ℕ, ◌+◌, Bool, not, ◌&&◌, List, Option, Some, None, Result, Ok, Err, nat_le}
use Rattle.gen_types.specs.declared.choices.ChoiceKind.{ChoiceKind}
use Rattle.gen_types.specs.ChoiceOf.{choice_numbered}
use Rattle.gen_types.specs.Reading.{◌>>=◌, check}
use Rattle.gen_net.specs.declared.fault.HeaderFault.{HeaderFault}
use Rattle.gen_net.specs.declared.fault.HeaderFault.TheVariants.{GeneralCount, BadEdge, TraitorCount, DiameterRange, RoundCount, OrderCount, UnknownChoice}
use Rattle.gen_net.specs.declared.numbers.NetNumbers.{NetNumbers}
use Rattle.gen_net.specs.Edges.{has_bad_edge, edges_of, in_place}
use Rattle.gen_net.specs.Network.{Network}

-- the number is at least the first of two numbers and at most the second
abbrev pub is_within : ℕ → ℕ → ℕ → Bool
is_within least greatest number = nat_le least number && nat_le number greatest

-- the choice that was found for a number, or UnknownChoice
abbrev pub known_choice : Option ChoiceKind → Result ChoiceKind HeaderFault
known_choice None = Err UnknownChoice
known_choice (Some choice) = Ok choice

-- the choice, if all numbers are in their ranges and no edge is bad; or the first rule that is broken
unfoldable pub ranges_of : NetNumbers → Bool → Result ChoiceKind HeaderFault
ranges_of numbers good_edges = do
  generals ← check (is_within 2 16 numbers.generals) GeneralCount
  edges ← check good_edges BadEdge
  traitors ← check (nat_le numbers.traitors 8) TraitorCount
  diameter ← check (is_within 1 15 numbers.diameter) DiameterRange
  rounds ← check (nat_le (numbers.traitors + numbers.diameter) 16) RoundCount
  orders ← check (is_within 2 15 numbers.orders) OrderCount
  known_choice (choice_numbered numbers.choice)

-- the network of these numbers and edges with this choice
abbrev pub network_with : NetNumbers → List (ℕ × ℕ) → ChoiceKind → Network
network_with numbers edges choice = record {
  generals = numbers.generals;
  edges = edges;
  traitors = numbers.traitors;
  diameter = numbers.diameter;
  orders = numbers.orders;
  choice = choice;
}

-- the network of these numbers and edges, which come in any order and direction; or the first rule that they
-- break
unfoldable pub network_of : NetNumbers → List (ℕ × ℕ) → Result Network HeaderFault
network_of numbers given = do
  choice ← ranges_of numbers (not (has_bad_edge numbers.generals given))
  Ok (network_with numbers (edges_of numbers.generals given) choice)

-- the network of these numbers and edges, which have to stand in their places; or the first rule that they
-- break
unfoldable pub network_in_place : NetNumbers → List (ℕ × ℕ) → Result Network HeaderFault
network_in_place numbers edges = do
  choice ← ranges_of numbers (in_place numbers.generals edges)
  Ok (network_with numbers edges choice)
