-- The parts that values of JSON are made of.
use Rattle.std.specs.Prelude.{ℕ, List, [], ◌∷◌, map, codes}
use Rattle.hex.specs.Hex.{encode_lower}
use Rattle.serde_json.specs.Data.{Data, Members, number, unsigned, string, array, object, member, no_members}
use Rattle.serde_json.specs.View.{items_of}
use Rattle.gen_types.specs.ChoiceOf.{choice_number}
use Rattle.gen_net.specs.Network.{Network}

-- a number
abbrev pub whole : ℕ → Data
whole n = number (unsigned n)

-- a list, item by item
abbrev pub list_of : {A : Type 0} → (A → Data) → List A → Data
list_of f xs = array (items_of (map f xs))

-- a list of numbers
abbrev pub numbers_data : List ℕ → Data
numbers_data ns = list_of whole ns

-- two generals, and a list of such pairs
abbrev pub pair_data : ℕ × ℕ → Data
pair_data pair = numbers_data (pair.0 ∷ pair.1 ∷ [])

abbrev pub pairs_data : List (ℕ × ℕ) → Data
pairs_data pairs = list_of pair_data pairs

-- bytes in hexadecimal digits
abbrev pub digits_data : List ℕ → Data
digits_data bytes = string (encode_lower bytes)

-- fields, each a name and a value
abbrev pub members : List (List ℕ × Data) → Members
members [] = no_members
members (f ∷ fs) = member f.0 f.1 (members fs)

-- an object of these fields, which stand in the order of their names
abbrev pub fields : List (List ℕ × Data) → Data
fields fs = object (members fs)

-- the version of these forms
abbrev pub json_version : ℕ
json_version = 1

-- the numbers of a network
abbrev pub network_data : Network → Data
network_data net = fields (
    (codes "choice", whole (choice_number net.choice))
    ∷ (codes "diameter", whole net.diameter)
    ∷ (codes "generals", whole net.generals)
    ∷ (codes "orders", whole net.orders)
    ∷ (codes "traitors", whole net.traitors)
    ∷ [])
