-- Networks in bytes, as they stand in headers.
use Rattle.std.specs.Prelude.{ℕ, List, [], ◌∷◌, ◌++◌, length}
use Rattle.std.specs.List.{flat_map}
use Rattle.gen_types.specs.ChoiceOf.{choice_number}
use Rattle.gen_net.specs.Network.{Network}

-- the spelling of an edge: two bytes
abbrev pub edge_bytes : ℕ × ℕ → List ℕ
edge_bytes e = e.0 ∷ e.1 ∷ []

-- the bytes before the edges: n, m, d, q, the choice and the number of edges
abbrev pub number_bytes : Network → List ℕ
number_bytes net =
    net.generals ∷ net.traitors ∷ net.diameter ∷ net.orders ∷ choice_number net.choice
    ∷ length net.edges ∷ []

-- the one spelling of a network: its numbers, then its edges
abbrev pub network_bytes : Network → List ℕ
network_bytes net = number_bytes net ++ flat_map edge_bytes net.edges
