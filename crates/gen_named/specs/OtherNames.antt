-- A run with a traitor in which no value has a name at both lieutenants. There are three generals, all
-- neighbours, and the commander is faulty: it gives values 0 and 1 to general 1, and values 2 and 3 to
-- general 2. Each lieutenant names its two values, and relays them in round 2. What the other relays comes
-- when both names are given.
use Rattle.std.specs.Prelude.{ℕ, ◌≡◌, ◌+◌, ◌==◌, if◌then◌else◌, ◌⊎◌, [], ◌∷◌, Some, None}
use Rattle.gen_types.specs.declared.choices.ChoiceKind.TheVariants.{Only}
use Rattle.gen_net.specs.Network.{Network}
use Rattle.gen_net.specs.declared.message.Message.{Message}
use Rattle.gen_net.specs.Run.{Run, Accepts}
use Rattle.gen_net.specs.Follows.{Relays}
use Rattle.gen_named.specs.Named.{Names, Part, DecidesValue}
use Rattle.gen_named.specs.Theorem.{Case, IsLoyalLieutenant}

-- three generals, all neighbours, with m = 1, d = 1 and three orders
abbrev pub three : Network
three = record {
  generals = 3;
  edges = (0, 1) ∷ (0, 2) ∷ (1, 2) ∷ [];
  traitors = 1;
  diameter = 1;
  orders = 3;
  choice = Only;
}

-- what the commander sends in round 1, and what a lieutenant sends in round 2
abbrev pub given : ℕ → ℕ → Message
given to v = record { from = 0; to = to; order = v; path = 0 ∷ [] }

abbrev pub relayed : ℕ → ℕ → ℕ → Message
relayed from to v = record { from = from; to = to; order = v; path = 0 ∷ from ∷ [] }

abbrev pub four_values : Run
four_values =
    given 1 0 ∷ given 1 1 ∷ given 2 2 ∷ given 2 3
    ∷ relayed 1 2 0 ∷ relayed 1 2 1 ∷ relayed 2 1 2 ∷ relayed 2 1 3 ∷ []

-- the names of a general whose value of order 1 is this one, and of order 2 the next
abbrev pub pair : ℕ → Names
pair v i = if i == 1 then Some v else (if i == 2 then Some (v + 1) else None)

-- a lieutenant's messages under its names: two from the commander, two to the other lieutenant
abbrev pub own_messages : ℕ → ℕ → Run
own_messages g other = given g 1 ∷ given g 2 ∷ relayed g other 1 ∷ relayed g other 2 ∷ []

abbrev pub part_of : ℕ → Part
part_of g = if g == 1
    then record { names = pair 0; mine = own_messages 1 2; conduct = Relays (λ i. 0 ∷ []) }
    else record { names = pair 2; mine = own_messages 2 1; conduct = Relays (λ i. 0 ∷ []) }

abbrev pub other_names_case : Case
other_names_case = record {
  bound = 4;
  net = three;
  faulty = 0 ∷ [];
  run = four_values;
  parts = part_of;
}

-- each lieutenant takes two orders, no value has a name at both, and both decide RETREAT
pub record NamesDiffer : Type 0 where
  pub taken : (g i : ℕ) → IsLoyalLieutenant other_names_case g → (i ≡ 1) ⊎ (i ≡ 2)
      → Accepts three (part_of g).mine g i
  pub apart : (i j v : ℕ) → (part_of 1).names i ≡ Some v → (part_of 2).names j ≡ Some v → ⊥
  pub retreat : (g : ℕ) → IsLoyalLieutenant other_names_case g → DecidesValue three g (part_of g) None
