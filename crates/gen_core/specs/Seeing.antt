-- What a lieutenant sees of a run, round by round, and what it adds and decides.
use Rattle.std.specs.Prelude.{ℕ, ◌≡◌, ◌≤◌, ◌↔◌, List, Contains, Option, Some, slice_get}
use Rattle.gen_types.specs.Ascending.{IsListOf}
use Rattle.gen_types.specs.declared.choices.ChoiceKind.{ChoiceKind}
use Rattle.gen_net.specs.Network.{Network, rounds}
use Rattle.gen_net.specs.declared.message.Message.{Message}
use Rattle.gen_net.specs.Run.{Run, Arrives, OrderArrives, Adds, IsRun}
use Rattle.gen_core.specs.declared.arrivals.Seen.{Seen}

-- what a lieutenant keeps: its number, the number of all rounds and of those that have gone, the orders that
-- arrived, and its choice
pub record Lieutenant : Type 0 where
  pub me : ℕ
  pub rounds : ℕ
  pub gone : ℕ
  pub known : List ℕ
  pub choice : ChoiceKind

-- what always holds of the two numbers of rounds: those that have gone, and all
pub record IsKept (gone all : ℕ) : Type 0 where
  pub within : gone ≤ all
  pub limit : all ≤ 16

-- the list is what arrives at g in round l
abbrev pub AreArrivals : Run → ℕ → ℕ → List Seen → Type 0
AreArrivals run g l seen =
    (s : Seen) → Contains seen s
    ↔ Arrives run g l (record { from = s.from; to = g; order = s.order; path = s.path })

-- the lieutenant has seen the rounds of the run that have gone, and knows exactly the orders that arrived in
-- them
pub record HasSeen (net : Network) (run : Run) (state : Lieutenant) : Type 0 where
  pub run_of_net : IsRun net run
  pub few_orders : net.orders ≤ 15
  pub rounds : state.rounds ≡ rounds net
  pub choice : state.choice ≡ net.choice
  pub known : IsListOf state.known (λ v. (k : ℕ) × (k ≤ state.gone) × OrderArrives run state.me k v)

-- this path is picked for this order
abbrev pub Picked : List (Option (List ℕ)) → ℕ → List ℕ → Type 0
Picked adds v path = slice_get adds v ≡ Some (Some path)

-- the path is that of the message of this order that arrives at g in round l from the least sender
pub record IsFromLeast (run : Run) (g l v : ℕ) (path : List ℕ) : Type 0 where
  pub from : ℕ
  pub arrives : Arrives run g l (record { from = from; to = g; order = v; path = path })
  pub least : (message : Message) → Arrives run g l message → message.order ≡ v → from ≤ message.from

-- the list picks exactly for the orders that g adds in round l a path, which is the one from the least sender
abbrev pub AreAdds : Run → ℕ → ℕ → List (Option (List ℕ)) → Type 0
AreAdds run g l adds =
    (v : ℕ) (path : List ℕ) → Picked adds v path ↔ (Adds run g l v × IsFromLeast run g l v path)
