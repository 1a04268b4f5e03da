-- The edges of a run while they are made, general by general.
use Rattle.std.specs.Prelude.{ℕ, ◌≡◌, ◌≢◌, ◌+◌, ◌*◌, ◌<◌, List, [], ◌∷◌, ◌++◌, Option, length, if◌then◌else◌, nat_lt, slice_index_or}
use Rattle.std.specs.List.{range_with_len, AllZip}
use Rattle.gen_edge.specs.declared.passes.Edge.{Edge}
use Rattle.gen_edge.specs.declared.passes.PutPass.{PutPass}
use Rattle.gen_edge.specs.declared.passes.TakePass.{TakePass}
use Rattle.gen_scenario.specs.Scenario.{Scenario}
use Rattle.gen_scenario.specs.AllAre.{AllAre}
use Rattle.gen_scenario.specs.SignedWorld.{near_of}
use Rattle.gen_threads.specs.declared.edges.Edges.{Edges}
use Rattle.gen_threads.specs.declared.edges.Passes.{Passes}
use Rattle.gen_threads.specs.Edges.{HasPut, HasTakenBy}

-- All edges from generals below `from` are made, and the edges from general `from` to generals below `to`. So
-- a general has passes to put to its neighbours below the one bound, and passes to take from its neighbours
-- below the other.
abbrev pub puts_below : ℕ → ℕ → ℕ → ℕ → ℕ
puts_below n from to g = if nat_lt g from then n else (if nat_lt from g then 0 else to)

abbrev pub takes_below : ℕ → ℕ → ℕ → ℕ
takes_below from to g = if nat_lt g to then from + 1 else from

-- the passes of a general to its neighbours below a bound, and from its neighbours below a bound
abbrev pub ArePutsBelow : Edges → Scenario → ℕ → ℕ → List PutPass → Type 0
ArePutsBelow edges s g below puts =
    AllZip (HasPut edges s 0 g) (near_of s.net g (range_with_len 0 below)) puts

abbrev pub AreTakesBelow : Edges → Scenario → ℕ → ℕ → List TakePass → Type 0
AreTakesBelow edges s g below takes =
    AllZip (HasTakenBy edges s 0 g) (near_of s.net g (range_with_len 0 below)) takes

pub record AreMade (s : Scenario) (from to : ℕ) (edges : Edges) (all : List Passes) : Type 0 where
  pub generals : edges.generals ≡ s.net.generals
  pub count : length edges.table.items ≡ from * s.net.generals + to
  pub passes : length all ≡ s.net.generals
  pub puts : (g : ℕ) (d : Passes) → g < s.net.generals
      → ArePutsBelow edges s g (puts_below s.net.generals from to g) (slice_index_or all g d).puts.items
  pub takes : (g : ℕ) (d : Passes) → g < s.net.generals
      → AreTakesBelow edges s g (takes_below from to g) (slice_index_or all g d).takes.items

-- each of n generals has no pass
abbrev pub AreEmpty : ℕ → List Passes → Type 0
AreEmpty n all = AllAre (λ g passes. (passes.puts.items ≡ []) × (passes.takes.items ≡ [])) n all

-- one cell is appended to the table
pub record HasMore (x : Option Edge) (old new : Edges) : Type 0 where
  pub generals : new.generals ≡ old.generals
  pub table : new.table.items ≡ old.table.items ++ x ∷ []

-- general g has one more pass, and everything else is as it was
pub record HasMorePuts (g : ℕ) (put : PutPass) (old new : List Passes) : Type 0 where
  pub count : length new ≡ length old
  pub puts : (d : Passes) → (slice_index_or new g d).puts.items ≡ (slice_index_or old g d).puts.items
      ++ put ∷ []
  pub takes : (d : Passes) → (slice_index_or new g d).takes.items ≡ (slice_index_or old g d).takes.items
  pub others : (h : ℕ) (d : Passes) → h ≢ g → slice_index_or new h d ≡ slice_index_or old h d

pub record HasMoreTakes (g : ℕ) (take : TakePass) (old new : List Passes) : Type 0 where
  pub count : length new ≡ length old
  pub puts : (d : Passes) → (slice_index_or new g d).puts.items ≡ (slice_index_or old g d).puts.items
  pub takes : (d : Passes) → (slice_index_or new g d).takes.items ≡ (slice_index_or old g d).takes.items
      ++ take ∷ []
  pub others : (h : ℕ) (d : Passes) → h ≢ g → slice_index_or new h d ≡ slice_index_or old h d
