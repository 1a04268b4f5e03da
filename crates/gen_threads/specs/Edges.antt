-- The edges of a run, and what the passes of a general may do on them.
use Rattle.std.specs.Prelude.{ℕ, ◌≡◌, ◌+◌, ◌*◌, false, List, Option, Some, None, if◌then◌else◌, nat_lt, slice_index_or}
use Rattle.std.specs.List.{AllZip}
use Rattle.gen_edge.specs.declared.passes.Edge.{Edge}
use Rattle.gen_edge.specs.declared.passes.PutPass.{PutPass}
use Rattle.gen_edge.specs.declared.passes.TakePass.{TakePass}
use Rattle.gen_edge.specs.Ends.{IsPutPassOf, IsTakePassOf, put_view, take_view}
use Rattle.gen_edge.specs.Frames.{edge_frames}
use Rattle.gen_edge.specs.Tied.{put_side, take_side}
use Rattle.gen_net.specs.Network.{Network}
use Rattle.gen_scenario.specs.Scenario.{Scenario}
use Rattle.gen_scenario.specs.SignedWorld.{neighbours_of}
use Rattle.gen_scenario.specs.AllAre.{AllAre}
use Rattle.gen_threads.specs.declared.edges.Edges.{Edges}
use Rattle.gen_threads.specs.declared.edges.Passes.{Passes}

-- the edge from a to b, if there is one: the table has a row for each sender, with a cell for each receiver
abbrev pub edge_at : Edges → ℕ → ℕ → Option Edge
edge_at edges a b =
    if nat_lt b edges.generals
    then slice_index_or edges.table.items (a * edges.generals + b) None
    else None

-- the pass is one to put on the edge from a to b, or one to take from it
pub record IsPutOn (edges : Edges) (a b : ℕ) (pass : PutPass) : Type 0 where
  pub edge : Edge
  pub there : edge_at edges a b ≡ Some edge
  pub of_edge : IsPutPassOf edge pass

pub record IsTakeFrom (edges : Edges) (a b : ℕ) (pass : TakePass) : Type 0 where
  pub edge : Edge
  pub there : edge_at edges a b ≡ Some edge
  pub of_edge : IsTakePassOf edge pass

-- besides, the first n frames of the run were put by this pass, or taken by it, and no last word
pub record HasPut (edges : Edges) (s : Scenario) (n a b : ℕ) (pass : PutPass) : Type 0 where
  pub on : IsPutOn edges a b pass
  pub view : put_view pass ≡ put_side (edge_frames s a b) n false

pub record HasTaken (edges : Edges) (s : Scenario) (n a b : ℕ) (pass : TakePass) : Type 0 where
  pub on : IsTakeFrom edges a b pass
  pub view : take_view pass ≡ take_side (edge_frames s a b) n false

-- general g takes by this pass from general h
abbrev pub IsTakeBy : Edges → ℕ → ℕ → TakePass → Type 0
IsTakeBy edges g h pass = IsTakeFrom edges h g pass

abbrev pub HasTakenBy : Edges → Scenario → ℕ → ℕ → ℕ → TakePass → Type 0
HasTakenBy edges s n g h pass = HasTaken edges s n h g pass

-- the passes of a general of a network, one for each neighbour in ascending order
pub record ArePassesIn (edges : Edges) (net : Network) (g : ℕ) (puts : List PutPass) (takes : List TakePass) :
    Type 0 where
  pub putting : AllZip (IsPutOn edges g) (neighbours_of net g) puts
  pub taking : AllZip (IsTakeBy edges g) (neighbours_of net g) takes

abbrev pub ArePassesOf : Edges → Scenario → ℕ → List PutPass → List TakePass → Type 0
ArePassesOf edges s g puts takes = ArePassesIn edges s.net g puts takes

-- besides, each of these passes has carried n frames
pub record HaveCarried (edges : Edges) (s : Scenario) (n g : ℕ) (puts : List PutPass)
    (takes : List TakePass) : Type 0 where
  pub putting : AllZip (HasPut edges s n g) (neighbours_of s.net g) puts
  pub taking : AllZip (HasTakenBy edges s n g) (neighbours_of s.net g) takes

-- all generals have their passes, by which nothing was put or taken yet
abbrev pub HasNewPasses : Edges → Scenario → ℕ → Passes → Type 0
HasNewPasses edges s g passes = HaveCarried edges s 0 g passes.puts.items passes.takes.items

abbrev pub AllHavePasses : Edges → Scenario → List Passes → Type 0
AllHavePasses edges s all = AllAre (HasNewPasses edges s) s.net.generals all
