-- What the generals' threads are started with, what they promise, and what comes of them.
use Rattle.std.specs.Prelude.{ℕ, ◌≡◌, ◌+◌, ◌<◌, List, [], ◌∷◌, ◌++◌, length, Some, IfOk, OnOk, slice_index_or}
use Rattle.std.specs.declared.thread.PromisedHandle.{PromisedHandle}
use Rattle.gen_tree.specs.Rings.{Ring}
use Rattle.gen_scenario.specs.Scenario.{Scenario}
use Rattle.gen_scenario.specs.AllAre.{AllAre}
use Rattle.gen_threads.specs.declared.edges.Edges.{Edges}
use Rattle.gen_threads.specs.declared.edges.Passes.{Passes}
use Rattle.gen_threads.specs.declared.works.EndsAs.{EndsAs}
use Rattle.gen_threads.specs.declared.works.Turn.{Turn}
use Rattle.gen_threads.specs.declared.works.Turn.TheVariants.{Ended, Back}
use Rattle.gen_threads.specs.declared.works.Work.{Work}
use Rattle.gen_threads.specs.Edges.{ArePassesOf, HasNewPasses}
use Rattle.gen_threads.specs.declared.ends.GeneralEnd.{GeneralEnd}
use Rattle.gen_threads.specs.Ending.{logs_by}
use Rattle.gen_threads.specs.HeldRings.{IsAfterRun, MayServe, ring_in}
use Rattle.gen_threads.specs.Parts.{RunPart}

-- one part for each general
abbrev pub AreParts : Scenario → List RunPart → Type 0
AreParts s = AllAre (λ g part. part ≡ record { scenario = s; me = g }) s.net.generals

-- general g may begin with this ring, which was handed in for it, and with these passes
pub record IsWork (edges : Edges) (s : Scenario) (rings : List Ring) (g : ℕ) (work : Work) : Type 0 where
  pub ring : work.ring ≡ ring_in rings g
  pub serves : MayServe s g work.ring
  pub passes : HasNewPasses edges s g work.passes

abbrev pub AreWorks : Edges → Scenario → List Ring → List Work → Type 0
AreWorks edges s rings = AllAre (IsWork edges s rings) s.net.generals

-- what a general that was started with this ring leaves: if there is no fault, its logs of the run, and the
-- ring as the run leaves it
pub record HasRun (s : Scenario) (g : ℕ) (old : Ring) (end : GeneralEnd) : Type 0 where
  pub logs : IfOk end.logs (λ logs. logs.items ≡ logs_by s g)
  pub ring : OnOk end.logs ((new : Ring) × (end.ring ≡ Some new) × IsAfterRun s g old new)

-- one ring is appended: the general's, as the run leaves it
pub record HasMoreRing (s : Scenario) (g : ℕ) (held : Ring) (old new : List Ring) : Type 0 where
  pub ring : Ring
  pub after : IsAfterRun s g held ring
  pub added : new ≡ old ++ ring ∷ []

-- the general has ended, or its work came back with its passes
abbrev pub IsTurn : Edges → Scenario → List Ring → ℕ → Turn → Type 0
IsTurn edges s rings g (Ended end) = HasRun s g (ring_in rings g) end
IsTurn edges s rings g (Back work) = ArePassesOf edges s g work.passes.puts.items work.passes.takes.items

-- this holds of the generals from one on: the first element of the list belongs to general `from`
abbrev pub PassesFrom : Edges → Scenario → ℕ → List Passes → Type 0
PassesFrom edges s from all =
    (k : ℕ) (d : Passes) → k < length all → HasNewPasses edges s (from + k) (slice_index_or all k d)

module _ (edges : Edges) (s : Scenario) (rings : List Ring) where
  abbrev pub WorksFrom : ℕ → List Work → Type 0
  WorksFrom from works =
      (k : ℕ) (d : Work) → k < length works → IsWork edges s rings (from + k) (slice_index_or works k d)

  abbrev pub TurnsFrom : ℕ → List Turn → Type 0
  TurnsFrom from turns =
      (k : ℕ) (d : Turn) → k < length turns → IsTurn edges s rings (from + k) (slice_index_or turns k d)

  abbrev pub IsPromise : ℕ → EndsAs → Type 0
  IsPromise g p =
      (p.me ≡ g) × (p.edges.now ≡ edges) × (p.scenario.now ≡ s) × (p.rings.now.value.items ≡ rings)

  abbrev pub PromisedFrom : ℕ → List (PromisedHandle Turn EndsAs) → Type 0
  PromisedFrom from handles =
      (k : ℕ) (d : _) → k < length handles → IsPromise (from + k) (slice_index_or handles k d).promise

  abbrev pub ArePromised : List (PromisedHandle Turn EndsAs) → Type 0
  ArePromised = PromisedFrom 0
