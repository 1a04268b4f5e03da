-- What is found in a bundle of logs.
use Rattle.std.specs.Prelude.{ℕ, ◌≡◌, List, [], ◌∷◌, ◌++◌, length, Contains, Ok, Err}
use Rattle.std.specs.List.{AllByRecursion}
use Rattle.gen_types.specs.Ascending.{IsListOf}
use Rattle.gen_net.specs.Header.{RunHeader}
use Rattle.gen_net.specs.Departs.{DepartsAt}
use Rattle.gen_walks.specs.Walks.{Bridges, IsLeastBadPair}
use Rattle.gen_log.specs.declared.entries.Entry.{Entry}
use Rattle.gen_log.specs.Links.{HeadVerifies}
use Rattle.gen_log.specs.Log.{RunLog}
use Rattle.gen_log.specs.LogReading.{log_of}
use Rattle.gen_log.specs.Verifying.{SaysItIsOf, EntryVerifies}
use Rattle.gen_local.specs.Erased.{erased}
use Rattle.gen_log.specs.Writing.{LogBytes}
use Rattle.gen_match.specs.declared.finding.Finding.{Finding}
use Rattle.gen_match.specs.declared.finding.Finding.TheVariants.{Missing, Several, Unreadable, Foreign, Unsigned, Unsealed, Departs, Unmatched, Underivable, Unjoined, Nobody}
use Rattle.gen_match.specs.Matching.{IsUnmatched, IsUnderivable}
use Rattle.gen_audit.specs.Bundle.{Bundle, IsOfRest, exhibits_of, logs_of}

-- g is of the rest, and one of g's exhibits reads to this log; and such a log says that it is g's of this run
pub record Shows (b : Bundle) (g : ℕ) (log : RunLog) : Type 0 where
  pub of_rest : IsOfRest b g
  pub exhibit : LogBytes
  pub his : Contains (exhibits_of b.exhibits g) exhibit
  pub reads : log_of b.header exhibit.bytes ≡ Ok log

pub record ShowsOwn (b : Bundle) (g : ℕ) (log : RunLog) : Type 0 where
  pub shows : Shows b g log
  pub says : SaysItIsOf b.header g log

-- entry p is the first with a signature that doesn't verify
pub record FailsAt (h : RunHeader) (entries : List Entry) (p : ℕ) : Type 0 where
  pub before : List Entry
  pub entry : Entry
  pub behind : List Entry
  pub parts : entries ≡ before ++ entry ∷ behind
  pub index : length before ≡ p
  pub verified : AllByRecursion (EntryVerifies h) before
  pub fails : EntryVerifies h entry → ⊥

-- a and c are the least pair of the rest that no walk joins inside the rest by at most d edges
abbrev pub IsUnjoined : Bundle → ℕ → ℕ → Type 0
IsUnjoined b a c =
    (rest : List ℕ) × IsListOf rest (IsOfRest b)
    × IsLeastBadPair b.header.network rest (Bridges b.header.network rest b.walks) a c

-- this is found in the bundle
abbrev pub IsFinding : Bundle → Finding → Type 0
IsFinding b (Missing g) = IsOfRest b g × (exhibits_of b.exhibits g ≡ [])
IsFinding b (Several g) =
    IsOfRest b g × ((x y : LogBytes) × (more : List LogBytes) × (exhibits_of b.exhibits g ≡ x ∷ y ∷ more))
IsFinding b (Unreadable g fault) =
    IsOfRest b g
    × ((x : LogBytes) × Contains (exhibits_of b.exhibits g) x × (log_of b.header x.bytes ≡ Err fault))
IsFinding b (Foreign g) = (log : RunLog) × Shows b g log × (SaysItIsOf b.header g log → ⊥)
IsFinding b (Unsigned g p) = (log : RunLog) × ShowsOwn b g log × FailsAt b.header log.entries p
IsFinding b (Unsealed g) = (log : RunLog) × ShowsOwn b g log × (HeadVerifies b.header g log → ⊥)
IsFinding b (Departs g p) =
    (log : RunLog) × ShowsOwn b g log × DepartsAt b.header.network g (erased log.entries) p
IsFinding b (Unmatched a c l v) = IsUnmatched b.header.network b.faulty (logs_of b) a c l v
IsFinding b (Underivable a c l v) = IsUnderivable b.header.network b.faulty (logs_of b) a c l v
IsFinding b (Unjoined a c) = IsUnjoined b a c
IsFinding b Nobody = (g : ℕ) → IsOfRest b g → ⊥
