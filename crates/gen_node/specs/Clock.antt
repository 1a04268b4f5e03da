-- When the runs of a system begin, and which of them a node begins next.
use Rattle.std.specs.Prelude.{ℕ, ◌≤◌, ◌<◌, ◌*◌, ◌^◌, List, [], ◌∷◌, Option, Some, None}
use Rattle.std.specs.Prelude.{ℤ, pos, ◌+ℤ◌, ◌≤ℤ◌, ◌<ℤ◌}
use Rattle.gen_node.specs.declared.clock.Timetable.{Timetable}

-- the most runs that a system has: four for each of 2 ^ 20 sets of keys
abbrev pub most_runs : ℕ
most_runs = 4 * 2 ^ 20

-- when a run begins: run 0 at the start, and each other one a period after the one before
abbrev pub beginning : Timetable → ℕ → ℤ
beginning t run = t.start +ℤ pos (run * t.period)

-- The run has a number above the mark. The mark is the number of the newest run that was begun, if one was.
abbrev pub IsAbove : Option ℕ → ℕ → Type 0
IsAbove None run = Unit
IsAbove (Some mark) run = mark < run

-- A node with this mark may begin the run, as the clock now stands: the run is above the mark, a system may
-- have it, and it begins now or later, at a time that fits into 64 bits.
pub record MayBegin (t : Timetable) (now : ℤ) (mark : Option ℕ) (run : ℕ) : Type 0 where
  pub above : IsAbove mark run
  pub is_run : run < most_runs
  pub not_past : now ≤ℤ beginning t run
  pub is_time : beginning t run <ℤ pos (2 ^ 63)

-- the run is the least that the node may begin
pub record IsNext (t : Timetable) (now : ℤ) (mark : Option ℕ) (run : ℕ) : Type 0 where
  pub may : MayBegin t now mark run
  pub least : (other : ℕ) → MayBegin t now mark other → run ≤ other

-- the node may begin no run
abbrev pub IsNoneLeft : Timetable → ℤ → Option ℕ → Type 0
IsNoneLeft t now mark = (run : ℕ) → MayBegin t now mark run → ⊥

-- A node with this mark began these runs one after another, each as the next when the clock stood so. The
-- clock may stand anyhow each time. A run that is begun is the mark from then on.
unfoldable pub AreBegun : Timetable → Option ℕ → List ℤ → List ℕ → Type 0
AreBegun t mark [] [] = Unit
AreBegun t mark [] (run ∷ runs) = ⊥
AreBegun t mark (now ∷ later) [] = ⊥
AreBegun t mark (now ∷ later) (run ∷ runs) = IsNext t now mark run × AreBegun t (Some run) later runs
