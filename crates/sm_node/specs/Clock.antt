-- What is told of the run that a node begins next.
use Rattle.std.specs.Prelude.{ℕ, ◌≡◌, ◌-◌, ◌^◌, ◌==◌, ◌⊎◌, if◌then◌else◌, Option, Some, None, ℤ, pos}
use Rattle.gen_node.specs.declared.clock.Timetable.{Timetable}
use Rattle.gen_node.specs.Clock.{IsNext, IsNoneLeft, beginning}

-- in place of a run: there is none
abbrev pub no_run : ℕ
no_run = 2 ^ 32 - 1

-- the mark that a number says
abbrev pub mark_of : ℕ → Option ℕ
mark_of mark = if mark == no_run then None else Some mark

-- The number is 0, and the run that a node with this mark begins next is told, and when it begins. Or the
-- number is 1, the node may begin no run, and none is told.
abbrev pub TellsNext : Timetable → ℤ → Option ℕ → ℕ → ℤ → ℕ → Type 0
TellsNext t now mark run begins status =
    (status ≡ 0) × IsNext t now mark run × (begins ≡ beginning t run)
    ⊎ (status ≡ 1) × IsNoneLeft t now mark × (run ≡ no_run) × (begins ≡ pos 0)
