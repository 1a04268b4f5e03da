-- The laws of next runs: they are above the mark, the same for all, and go up.
use Rattle.std.proofs.Common.{◌≡◌, ◌<◌, ◌≤◌, ℕ, ℤ, List, [], ◌∷◌, Option, Some, All, AllPairs, arith}
use Rattle.std.proofs.lemmas.List.Elements.{All-cons, All-nil, All-weaker}
use Rattle.std.proofs.lemmas.List.Kept.{AllPairs-cons}
use Rattle.gen_node.specs.Clock.{AreBegun, IsAbove, IsNext, MayBegin}
use Rattle.gen_node.specs.declared.clock.Timetable.{Timetable}

pub next_is_above : (t : Timetable) (now : ℤ) (mark : Option ℕ) (run : ℕ) → IsNext t now mark run → IsAbove mark run
next_is_above t now mark run next = next.may.above

-- a node that may begin a run may begin it with another mark below it
with_mark : (t : Timetable) (now : ℤ) (mark other : Option ℕ) (run : ℕ) → MayBegin t now mark run → IsAbove other run → MayBegin t now other run
with_mark t now mark other run may above =
    record { above = above; is_run = may.is_run; not_past = may.not_past; is_time = may.is_time }

pub next_is_same : (t : Timetable) (now : ℤ) (mark other : Option ℕ) (run next : ℕ)
    → IsNext t now mark run → IsNext t now other next → IsAbove other run → IsAbove mark next → run ≡ next
next_is_same t now mark other run next one two run_above next_above =
    let up : run ≤ next = one.least next (with_mark t now other mark next two.may next_above) in
    let down : next ≤ run = two.least run (with_mark t now mark other run one.may run_above) in
    omega arith

-- all runs that are begun with a mark are above it
all_above : (t : Timetable) (mark : ℕ) (clock : List ℤ) (runs : List ℕ) → AreBegun t (Some mark) clock runs → All (λ run. mark < run) runs
unfolding AreBegun
all_above t mark [] [] begun = All-nil (λ run. mark < run)
all_above t mark [] (run ∷ runs) begun = absurd begun
all_above t mark (now ∷ later) [] begun = absurd begun
all_above t mark (now ∷ later) (run ∷ runs) begun =
    let first : mark < run = next_is_above t now (Some mark) run begun.0 in
    let others : All (λ other. run < other) runs = all_above t run later runs begun.1 in
    All-cons (λ other. mark < other) run runs first (All-weaker (λ other. run < other) (λ other. mark < other) (λ other above. omega (arith, first, above)) runs others)

pub runs_go_up : (t : Timetable) (mark : Option ℕ) (clock : List ℤ) (runs : List ℕ) → AreBegun t mark clock runs → AllPairs (λ a b. a < b) runs
unfolding AreBegun
runs_go_up t mark [] [] begun = λ i j d before below. absurd (omega arith)
runs_go_up t mark [] (run ∷ runs) begun = absurd begun
runs_go_up t mark (now ∷ later) [] begun = absurd begun
runs_go_up t mark (now ∷ later) (run ∷ runs) begun =
    AllPairs-cons (λ a b. a < b) run runs (all_above t run later runs begun.1) (runs_go_up t (Some run) later runs begun.1)
