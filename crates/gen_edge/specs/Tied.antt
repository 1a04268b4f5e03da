-- The rule of an edge: what was put is what was taken, and then what the queue holds.
use Rattle.std.specs.Prelude.{◌≡◌, ℕ, ◌+◌, ◌-◌, ◌<◌, ◌≤◌, Bool, true, false, List, [], ◌++◌, map, length}
use mathlib.Core.Option.{some}
use lib.ListN.{get_elem?}
use Rattle.gen_edge.specs.declared.frames.Frame.{Frame}
use Rattle.gen_edge.specs.declared.rule.PassView.{PassView}
use Rattle.gen_edge.specs.Frames.{Parcels, Carried, round, gone, carried, row}

-- ---- what a pass knows

-- the one pass of an edge before the edge is opened: it may put and take, and knows no frames
abbrev pub unopened : PassView
unopened = record {
  puts = true;
  takes = true;
  frames = [];
  put = 0;
  gone_put = false;
  freed = 0;
  taken = 0;
  gone_taken = false;
  known = 0;
  known_gone = false;
}

-- a pass that may do nothing
abbrev pub spent_side : PassView
spent_side = record unopened { puts = false; takes = false }

-- the pass to put: n of these frames were put and then, if `ended`, the last word; it was told nothing
abbrev pub put_side : List Parcels → ℕ → Bool → PassView
put_side frames n ended = record unopened { takes = false; frames = frames; put = n; gone_put = ended }

-- the pass to take: n of these frames were taken and then, if `ended`, the last word; it was told nothing
abbrev pub take_side : List Parcels → ℕ → Bool → PassView
take_side frames n ended = record unopened { puts = false; frames = frames; taken = n; gone_taken = ended }

-- the two passes of a new edge
abbrev pub putter : List Parcels → PassView
putter frames = put_side frames 0 false

abbrev pub taker : List Parcels → PassView
taker frames = take_side frames 0 false

-- one pass for both sides, made of a pass to put and a pass to take
abbrev pub both_sides : PassView → PassView → PassView
both_sides v w = record v { takes = true; taken = w.taken; gone_taken = w.gone_taken }

-- ---- what one pass is told of the other

-- what a pass to put can tell: how many frames were put, and whether the last word was put
abbrev pub news_of_puts : PassView → PassView
news_of_puts v = record spent_side { known = v.put; known_gone = v.gone_put }

-- what a pass to take can tell: how many frames were taken
abbrev pub news_of_takes : PassView → PassView
news_of_takes v = record spent_side { freed = v.taken }

-- a pass to take after it was told how much was put
abbrev pub puts_heard : PassView → PassView → PassView
puts_heard v w = record v { known = w.known; known_gone = w.known_gone }

-- a pass to put after it was told how many frames were taken
abbrev pub takes_heard : PassView → PassView → PassView
takes_heard v w = record v { freed = w.freed }

-- a pass to take that was told all that the pass to put has put
abbrev pub taker_told : PassView → PassView → PassView
taker_told v w = record v { known = w.put; known_gone = w.gone_put }

-- a pass to put that was told all frames that the pass to take has taken
abbrev pub putter_told : PassView → PassView → PassView
putter_told v w = record v { freed = w.taken }

-- ---- what one step does

-- these are the number and the parcels of the run's frame that follows its first n frames
abbrev pub IsFrame : List Parcels → ℕ → ℕ → Parcels → Type 0
IsFrame frames n number parcels = (number ≡ n + 1) × (get_elem? frames n ≡ some parcels)

-- x is the run's frame of that number
abbrev pub IsRunFrame : List Parcels → ℕ → Carried → Type 0
IsRunFrame frames number x =
    (p : Parcels) × (x ≡ round number p) × (0 < number) × (get_elem? frames (number - 1) ≡ some p)

-- x may come next behind n frames: it is the run's next frame or the last word, and the last word did not
-- come yet
abbrev pub ComesNext : List Parcels → ℕ → Bool → Carried → Type 0
ComesNext frames n ended (round number parcels) = (ended ≡ false) × IsFrame frames n number parcels
ComesNext frames n ended gone = ended ≡ false

-- a pass to put after it put this
abbrev pub after_put : PassView → Carried → PassView
after_put v (round number parcels) = record v { put = v.put + 1 }
after_put v gone = record v { gone_put = true }

-- a pass to take after it took this
abbrev pub after_take : PassView → Carried → PassView
after_take v (round number parcels) = record v { taken = v.taken + 1 }
after_take v gone = record v { gone_taken = true }

-- a step that puts
abbrev pub PutsNext : PassView → Frame → PassView → Type 0
PutsNext v x w = w ≡ after_put v (carried x)

-- a step that takes: what comes is something that may come next
abbrev pub TakesNext : PassView → Frame → PassView → Type 0
TakesNext v x w = ComesNext v.frames v.taken v.gone_taken (carried x) × (w ≡ after_take v (carried x))

-- ---- what a look at the queue tells

-- what one pass with both sides learns: what was put is what was taken, followed by what the queue holds
abbrev pub Rests : PassView → List Frame → Type 0
Rests v items = row v.frames v.put v.gone_put ≡ row v.frames v.taken v.gone_taken ++ map carried items

-- what a pass to put learns: what was put is what was taken, followed by what the queue holds, where at least
-- as many frames were taken as the pass was told of
abbrev pub PutsSee : PassView → List Frame → Type 0
PutsSee v items =
    (taken : ℕ) × (gone_taken : Bool)
    × (v.freed ≤ taken)
    × (taken ≤ v.put)
    × (row v.frames v.put v.gone_put ≡ row v.frames taken gone_taken ++ map carried items)

-- the pass was told of no more than was put
abbrev pub Known : PassView → ℕ → Bool → Type 0
Known v put gone_put = (v.known ≤ put) × (v.known_gone ≡ true → gone_put ≡ true)

-- what a pass to take learns: what was put is what was taken, followed by what the queue holds, where at
-- least as much was put as the pass was told of
abbrev pub TakesSee : PassView → List Frame → Type 0
TakesSee v items =
    (put : ℕ) × (gone_put : Bool)
    × (v.taken ≤ put)
    × (put ≤ length v.frames)
    × Known v put gone_put
    × (row v.frames put gone_put ≡ row v.frames v.taken v.gone_taken ++ map carried items)

-- ---- the rule

-- the state of an edge: which of its passes puts and which takes, the frames of the run, and how much was put
-- and taken
pub record State : Type 0 where
  pub writer : ℕ
  pub reader : ℕ
  pub frames : List Parcels
  pub put : ℕ
  pub gone_put : Bool
  pub taken : ℕ
  pub gone_taken : Bool

-- A pass fits the state. If it may put, it is the pass that puts and knows how much was put. If it may take,
-- it is the pass that takes and knows how much was taken. It was told of no more than was put and taken.
pub record Fits (s : State) (port : ℕ) (v : PassView) : Type 0 where
  pub putting : v.puts ≡ true
      → (port ≡ s.writer) × (v.frames ≡ s.frames) × (v.put ≡ s.put) × (v.gone_put ≡ s.gone_put)
  pub taking : v.takes ≡ true
      → (port ≡ s.reader) × (v.frames ≡ s.frames) × (v.taken ≡ s.taken) × (v.gone_taken ≡ s.gone_taken)
  pub known : Known v s.put s.gone_put
  pub freed : v.freed ≤ s.taken

-- what was put is what was taken, followed by what the queue holds, and nothing comes behind the last word
pub record Counted (s : State) (items : List Frame) : Type 0 where
  pub rests : row s.frames s.put s.gone_put ≡ row s.frames s.taken s.gone_taken ++ map carried items
  pub within : s.put ≤ length s.frames
  pub behind : s.taken ≤ s.put
  pub last : s.gone_taken ≡ true → items ≡ []
  pub after : s.gone_taken ≡ true → s.gone_put ≡ true

-- the rule itself: there is one state that all passes fit, and that agrees with what the queue holds
abbrev pub Tied : List Frame → List PassView → Type 0
Tied items views =
    (s : State)
    × Counted s items
    × ((port : ℕ) (v : PassView) → get_elem? views port ≡ some v → Fits s port v)
