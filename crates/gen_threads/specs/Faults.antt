-- Why a general or a run has no logs.
use Rattle.std.specs.Prelude.{◌≡◌, ◌⊎◌, true, List, [], ◌∷◌, Any, Result, Ok, Err}
use Rattle.gen_edge.specs.declared.passes.TakePass.{TakePass}
use Rattle.gen_edge.specs.Ends.{take_view}
use Rattle.gen_threads.specs.declared.ends.RunFault.{RunFault}
use Rattle.gen_threads.specs.declared.ends.RunFault.TheVariants.{Memory, Thread, Gone}
use Rattle.gen_threads.specs.declared.works.Turn.{Turn}
use Rattle.gen_threads.specs.declared.works.Turn.TheVariants.{Ended, Back}

-- the pass has taken the last word of a neighbour
abbrev pub HasLastWord : TakePass → Type 0
HasLastWord pass = (take_view pass).gone_taken ≡ true

-- why a general has no logs: memory was refused, or one of its passes has taken the last word of a neighbour;
-- it is never for want of a thread
abbrev pub IsOwnFault : List TakePass → RunFault → Type 0
IsOwnFault takes Memory = Unit {0}
IsOwnFault takes Thread = ⊥
IsOwnFault takes Gone = Any HasLastWord takes

-- the worse of two faults: want of memory, then a thread that was not started, then a neighbour that ended
-- early
abbrev pub worse_fault : RunFault → RunFault → RunFault
worse_fault Memory b = Memory
worse_fault Thread Memory = Memory
worse_fault Thread Thread = Thread
worse_fault Thread Gone = Thread
worse_fault Gone b = b

abbrev pub worse_of : Result (Unit {0}) RunFault → Result (Unit {0}) RunFault → Result (Unit {0}) RunFault
worse_of (Ok _) b = b
worse_of (Err a) (Ok _) = Err a
worse_of (Err a) (Err b) = Err (worse_fault a b)

-- the outcome of one general: no fault, or its fault, or a missing thread if its work was handed back
abbrev pub fault_alone : {X : Type 0} → Result X RunFault → Result (Unit {0}) RunFault
fault_alone (Ok _) = Ok tt
fault_alone (Err fault) = Err fault

abbrev pub outcome_of_turn : Turn → Result (Unit {0}) RunFault
outcome_of_turn (Ended end) = fault_alone end.logs
outcome_of_turn (Back work) = Err Thread

-- the outcome of all generals: the worst of theirs
abbrev pub outcome_of : List Turn → Result (Unit {0}) RunFault
outcome_of [] = Ok tt
outcome_of (turn ∷ turns) = worse_of (outcome_of_turn turn) (outcome_of turns)

-- the fault that a run answers if this is its generals' worst: an early end of a neighbour is answered as a
-- missing thread
abbrev pub answered_fault : RunFault → RunFault
answered_fault Memory = Memory
answered_fault Thread = Thread
answered_fault Gone = Thread

-- why a run has no logs: memory was refused, or a thread was missing
abbrev pub IsAnsweredFault : RunFault → Type 0
IsAnsweredFault Memory = Unit {0}
IsAnsweredFault Thread = Unit {0}
IsAnsweredFault Gone = ⊥

-- a run with this outcome answers the fault of the outcome, or that memory was refused while it gathered the
-- logs
abbrev pub IsAnswerTo : Result (Unit {0}) RunFault → RunFault → Type 0
IsAnswerTo (Ok _) fault = fault ≡ Memory
IsAnswerTo (Err worst) fault = (fault ≡ answered_fault worst) ⊎ (fault ≡ Memory)
