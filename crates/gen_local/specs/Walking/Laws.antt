-- Laws of the state: it determines exactly which entry may follow.
use Rattle.std.specs.Prelude.{ℕ, ◌+◌, ◌↔◌, List, [], ◌∷◌, ◌++◌}
use Rattle.gen_net.specs.Network.{Network, IsNetwork}
use Rattle.gen_net.specs.Log.{LogEntry}
use Rattle.gen_local.specs.declared.progress.Progress.{Progress}
use Rattle.gen_local.specs.Following.{MayFollow}
use Rattle.gen_local.specs.Keys.{key, IsSmall}
use Rattle.gen_local.specs.Walking.State.{IsAfter}
use Rattle.gen_local.specs.Walking.Judged.{IsJudged}
use Rattle.gen_local.specs.Walking.Brought.{AreBrought}

-- an entry may follow if and only if the state allows it
abbrev pub JudgedExactly : Type 0
JudgedExactly =
    (net : Network) (g : ℕ) (before : List LogEntry) (least : ℕ) (orders : List Progress) (e : LogEntry)
    → IsNetwork net → IsAfter net g before least orders → IsSmall e
    → IsJudged net g before least orders e ↔ MayFollow net g before e

-- after an entry that may follow, the state is the one with its order's progress updated
abbrev pub BroughtOn : Type 0
BroughtOn =
    (net : Network) (g : ℕ) (before : List LogEntry) (least : ℕ) (orders new : List Progress) (e : LogEntry)
    → IsNetwork net → IsAfter net g before least orders → IsSmall e → MayFollow net g before e
    → AreBrought net g orders e new → IsAfter net g (before ++ e ∷ []) (key net e + 1) new
