-- What an attempt answers, by the act and the queue.
use Rattle.std.proofs.Common.{◌≡◌, ℕ, ◌<◌, ◌≤◌, List, Some, None, ltb, ap, ◌∙◌}
use Rattle.std.proofs.lemmas.Bool.{lt-ltb, le-ltb, cond-true, cond-false}
use Rattle.gen_net.specs.Network.{Network}
use Rattle.gen_async.specs.declared.acts.Act.TheVariants.{Puts, Takes}
use Rattle.gen_async.specs.declared.acts.Moved.TheVariants.{Put, Took, Blocked, Done}
use Rattle.gen_async.specs.Machine.{next_act, queued, answer, answer_to}

pub says_put : (net : Network) (capacity : ℕ) (progress : List ℕ) (g l h : ℕ) → next_act net progress g ≡ Some (Puts l h) → queued net progress g h < capacity → answer net capacity progress g ≡ Put
unfolding answer
says_put net capacity progress g l h next free = ap (answer_to net capacity progress g) next ∙ cond-true (ltb (queued net progress g h) capacity) Put Blocked (lt-ltb (queued net progress g h) capacity free)

pub says_full : (net : Network) (capacity : ℕ) (progress : List ℕ) (g l h : ℕ) → next_act net progress g ≡ Some (Puts l h) → capacity ≤ queued net progress g h → answer net capacity progress g ≡ Blocked
unfolding answer
says_full net capacity progress g l h next is_full = ap (answer_to net capacity progress g) next ∙ cond-false (ltb (queued net progress g h) capacity) Put Blocked (le-ltb (queued net progress g h) capacity is_full)

pub says_took : (net : Network) (capacity : ℕ) (progress : List ℕ) (g l h : ℕ) → next_act net progress g ≡ Some (Takes l h) → 0 < queued net progress h g → answer net capacity progress g ≡ Took
unfolding answer
says_took net capacity progress g l h next free = ap (answer_to net capacity progress g) next ∙ cond-true (ltb 0 (queued net progress h g)) Took Blocked (lt-ltb 0 (queued net progress h g) free)

pub says_empty : (net : Network) (capacity : ℕ) (progress : List ℕ) (g l h : ℕ) → next_act net progress g ≡ Some (Takes l h) → queued net progress h g ≤ 0 → answer net capacity progress g ≡ Blocked
unfolding answer
says_empty net capacity progress g l h next is_empty = ap (answer_to net capacity progress g) next ∙ cond-false (ltb 0 (queued net progress h g)) Took Blocked (le-ltb 0 (queued net progress h g) is_empty)

pub says_done : (net : Network) (capacity : ℕ) (progress : List ℕ) (g : ℕ) → next_act net progress g ≡ None → answer net capacity progress g ≡ Done
unfolding answer
says_done net capacity progress g next = ap (answer_to net capacity progress g) next
