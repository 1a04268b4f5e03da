use Rattle.std.proofs.Common.{◌≡◌, ◌<◌, ℕ}
use Rattle.gen_walks.specs.Walks.{AreJoined}
use Rattle.gen_walks.specs.Levels.{level}
use Rattle.gen_walks.proofs.search.is_near_level.Given as goal

abbrev pub invariant-loop-number : goal.invariant-loop-number
invariant-loop-number l = (y : ℕ) → y < l.number → AreJoined l.net l.rest y l.v → level l.row y ≡ l.k → ⊥
