use Rattle.std.proofs.Common.{◌≡◌, ◌<◌, ℕ, List, ◌∷◌}
use Rattle.gen_walks.specs.Walks.{AreJoined}
use Rattle.gen_walks.specs.Levels.{level}
use Rattle.gen_walks.proofs.Greedy.{Greedy}
use Rattle.gen_walks.proofs.search.best_walk.Given as goal

abbrev pub invariant-loop-left : goal.invariant-loop-left
invariant-loop-left l = record {
  height : level l.row l.at ≡ l.left;
  low : l.left < 255;
  inside : l.at < 16;
  walk : (more : List ℕ) × (l.generals.items ≡ l.fn.a ∷ more) × Greedy (AreJoined l.net l.rest) (level l.row) l.fn.a more l.at;
}

abbrev pub decreases-loop-left : goal.decreases-loop-left
decreases-loop-left l = l.left
