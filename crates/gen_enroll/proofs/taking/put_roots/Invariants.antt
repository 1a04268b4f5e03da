use Rattle.std.proofs.Common.{◌≡◌, ℕ, List, length, take}
use Rattle.gen_types.specs.declared.heights.TreeHeight.{TreeHeight}
use Rattle.gen_enroll.specs.Taking.{AreFound, AreMade, AreThere}
use Rattle.gen_enroll.proofs.taking.put_roots.Given as goal

abbrev pub invariant-roots : goal.invariant-roots
invariant-roots l = record {
  all : length l.found ≡ length l.initial.found;
  there : AreThere (take l.it-index l.made) l.found;
  each : (states : List (List ℕ)) (height : TreeHeight) → AreMade states height l.made → AreFound states height l.initial.found → AreFound states height l.found;
}
