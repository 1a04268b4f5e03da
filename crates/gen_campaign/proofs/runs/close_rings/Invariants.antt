use Rattle.std.proofs.Common.{◌≡◌, ◌++◌, map}
use Rattle.std.specs.Vec.Iter.{into_iter_items}
use Rattle.gen_tree.specs.Rings.{Ring}
use Rattle.gen_campaign.proofs.runs.close_rings.Given as goal

abbrev pub invariant-loop-held : goal.invariant-loop-held
invariant-loop-held l = l.sets.items ++ map (λ (ring : Ring). ring.taken) (into_iter_items l.held-iterator) ≡ map (λ (ring : Ring). ring.taken) l.fn.rings.items
