use Rattle.std.proofs.Common.{◌≡◌, ◌<◌, ℕ}
use Rattle.gen_system.specs.Admissions.{root_in}
use Rattle.gen_system.proofs.colliding.collide_headers.Given as goal

abbrev pub invariant-nodes : goal.invariant-nodes
invariant-nodes l = (v : ℕ) → v < l.number → root_in l.first v ≡ root_in l.second v
