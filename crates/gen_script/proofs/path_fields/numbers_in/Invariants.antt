use Rattle.std.proofs.Common.{◌≡◌, [], map, length}
use Rattle.gen_script.specs.PathReading.{numbers_in}
use Rattle.gen_script.proofs.path_fields.numbers_in.Given as goal

abbrev pub invariant-loop-rest : goal.invariant-loop-rest
invariant-loop-rest l = numbers_in l.net l.kind l.path (map (λ x. x.now) l.rest) ≡ numbers_in l.net l.kind [] (map (λ x. x.now) l.parts)

abbrev pub decreases-loop-rest : goal.decreases-loop-rest
decreases-loop-rest l = length l.rest
