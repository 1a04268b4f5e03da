use Rattle.std.proofs.Common.{◌≡◌, filter, map}
use Rattle.std.specs.List.{range_with_len}
use Rattle.gen_asked.specs.Faulty.{is_named}
use Rattle.gen_asked.proofs.faulty.generals_named.Given as goal

abbrev pub invariant-generals : goal.invariant-generals
invariant-generals l = l.set ≡ filter (is_named (map (λ x. x.now) l.texts)) (range_with_len 0 l.number)
