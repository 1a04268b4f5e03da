use Rattle.std.proofs.Common.{◌≡◌, [], ◌++◌, drop, map}
use Rattle.gen_convict.specs.Finding.{one_each}
use Rattle.gen_convict.proofs.gathered.one_of_each.Given as goal

abbrev pub invariant-loop-text : goal.invariant-loop-text
invariant-loop-text l =
    map (λ t. t.now) l.firsts.items ++ one_each (map (λ t. t.now) l.firsts.items) (map (λ t. t.now) (drop l.text-index l.texts)) ≡ one_each [] (map (λ t. t.now) l.texts)
