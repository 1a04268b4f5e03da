use Rattle.std.proofs.Common.{◌≡◌, drop, map}
use Rattle.std.specs.List.{list_any}
use Rattle.gen_convict.specs.Finding as finds
use Rattle.gen_convict.proofs.gathered.put_new.Given as goal

abbrev pub invariant-loop-other : goal.invariant-loop-other
invariant-loop-other l = list_any (λ x. finds.is_like x.text l.text.text) (map (λ t. t.now) (drop l.other-index l.other-items)) ≡ list_any (λ x. finds.is_like x.text l.text.text) (map (λ t. t.now) l.fn.firsts.items)
