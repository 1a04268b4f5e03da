use Rattle.std.proofs.Common.{◌≡◌, ◌-◌, ◌++◌, take}
use Rattle.gen_lmots.specs.Chains.{chained}
use Rattle.gen_lmots.specs.Strings.{front, u16str}
use Rattle.gen_lmots.proofs.chains.chained.Given as goal

abbrev pub invariant-steps : goal.invariant-steps
invariant-steps l =
    (l.reached ≡ chained l.place l.chain l.first (l.step - l.first) l.value)
    × (take 22 l.text ≡ front l.place ++ u16str l.chain)
