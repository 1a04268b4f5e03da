use Rattle.std.proofs.Common.{Contains, arith}
use Rattle.gen_types.specs.PathLaws.{length_of_take}
use Rattle.gen_types.proofs.Pushing.{pushed}
use Rattle.gen_types.proofs.paths.Path.push_new.Goals as goal

pub invariant_of-self : goal.invariant_of-self
invariant_of-self c =
    let count = length_of_take c.self.inside.generals c.self.inside.len c.self.invariant in
    let few = rw (← c.self.view_is) at c.requires.room in
    pushed c.self.inside.generals c.self.inside.len c.args.general c.self.invariant (omega (arith, count, few)) (rw (← c.get-below_16.ensures.value) c.get-below_16.ensures.below) (λ h.
    let there : Contains c.args.self.now c.args.general = rw (← c.self.view_is) h in
    c.requires.new there)
