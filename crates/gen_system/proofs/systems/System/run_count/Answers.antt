use Rattle.std.proofs.Common.{◌≤◌, ◌^◌, arith}
use Rattle.std.proofs.Math.Nat.{pow-le-pow_right}
use Rattle.std.proofs.lemmas.Nat.{one_shl}
use Rattle.gen_system.proofs.systems.System.run_count.Goals as goal

pub overflow_mul-result : goal.overflow_mul-result
overflow_mul-result c =
    let few = c.self.invariant.few in
    let most : 2 ^ c.self.inside.levels ≤ 2 ^ 20 = pow-le-pow_right {n = 2} (omega arith) few in
    rw (one_shl c.self.inside.levels 32 (omega (arith, few))) (omega (arith, most))
