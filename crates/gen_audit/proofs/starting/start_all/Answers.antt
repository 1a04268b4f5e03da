use Rattle.std.proofs.Common.{◌≡◌, ◌+◌, length, arith}
use Rattle.gen_audit.specs.Loops.Started.{IsPromise}
use Rattle.gen_audit.proofs.Dealt.{each_more}
use Rattle.gen_audit.proofs.starting.start_all.Goals as goal

pub loop-before-preserved : goal.loop-before-preserved
loop-before-preserved g c =
    let i = c.loop-before.invariant in
    let handles = c.loop-before.handles in
    let n : c.loop-before.before + 1 ≡ 1 + length handles.items = (let a = i.0 in omega (arith, handles.ok)) in (
      (let a = i.0 in let b = c.push_reserved.ensures.len in omega arith),
      (let a = i.1 in let b = c.push_reserved.ensures.capacity in omega arith),
      rw c.push_reserved.ensures.items
          (each_more (λ k handle. IsPromise c.args.header.now c.args.exhibits.now c.args.last k handle.promise) 1 (c.loop-before.before + 1) handles.items c.in-Some.handle n i.2 c.in-Some.ensures),
    )
