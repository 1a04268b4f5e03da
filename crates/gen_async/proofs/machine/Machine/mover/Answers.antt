use Rattle.std.proofs.Common.{◌≡◌, map, Some, None, arith}
use Rattle.gen_async.specs.Running.{progress_of}
use Rattle.gen_async.proofs.Acting.{found, not_found, not_yet, named}
use Rattle.gen_async.proofs.machine.Machine.mover.Goals as goal

pub returns-then-would_move-clause-first : goal.returns-then-would_move-clause-first
returns-then-would_move-clause-first c =
    let i = c.self.inside in
    let s = i.scenario in
    let all : c.len-number-end.result ≡ s.net.generals = omega (arith, c.len-number-end.ensures, c.self.invariant.all_actors, i.actors.ok.0, i.actors.ok.1) in
    found c.args.self.now s i.capacity (progress_of i.actors.items) c.len-number-end.result c.generals.number c.at-me.result c.would_move.result c.self.view_is all c.generals-test.true c.at-me.ensures c.generals.invariant c.would_move.ensures c.if-would_move.true

pub returns-then-would_move-clause-names : goal.returns-then-would_move-clause-names
returns-then-would_move-clause-names c = λ some.
    let i = c.self.inside in
    let s = i.scenario in
    let all : c.len-number-end.result ≡ s.net.generals = omega (arith, c.len-number-end.ensures, c.self.invariant.all_actors, i.actors.ok.0, i.actors.ok.1) in
    named s i.capacity (progress_of i.actors.items) i.actors.items (map (λ queue. queue.items) i.queues.items) c.self.invariant c.args.self.now c.self.view_is (Some c.at-me.result) (found c.args.self.now s i.capacity (progress_of i.actors.items) c.len-number-end.result c.generals.number c.at-me.result c.would_move.result c.self.view_is all c.generals-test.true c.at-me.ensures c.generals.invariant c.would_move.ensures c.if-would_move.true) some

pub generals-preserved : goal.generals-preserved
generals-preserved c = not_yet c.args.self.now c.generals.number c.at-me.result c.would_move.result c.at-me.ensures c.generals.invariant c.would_move.ensures c.if-would_move.false

pub returns-clause-first : goal.returns-clause-first
returns-clause-first c =
    let i = c.self.inside in
    let s = i.scenario in
    let all : c.len-number-end.result ≡ s.net.generals = omega (arith, c.len-number-end.ensures, c.self.invariant.all_actors, i.actors.ok.0, i.actors.ok.1) in
    not_found c.args.self.now s i.capacity (progress_of i.actors.items) c.len-number-end.result c.generals.number c.self.view_is all c.generals.auto.number-end c.generals-test.false c.generals.invariant

pub returns-clause-names : goal.returns-clause-names
returns-clause-names c = λ some.
    let i = c.self.inside in
    let s = i.scenario in
    let all : c.len-number-end.result ≡ s.net.generals = omega (arith, c.len-number-end.ensures, c.self.invariant.all_actors, i.actors.ok.0, i.actors.ok.1) in
    named s i.capacity (progress_of i.actors.items) i.actors.items (map (λ queue. queue.items) i.queues.items) c.self.invariant c.args.self.now c.self.view_is None (not_found c.args.self.now s i.capacity (progress_of i.actors.items) c.len-number-end.result c.generals.number c.self.view_is all c.generals.auto.number-end c.generals-test.false c.generals.invariant) some
