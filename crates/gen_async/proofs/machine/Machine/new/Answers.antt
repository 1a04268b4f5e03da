use Rattle.std.proofs.Common.{◌≡◌, ◌∙◌, List, ℕ, sym, ap, subst, map, replicate, [], false, is_err, arith}
use Rattle.gen_scenario.specs.Scenario.{Scenario}
use Rattle.gen_async.specs.Running.{IsKept, Machine, progress_of}
use Rattle.gen_async.proofs.Acting.{AllStart, kept_at_start, start_is}
use Rattle.gen_async.proofs.Tables.{on_ok}
use Rattle.gen_async.proofs.machine.Machine.new.Goals as goal

pub invariant_of-result : goal.invariant_of-result
invariant_of-result c =
    let s = c.args.scenario.now in
    let actors = c.add_actors.new.actors.items in
    let e : is_err c.add_actors.result ≡ false = sym c.is_err.ensures.value ∙ c.if-is_err.false in
    let all : AllStart s actors = on_ok c.add_actors.result c.add_actors.ensures e in
    let count : c.queues.counter ≡ 256 = omega (arith, c.queues-test.false, c.queues.auto.counter-end) in
    let empty : map (λ d. d.items) c.queues.queues.items ≡ replicate 256 [] = subst (λ (n : ℕ). map (λ d. d.items) c.queues.queues.items ≡ replicate n []) count c.queues.invariant in
    subst (λ (z : Scenario). IsKept z c.args.capacity (progress_of actors) actors (map (λ queue. queue.items) c.queues.queues.items)) (sym c.in_ok-played.ensures) (kept_at_start s c.args.capacity actors (map (λ queue. queue.items) c.queues.queues.items) c.header-lawful.ensures.scenario all empty)

pub returns : goal.returns
returns c =
    let s = c.args.scenario.now in
    let actors = c.add_actors.new.actors.items in
    let e : is_err c.add_actors.result ≡ false = sym c.is_err.ensures.value ∙ c.if-is_err.false in
    let all : AllStart s actors = on_ok c.add_actors.result c.add_actors.ensures e in
    ap (λ (z : Scenario). let m : Machine = record { scenario = z; capacity = c.args.capacity; progress = progress_of actors } in m) c.in_ok-played.ensures
    ∙ ap (λ (z : List ℕ). let m : Machine = record { scenario = s; capacity = c.args.capacity; progress = z } in m) (start_is s actors all)
