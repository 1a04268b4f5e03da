use Rattle.std.proofs.Common.{arith, ◌<◌}
use Rattle.gen_walks.specs.Walks.{AreJoined}
use Rattle.gen_walks.specs.Levels.{level}
use Rattle.gen_walks.proofs.Distances.{ends_in}
use Rattle.gen_walks.proofs.Found.{IsFound, begun_row, more, ended}
use Rattle.gen_walks.proofs.search.levels_from.Goals as goal

pub loop-k-init : goal.loop-k-init
loop-k-init c =
    let at : c.args.source < 16 = omega (arith, c.get.ensures.value, c.get.ensures.below) in
    rw c.get.ensures.value (begun_row (AreJoined c.args.net.now c.args.rest.now) c.args.source at)

pub loop-k-preserved : goal.loop-k-preserved
loop-k-preserved c =
    let at : c.args.source < 16 = omega (arith, c.get.ensures.value, c.get.ensures.below) in
    let found : IsFound (AreJoined c.args.net.now c.args.rest.now) c.args.source c.loop-k.k (level c.new-before.result) = rw c.new-before.ensures c.loop-k.invariant in
    let got = c.if-not-spread.ensures.yes in
    more (AreJoined c.args.net.now c.args.rest.now) c.args.source (ends_in c.args.net.now c.args.rest.now c.requires) at c.loop-k.k (omega arith) (level c.new-before.result) (level c.spread.new.next) found c.spread.ensures.next got.0 got.1 got.2 got.3

pub returns-then-not-spread : goal.returns-then-not-spread
returns-then-not-spread c =
    let at : c.args.source < 16 = omega (arith, c.get.ensures.value, c.get.ensures.below) in
    let found : IsFound (AreJoined c.args.net.now c.args.rest.now) c.args.source c.loop-k.k (level c.new-before.result) = rw c.new-before.ensures c.loop-k.invariant in
    ended (AreJoined c.args.net.now c.args.rest.now) c.args.source (ends_in c.args.net.now c.args.rest.now c.requires) at c.loop-k.k (omega arith) (level c.new-before.result) (level c.spread.new.next) found c.spread.ensures.next c.if-not-spread.ensures.no
