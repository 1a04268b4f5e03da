use Rattle.std.proofs.Common.{◌≡◌, arith}
use Rattle.std.proofs.lemmas.Grind.{common_steps}
use Rattle.gen_net.proofs.PlacedEdges.{placed_edges}
use Rattle.gen_net.proofs.Ranges.{accepted}
use Rattle.gen_net.proofs.net.Net.in_place.Goals as goal

pub loop-rest-init : goal.loop-rest-init
loop-rest-init c =
    let r = accepted _ _ _ c.in_ok-choice.ensures in
    record { few = r.ranges.few_generals; items = grind (arith, common_steps); placed = rw c.stand_in_place.ensures at r.edges }

pub of_parts-requires : goal.of_parts-requires
of_parts-requires c =
    let r = accepted _ _ _ c.in_ok-choice.ensures in
    let placed = rw c.stand_in_place.ensures at r.edges in
    let whole : c.loop-rest.placed.items ≡ c.args.edges.now = grind (arith, common_steps) in
    record { ranges = r.ranges; edges = rw whole (placed_edges c.args.numbers.generals c.args.edges.now placed) }
