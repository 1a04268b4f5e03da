use Rattle.gen_text.proofs.FoundBlocks.{blocks_found, lawful_by}
use Rattle.gen_text.proofs.FoundKeys.{slot_found, slot_known}
use Rattle.gen_text.proofs.scenario.read_signed.Goals as goal

pub new-signed-requires : goal.new-signed-requires
new-signed-requires c =
    let network = rw c.net-2.ensures at c.generals-generals.ensures.network in
    let slot = slot_known c.args.start c.in_ok-slot.rest c.in_ok-slot.slot (slot_found c.args.start (c.in_ok-slot.slot, c.in_ok-slot.rest) c.in_ok-slot.ensures) in
    let read = rw c.net.ensures at c.in_ok-blocks.ensures in
    let tested = rw (c.deref.ensures.value, c.deref-2.ensures.value) at c.in_ok-check_paths.ensures in
    let known = rw c.into_parts-net.ensures.order at c.into_parts-net.ensures.known in
    let found = blocks_found _ _ _ _ _ read in
    rw (c.version_with.ensures, c.into_parts-net.ensures.net, c.into_parts-net.ensures.order)
    (lawful_by _ _ c.args.master _ _ _ network slot known found tested)
