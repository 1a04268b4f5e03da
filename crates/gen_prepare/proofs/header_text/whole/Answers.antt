use Rattle.std.proofs.Common.{◌≡◌, length, ◌∙◌}
use Rattle.gen_prepare.proofs.RootLoop.{counted, header_made}
use Rattle.gen_prepare.proofs.header_text.whole.Goals as goal

pub unwrap-requires : goal.unwrap-requires
unwrap-requires c =
    let many : length c.in_ok-roots.roots.items ≡ c.generals.result = counted c.generals.result c.in_ok-net.rest (c.in_ok-roots.roots.items, c.in_ok-roots.rest) c.in_ok-roots.ensures in
    header_made c.args.version c.in_ok-net.net c.in_ok-roots.roots.items c.header_with.result (many ∙ c.generals.ensures.value) c.requires c.header_with.ensures
