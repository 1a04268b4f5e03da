use Rattle.std.proofs.Common.{◌≡◌, ◌∙◌, ap, sym}
use Rattle.gen_audit.proofs.BundleParts.{bundle_made}
use Rattle.gen_audit.proofs.bundles.Bundle.new.Goals as goal

pub invariant_of-result : goal.invariant_of-result
invariant_of-result c =
    let n : c.generals-n.result ≡ c.args.header.network.generals = c.generals-n.ensures.value ∙ ap (λ k. k.generals) c.net.ensures.value in
    bundle_made c.args.header c.args.faulty c.args.walks c.args.exhibits.items c.net.ensures.header c.is_set_below.ensures.ascending
    (rw (c.is_set_below.ensures.value, n) at (sym c.in_ok-check_rule.ensures))
    (rw (c.as_slice.ensures, n) at (sym c.in_ok-check_all_walks.ensures))
    (rw (c.as_slice-2.ensures.value, n) at (sym c.in_ok-check_all_exhibits.ensures.value))
    (rw c.as_slice-2.ensures.value at c.in_ok-check_all_exhibits.ensures.bytes)
