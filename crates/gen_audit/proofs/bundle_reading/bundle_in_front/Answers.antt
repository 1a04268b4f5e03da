use Rattle.std.proofs.Common.{◌≡◌, ℕ, ◌∙◌, Bool, List, Ok, refl, ap, arith}
use Rattle.std.specs.Arc.{arc_slice_items}
use Rattle.std.specs.Int.{w16}
use Rattle.gen_types.specs.Bits.{members_of}
use Rattle.gen_types.specs.Reading.{check}
use Rattle.gen_types.specs.Bytes.{number_at}
use Rattle.gen_audit.specs.declared.bundle_fault.BundleFault.TheVariants as faults
use Rattle.gen_audit.specs.BundleMaking.{are_below}
use Rattle.gen_audit.specs.BundleFields.{faulty_at}
use Rattle.gen_audit.proofs.BundleLaws.{bundle_from}
use Rattle.gen_audit.proofs.InputEnds.{behind_walks}
use Rattle.gen_audit.proofs.bundle_reading.bundle_in_front.Goals as goal

is_faulty : (n : ℕ) (bytes rest : List ℕ) (bits : ℕ) (set : List ℕ) (known : Bool) → number_at faults.Truncated w16 bytes ≡ Ok (bits, rest) → set ≡ members_of bits → known ≡ are_below n set → check known faults.FaultyRange ≡ Ok tt → faulty_at n bytes ≡ Ok (set, rest)
unfolding faulty_at
is_faulty n bytes rest bits set known h s b k = rw (h, rw (b, s) at k, s) refl

pub read_exhibits-requires-clause-end : goal.read_exhibits-requires-clause-end
read_exhibits-requires-clause-end c =
    let faulty = is_faulty c.generals-n.result c.in_ok-header.rest.now c.in_ok-bits.rest.now c.in_ok-bits.bits c.from_bits-faulty.result c.is_set_below.result c.in_ok-bits.ensures.exact c.from_bits-faulty.ensures c.is_set_below.ensures.value c.in_ok-check.ensures.exact in
    let n : c.generals-n.result ≡ c.in_ok-header.header.network.generals = c.generals-n.ensures.value ∙ ap (λ k. k.generals) c.net.ensures.value in
    behind_walks (arc_slice_items c.args.input.now) c.args.bytes.now _ _ _ c.generals-n.result (omega arith) (λ i. omega (arith, c.type_inv.bytes i)) c.in_ok-header.ensures faulty c.in_ok-walks.ensures c.requires

pub invariant_of-bundle : goal.invariant_of-bundle
invariant_of-bundle c =
    let faulty = is_faulty c.generals-n.result c.in_ok-header.rest.now c.in_ok-bits.rest.now c.in_ok-bits.bits c.from_bits-faulty.result c.is_set_below.result c.in_ok-bits.ensures.exact c.from_bits-faulty.ensures c.is_set_below.ensures.value c.in_ok-check.ensures.exact in
    let n : c.generals-n.result ≡ c.in_ok-header.header.network.generals = c.generals-n.ensures.value ∙ ap (λ k. k.generals) c.net.ensures.value in
    bundle_from c.args.bytes.now _ _ _ _ (λ i. omega (arith, c.type_inv.bytes i)) c.in_ok-header.ensures (rw n at faulty) (rw n at c.in_ok-walks.ensures) (rw n at c.in_ok-exhibits.ensures)
