use Rattle.std.proofs.Common.{rules, arith, ◌≡◌, ◌<◌, List, ℕ, Some, Err, refl, sym, subst}
use Rattle.gen_types.specs.Bits.{members_of}
use Rattle.gen_node.specs.BundleBytes.{bundle_bytes}
use Rattle.sm_node.specs.Bundles.{AreWalksBeside, logs_in}
use Rattle.sm_node.specs.Faults.{bundle_number, bytes_number}
use Rattle.sm_node.specs.declared.faults.GatherFault.TheVariants.{Header, Bundle}
use Rattle.sm_node.proofs.bundles.hand_bundle.Goals as goal

pub returns-in-Err-Fault : goal.returns-in-Err-Fault
returns-in-Err-Fault c =
    let own = c.in-Ok-Some.own.items in
    let broken = c.in-Err-Fault.broken in
    let logs : logs_in c.args.logs.now c.args.bytes.now ≡ Some own = sym (rw c.in-Ok-Some.field-0-is at c.in-Ok-Some.ensures) in
    let few : c.args.faulty < 65536 = omega (arith, c.if-faulty.false) in
    let why = rw c.in-Err-Fault.field-0-is at c.in-Err-Fault.ensures in
    let told : c.number.result ≡ bytes_number broken = rw c.in-Err-Fault.field-0-is at c.number.ensures in
    ((refl, refl), few, (own, Header broken, logs, why, told, refl))

pub returns-in-Err-Fault-make_bundle : goal.returns-in-Err-Fault-make_bundle
returns-in-Err-Fault-make_bundle c =
    let own = c.in-Ok-Some.own.items in
    let h = c.in-Ok.header in
    let walks = c.in-Ok-walks_of.walks in
    let broken = c.in-Err-Fault-make_bundle.broken in
    let logs : logs_in c.args.logs.now c.args.bytes.now ≡ Some own = sym (rw c.in-Ok-Some.field-0-is at c.in-Ok-Some.ensures) in
    let few : c.args.faulty < 65536 = omega (arith, c.if-faulty.false) in
    let same : c.from_bits-faulty.result ≡ members_of c.args.faulty = search rules in
    let beside = subst (λ (faulty : List ℕ). AreWalksBeside c.args.wanted h faulty walks) same c.in-Ok-walks_of.ensures in
    let raw = rw c.in-Err-Fault-make_bundle.field-0-is at c.in-Err-Fault-make_bundle.ensures in
    let why : bundle_bytes h (members_of c.args.faulty) walks own ≡ Err broken = cc in
    let told : c.number-in-Err-Fault-make_bundle.result ≡ bundle_number broken = c.number-in-Err-Fault-make_bundle.ensures in
    ((refl, refl), few, (own, Bundle broken, logs, (h, walks, record { header = c.in-Ok.ensures; walks_are = beside }, why), told, refl))
