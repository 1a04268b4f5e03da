use Rattle.std.proofs.Common.{arith}
use Rattle.gen_types.specs.Spelled.{Spells}
use Rattle.gen_types.proofs.Laws.{found_by, only_by}
use Rattle.gen_audit.specs.Bundle.{IsBundle}
use Rattle.gen_audit.specs.BundleReading.{whole_bundle}
use Rattle.gen_audit.specs.BundleSpelling.{bundle_spelling}
use Rattle.gen_audit.proofs.BundleLaws.{bundle_found, bundle_only}
use Rattle.gen_audit.proofs.bundle_reading.bundle_of.Goals as goal

pub returns-clause-found : goal.returns-clause-found
returns-clause-found c = found_by (λ x. x) c.bundle_alone.result (whole_bundle c.args.bytes.now) (Spells IsBundle bundle_spelling c.args.bytes.now) (λ x e. bundle_found c.args.bytes.now x (λ i. omega (arith, c.type_inv.bytes i)) e) c.bundle_alone.ensures

pub returns-clause-only : goal.returns-clause-only
returns-clause-only c = λ b spells. only_by (λ x. x) c.bundle_alone.result (whole_bundle c.args.bytes.now) b (bundle_only c.args.bytes.now b spells) c.bundle_alone.ensures
