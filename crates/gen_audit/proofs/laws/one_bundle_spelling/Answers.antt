use Rattle.std.proofs.Common.{refl}
use Rattle.gen_types.proofs.Front.{one_spelling_by}
use Rattle.gen_audit.specs.Bundle.{IsBundle}
use Rattle.gen_audit.specs.BundleReading.{bundle_at}
use Rattle.gen_audit.specs.BundleSpelling.{bundle_spelling}
use Rattle.gen_audit.proofs.BundleLaws.{bundles_read, bundle_only}
use Rattle.gen_audit.proofs.laws.one_bundle_spelling.Goals as goal

pub returns-clause-one : goal.returns-clause-one
returns-clause-one c = one_spelling_by bundle_at bundle_spelling IsBundle bundles_read

pub returns-clause-again : goal.returns-clause-again
returns-clause-again c = λ b is. bundle_only (bundle_spelling b) b (record { fits = is; spelled = refl })
