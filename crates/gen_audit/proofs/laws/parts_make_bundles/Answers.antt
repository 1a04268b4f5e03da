use Rattle.gen_audit.proofs.BundleParts.{bundle_told}
use Rattle.gen_audit.proofs.laws.parts_make_bundles.Goals as goal

pub returns : goal.returns
returns c = bundle_told
