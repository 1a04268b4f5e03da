use Rattle.std.proofs.Common.{◌≡◌, length}
use Rattle.gen_audit.specs.Behind.{check_behind}
use Rattle.gen_audit.specs.BundleMaking as making
use Rattle.gen_audit.specs.BundleParts as parts
use Rattle.gen_audit.proofs.bundle_rules.check_all_walks.Given as goal

abbrev pub invariant-loop-walk : goal.invariant-loop-walk
invariant-loop-walk l = check_behind (making.walk_check l.n) parts.ends_of l.before l.rest ≡ check_behind (making.walk_check l.n) parts.ends_of making.no_ends l.walks

abbrev pub decreases-loop-walk : goal.decreases-loop-walk
decreases-loop-walk l = length l.rest
