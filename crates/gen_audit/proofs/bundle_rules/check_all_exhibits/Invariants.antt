use Rattle.std.proofs.Common.{◌≡◌, length, All}
use Rattle.gen_log.specs.Fields.{AreBelow}
use Rattle.gen_audit.specs.Behind.{check_behind}
use Rattle.gen_audit.specs.BundleMaking as making
use Rattle.gen_audit.proofs.bundle_rules.check_all_exhibits.Given as goal

abbrev pub invariant-loop-exhibit : goal.invariant-loop-exhibit
invariant-loop-exhibit l = record {
  tested : check_behind (making.exhibit_check l.n) making.shown_general l.before l.rest ≡ check_behind (making.exhibit_check l.n) making.shown_general 0 l.exhibits;
  bytes : All (λ x. AreBelow 256 x.bytes) l.rest → All (λ x. AreBelow 256 x.bytes) l.exhibits;
}

abbrev pub decreases-loop-exhibit : goal.decreases-loop-exhibit
decreases-loop-exhibit l = length l.rest
