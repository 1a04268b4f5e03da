use Rattle.std.proofs.Common.{[]}
use Rattle.gen_audit.proofs.bundle_reading.bundle_alone.Goals as goal

pub bundle_in_front-requires : goal.bundle_in_front-requires
bundle_in_front-requires c = record { front = []; parts = c.requires }
