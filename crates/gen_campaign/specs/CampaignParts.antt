-- Where the bundles of a campaign stand in a file.
use Rattle.std.specs.Prelude.{ℕ, ◌+◌, ◌<◌, ◌^◌, Bool, true, false, List, sum_by}
use Rattle.gen_audit.specs.Bundle.{Bundle}
use Rattle.gen_file.specs.Parts.{bundle_length}

-- the number of bytes before the first bundle of several runs
abbrev pub campaign_front_length : ℕ
campaign_front_length = 5

-- the bundles end before byte 2^64
abbrev pub HaveRoom : Bool → List Bundle → Type 0
HaveRoom true bundles = sum_by bundle_length bundles < 2 ^ 64
HaveRoom false bundles = campaign_front_length + sum_by bundle_length bundles < 2 ^ 64
