-- The places of runs in a campaign, which name the runs.
use Rattle.std.specs.Prelude.{◌≡◌, ℕ, List, ◌∷◌, ◌++◌, length}
use Rattle.std.specs.List.{position_or_len}
use Rattle.gen_net.specs.Header.{RunHeader}
use Rattle.gen_net.specs.SameHeaders.{same_header}
use Rattle.gen_audit.specs.Bundle.{Bundle}
use Rattle.gen_campaign.specs.Campaign.{AreRuns}

-- the place of the run with this header: the number of runs before it, or of all runs if none has the
-- header
abbrev pub place_of : List Bundle → RunHeader → ℕ
place_of bundles h = position_or_len (λ b. same_header b.header h) bundles

-- the place of a run's header is the place of the run: no other run has this header
abbrev pub PlacesNameRuns : Type 0
PlacesNameRuns =
    (front : List Bundle) (b : Bundle) (back : List Bundle) → AreRuns (front ++ b ∷ back)
    → place_of (front ++ b ∷ back) b.header ≡ length front
