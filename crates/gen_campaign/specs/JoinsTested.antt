-- The test whether runs may stand in one campaign.
use Rattle.std.specs.Bool.{Decides}
use Rattle.gen_net.specs.Header.{RunHeader}
use Rattle.gen_campaign.specs.Campaign.{Joins}
use Rattle.gen_campaign.specs.CampaignReading.{joins}

-- the test is true if and only if a run with the second header may stand behind a run with the first
abbrev pub JoinsDecides : Type 0
JoinsDecides = (before h : RunHeader) → Decides (joins before h) (Joins before h)
