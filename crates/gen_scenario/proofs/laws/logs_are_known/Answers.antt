use Rattle.gen_scenario.proofs.LogEntries.{followers_keep}
use Rattle.gen_scenario.proofs.VerifiedLogs.{all_verify}
use Rattle.gen_scenario.proofs.ShortLogs.{all_short}
use Rattle.gen_scenario.proofs.laws.logs_are_known.Goals as goal

pub returns-clause-followers : goal.returns-clause-followers
returns-clause-followers c = followers_keep

pub returns-clause-verify : goal.returns-clause-verify
returns-clause-verify c = all_verify

pub returns-clause-short : goal.returns-clause-short
returns-clause-short c = all_short
