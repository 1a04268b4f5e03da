use Rattle.gen_audit.proofs.Supporting.{clean_is_supported, supported_is_clean, supported_shows_run}
use Rattle.gen_audit.proofs.laws.clean_is_supported.Goals as goal

pub returns-clause-exactly : goal.returns-clause-exactly
returns-clause-exactly c = clean_is_supported

pub returns-clause-clean : goal.returns-clause-clean
returns-clause-clean c = supported_is_clean

pub returns-clause-run : goal.returns-clause-run
returns-clause-run c = supported_shows_run
