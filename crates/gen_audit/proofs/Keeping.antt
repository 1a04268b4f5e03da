-- The rest of every run keep logs.
use Rattle.std.proofs.Common.{Some, refl}
use Rattle.gen_core.proofs.KeptLogs.{has_log}
use Rattle.gen_audit.specs.Explained.{RunsHaveLogs}

pub runs_have_logs : RunsHaveLogs
runs_have_logs net faulty run conducts signed = (
  λ g. Some (has_log net run g (conducts g) signed.run_of_net).0,
  record {
    run = run;
    conducts = conducts;
    signed = signed;
    keeps = λ g loyal. let l = has_log net run g (conducts g) signed.run_of_net in (l.0, refl, l.1);
  },
)
