use Rattle.gen_scenario.proofs.HeardKnown.{counted_are_chains, heard_is_known, heard_in_round}
use Rattle.gen_scenario.proofs.KeptRounds.{signs_kept, frame_kept, sign_entries_kept, send_entries_kept}
use Rattle.gen_scenario.proofs.laws.heard_is_known.Goals as goal

pub returns-clause-counted : goal.returns-clause-counted
returns-clause-counted c = counted_are_chains

pub returns-clause-known : goal.returns-clause-known
returns-clause-known c = heard_is_known

pub returns-clause-rounds : goal.returns-clause-rounds
returns-clause-rounds c = heard_in_round

pub returns-clause-signs : goal.returns-clause-signs
returns-clause-signs c = signs_kept

pub returns-clause-frame : goal.returns-clause-frame
returns-clause-frame c = frame_kept

pub returns-clause-written : goal.returns-clause-written
returns-clause-written c = sign_entries_kept

pub returns-clause-sent : goal.returns-clause-sent
returns-clause-sent c = send_entries_kept
