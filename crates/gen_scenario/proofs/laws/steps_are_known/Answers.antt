use Rattle.gen_scenario.proofs.FirstChains.{counts_these}
use Rattle.gen_scenario.proofs.Stepping.{messages_count, one_round_more, frame_after, one_signer_more, begun_by_commander}
use Rattle.gen_scenario.proofs.laws.steps_are_known.Goals as goal

pub returns-clause-chains : goal.returns-clause-chains
returns-clause-chains c = counts_these

pub returns-clause-count : goal.returns-clause-count
returns-clause-count c = messages_count

pub returns-clause-round : goal.returns-clause-round
returns-clause-round c = one_round_more

pub returns-clause-frame : goal.returns-clause-frame
returns-clause-frame c = frame_after

pub returns-clause-signer : goal.returns-clause-signer
returns-clause-signer c = one_signer_more

pub returns-clause-begin : goal.returns-clause-begin
returns-clause-begin c = begun_by_commander
