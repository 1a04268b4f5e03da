use Rattle.gen_audit.proofs.Agreeing.{few_faulty_agree}
use Rattle.gen_audit.proofs.Supporting.{clean_agrees}
use Rattle.gen_audit.proofs.laws.clean_agrees.Goals as goal

pub returns-clause-clean : goal.returns-clause-clean
returns-clause-clean c = clean_agrees

pub returns-clause-explained : goal.returns-clause-explained
returns-clause-explained c = few_faulty_agree
