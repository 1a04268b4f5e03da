use Rattle.gen_convict.proofs.Given.{given_where_held}
use Rattle.gen_convict.proofs.Holding.{texts_verify, first_holds}
use Rattle.gen_convict.proofs.OneGiven.{one_claim}
use Rattle.gen_convict.proofs.laws.first_claims.Goals as goal

pub returns-clause-texts : goal.returns-clause-texts
returns-clause-texts c = texts_verify

pub returns-clause-holds : goal.returns-clause-holds
returns-clause-holds c = first_holds

pub returns-clause-given : goal.returns-clause-given
returns-clause-given c = given_where_held

pub returns-clause-one : goal.returns-clause-one
returns-clause-one c = one_claim
