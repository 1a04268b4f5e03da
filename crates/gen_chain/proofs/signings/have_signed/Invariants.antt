use Rattle.std.proofs.Common.{map}
use Rattle.gen_tree.proofs.Answered.{Answers}
use Rattle.gen_chain.specs.Signings.{IsSigned, triple_of}
use Rattle.gen_chain.proofs.signings.have_signed.Given as goal

abbrev pub invariant-places : goal.invariant-places
invariant-places l = Answers (IsSigned l.header) (map triple_of l.signings) l.place l.answers
