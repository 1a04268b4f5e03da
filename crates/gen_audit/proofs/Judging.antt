-- A bundle has one judgement.
use Rattle.std.proofs.Common.{◌≡◌, ◌<◌, List, Contains, arith}
use Rattle.gen_net.specs.Header.{RunHeader}
use Rattle.gen_core.proofs.OrderedLists.{same_members}
use Rattle.gen_log.specs.Writing.{LogBytes}
use Rattle.gen_convict.specs.Convictions.{AreConvictions}
use Rattle.gen_convict.specs.Evidence.{Accusation}
use Rattle.gen_audit.specs.Judgement.{OneJudgement}
use Rattle.gen_audit.proofs.Answering.{one_verdict}

-- who is convicted in one list of convictions is convicted in each
among : (h : RunHeader) (exhibits : List LogBytes) (xs ys : List Accusation) → AreConvictions h exhibits xs → AreConvictions h exhibits ys → (x : Accusation) → Contains xs x → Contains ys x
among h exhibits xs ys one other x inside = let f = one.first x inside in other.each x.accused x.claim f.0 f.1

same_convictions : (h : RunHeader) (exhibits : List LogBytes) (xs ys : List Accusation) → AreConvictions h exhibits xs → AreConvictions h exhibits ys → xs ≡ ys
same_convictions h exhibits xs ys one other = same_members (λ (x : Accusation) (y : Accusation). x.accused < y.accused) (λ x y h k. omega arith) xs ys one.in_order other.in_order
    (λ x. (among h exhibits xs ys one other x, among h exhibits ys xs other one x))

pub one_judgement : OneJudgement
one_judgement b bundle one other xs ys j k = (one_verdict b bundle one other j.verdict k.verdict, same_convictions b.header b.exhibits xs ys j.convictions k.convictions)
