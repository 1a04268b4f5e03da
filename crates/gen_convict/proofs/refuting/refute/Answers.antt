use Rattle.std.proofs.Common.{sym, subst, IfOk}
use Rattle.gen_convict.specs.Answers.{answer_of}
use Rattle.gen_convict.specs.Contradictions.{TwoTexts, TwoOrders, MissingFromLog, DepartingLog, IsContradiction}
use Rattle.gen_convict.specs.OtherLogs.{IsOtherLog}
use Rattle.gen_convict.specs.Refuting.{IsOwnLogFor, IsRefutation}
use Rattle.gen_convict.specs.Told.{told}
use Rattle.gen_convict.proofs.Answering.{texts_answered, orders_answered, departing_answered, departing_other, lacking_answered, missing_answered, missing_other}
use Rattle.gen_convict.proofs.Refuted.{of_this_run}
use Rattle.gen_convict.proofs.refuting.refute.Goals as goal

pub returns-then-not-has_sign : goal.returns-then-not-has_sign
returns-then-not-has_sign c =
    let h = c.args.header.now in
    let g = c.args.evidence.now.accused in
    let holds = subst (λ k. IsContradiction h g (told k)) c.in-Missing.is c.requires.holds in
    subst (λ k. IfOk c.forged.result (λ answer. IsRefutation h g (told k) c.args.own.now (answer_of answer))) (sym c.in-Missing.is)
    (lacking_answered c.forged.result h g c.args.own.now c.in-Missing.log.items c.in-Missing.statement c.in-Missing.signature holds (λ has. let t = c.has_sign.ensures.1 has in let f = c.if-not-has_sign.true in absurd cc) c.forged.ensures)

pub refute_log-requires-clause-own : goal.refute_log-requires-clause-own
refute_log-requires-clause-own c =
    let h = c.args.header.now in
    let g = c.args.evidence.now.accused in
    of_this_run h g c.args.own.now (MissingFromLog c.in-Missing.log.items c.in-Missing.statement c.in-Missing.signature) (λ n. n) (subst (λ k. IsOwnLogFor h g (told k) c.args.own.now) c.in-Missing.is c.requires.own)

pub refute_log-requires-clause-other : goal.refute_log-requires-clause-other
refute_log-requires-clause-other c =
    let h = c.args.header.now in
    let g = c.args.evidence.now.accused in
    let holds = subst (λ k. IsContradiction h g (told k)) c.in-Missing.is c.requires.holds in
    let other = missing_other h g c.args.own.now c.in-Missing.log.items c.in-Missing.statement c.in-Missing.signature holds (c.has_sign.ensures.0 c.if-not-has_sign.false) in
    subst (IsOtherLog h g c.args.own.now) (sym c.as_slice.ensures.value) other

pub returns-else-not-has_sign : goal.returns-else-not-has_sign
returns-else-not-has_sign c =
    let h = c.args.header.now in
    let g = c.args.evidence.now.accused in
    let said = rw c.as_slice.ensures.value at c.refute_log.ensures in
    subst (λ k. IfOk c.refute_log.result (λ answer. IsRefutation h g (told k) c.args.own.now (answer_of answer))) (sym c.in-Missing.is)
    (missing_answered c.refute_log.result h g c.args.own.now c.in-Missing.log.items c.in-Missing.statement c.in-Missing.signature said)

pub refute_log-requires-in-Departing-clause-own : goal.refute_log-requires-in-Departing-clause-own
refute_log-requires-in-Departing-clause-own c =
    let h = c.args.header.now in
    let g = c.args.evidence.now.accused in
    of_this_run h g c.args.own.now (DepartingLog c.in-Departing.log.items c.in-Departing.entry) (λ n. n) (subst (λ k. IsOwnLogFor h g (told k) c.args.own.now) c.in-Departing.is c.requires.own)

pub refute_log-requires-in-Departing-clause-other : goal.refute_log-requires-in-Departing-clause-other
refute_log-requires-in-Departing-clause-other c =
    let h = c.args.header.now in
    let g = c.args.evidence.now.accused in
    let holds = subst (λ k. IsContradiction h g (told k)) c.in-Departing.is c.requires.holds in
    let own = of_this_run h g c.args.own.now (DepartingLog c.in-Departing.log.items c.in-Departing.entry) (λ n. n) (subst (λ k. IsOwnLogFor h g (told k) c.args.own.now) c.in-Departing.is c.requires.own) in
    let other = departing_other h g c.args.own.now c.in-Departing.log.items c.in-Departing.entry own holds in
    subst (IsOtherLog h g c.args.own.now) (sym c.as_slice-in-Departing.ensures.value) other

pub returns-in-Texts : goal.returns-in-Texts
returns-in-Texts c =
    let h = c.args.header.now in
    let g = c.args.evidence.now.accused in
    let holds = subst (λ k. IsContradiction h g (told k)) c.in-Texts.is c.requires.holds in
    let own = of_this_run h g c.args.own.now (TwoTexts c.in-Texts.first c.in-Texts.second) (λ n. n) (subst (λ k. IsOwnLogFor h g (told k) c.args.own.now) c.in-Texts.is c.requires.own) in
    subst (λ k. IfOk c.one_forged.result (λ answer. IsRefutation h g (told k) c.args.own.now (answer_of answer))) (sym c.in-Texts.is)
    (texts_answered c.one_forged.result h g c.args.own.now c.in-Texts.first c.in-Texts.second own holds (c.one_forged.ensures.first, c.one_forged.ensures.second))

pub returns-in-Orders : goal.returns-in-Orders
returns-in-Orders c =
    let h = c.args.header.now in
    let g = c.args.evidence.now.accused in
    let holds = subst (λ k. IsContradiction h g (told k)) c.in-Orders.is c.requires.holds in
    let own = of_this_run h g c.args.own.now (TwoOrders c.in-Orders.first c.in-Orders.first_signature c.in-Orders.second c.in-Orders.second_signature) (λ n. n) (subst (λ k. IsOwnLogFor h g (told k) c.args.own.now) c.in-Orders.is c.requires.own) in
    let first = rw c.command.ensures at c.one_forged-in-Orders.ensures.first in
    let second = rw (c.command.ensures, c.command-in-Orders.ensures) at c.one_forged-in-Orders.ensures.second in
    subst (λ k. IfOk c.one_forged-in-Orders.result (λ answer. IsRefutation h g (told k) c.args.own.now (answer_of answer))) (sym c.in-Orders.is)
    (orders_answered c.one_forged-in-Orders.result h g c.args.own.now c.in-Orders.first c.in-Orders.first_signature c.in-Orders.second c.in-Orders.second_signature own holds (first, second))

pub returns-in-Departing : goal.returns-in-Departing
returns-in-Departing c =
    let h = c.args.header.now in
    let g = c.args.evidence.now.accused in
    let said = rw c.as_slice-in-Departing.ensures.value at c.refute_log-in-Departing.ensures in
    subst (λ k. IfOk c.refute_log-in-Departing.result (λ answer. IsRefutation h g (told k) c.args.own.now (answer_of answer))) (sym c.in-Departing.is)
    (departing_answered c.refute_log-in-Departing.result h g c.args.own.now c.in-Departing.log.items c.in-Departing.entry said)
