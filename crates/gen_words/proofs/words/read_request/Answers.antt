use Rattle.std.proofs.Common.{map, refl, sym}
use Rattle.gen_words.proofs.Faults.{asks, asks_nothing, refused}
use Rattle.gen_words.proofs.words.read_request.Goals as goal

pub returns-in-Some-clause-ok : goal.returns-in-Some-clause-ok
returns-in-Some-clause-ok c =
    asks (map (λ w. w.now) c.args.words.now) c.in_ok-given.given c.in_ok-choices.choices _ c.in_ok-given.ensures.ok c.in_ok-choices.ensures.said (sym c.in-Some.ensures.said) refl c.is_set.ensures

pub returns-in-None-clause-only : goal.returns-in-None-clause-only
returns-in-None-clause-only c = λ said.
    absurd (asks_nothing (map (λ w. w.now) c.args.words.now) c.in_ok-given.given c.in_ok-choices.choices c.in_ok-given.ensures.ok c.in_ok-choices.ensures.said (sym c.in-None.ensures.said) said)

pub returns-in-None-clause-fault : goal.returns-in-None-clause-fault
returns-in-None-clause-fault c =
    refused (map (λ w. w.now) c.args.words.now) c.in_ok-given.given c.in_ok-choices.choices _ c.in_ok-given.ensures.ok c.in_ok-choices.ensures.said (sym c.in-None.ensures.said) c.refusal_of.ensures
