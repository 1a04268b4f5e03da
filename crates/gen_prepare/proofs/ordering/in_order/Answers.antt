use Rattle.std.proofs.Common.{◌≡◌, ap, sym, ◌∙◌, ◌++◌, [], List}
use Rattle.std.proofs.lemmas.List.{append-nil, nil_from_length}
use Rattle.gen_log.specs.Writing.{LogBytes}
use Rattle.gen_audit.specs.Bundle.{exhibits_of}
use Rattle.gen_prepare.proofs.Ordered.{one_more}
use Rattle.gen_prepare.proofs.ordering.in_order.Goals as goal

pub generals-preserved : goal.generals-preserved
generals-preserved c =
    let none : c.logs.rest.now ≡ [] = nil_from_length _ c.in_default.ensures.cases in
    sym (append-nil c.logs.ordered.items) ∙ ap (λ (xs : List LogBytes). c.logs.ordered.items ++ exhibits_of xs c.generals.general) (sym none) ∙ c.logs.invariant
    ∙ ap (λ (xs : List LogBytes). xs ++ exhibits_of c.args.logs.now c.generals.general) c.generals.invariant
    ∙ one_more (exhibits_of c.args.logs.now) c.generals.general
