use Rattle.std.proofs.Common.{take, sym, ap, ◌∙◌}
use Rattle.std.proofs.lemmas.List.{take_at}
use Rattle.gen_ots.specs.Signatures.{signed_leaf_value}
use Rattle.gen_ots.specs.Sizes.{ots_length}
use Rattle.gen_tree.proofs.claims.SignatureClaim.signed.Goals as goal

pub returns : goal.returns
returns c =
    let front = ap (take ots_length) (sym c.signature.view_is) ∙ take_at c.signature.inside.pairs _ ots_length c.signature.invariant.0 in
    sym (ap (λ p. signed_leaf_value p c.args.self.now.digest) front)
