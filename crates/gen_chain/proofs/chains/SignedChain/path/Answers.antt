use Rattle.std.proofs.Common.{◌∙◌, ap, subst}
use Rattle.std.proofs.lemmas.List.{nil_from_length}
use Rattle.gen_chain.specs.Chain.{IsSignedChain, signed_path}
use Rattle.gen_chain.proofs.DistinctPaths.{next_fits, next_is_new, next_path, whole_path}
use Rattle.gen_chain.proofs.chains.SignedChain.path.Goals as goal

pub loop-signer-init : goal.loop-signer-init
loop-signer-init c = rw c.new-path.ensures (ap signed_path (c.as_slice-rest.ensures.value ∙ ap (λ k. k.signers) c.self.view_is))

pub push_new-requires-clause-room : goal.push_new-requires-clause-room
push_new-requires-clause-room c =
    let is = subst (IsSignedChain c.self.inside.height) c.self.view_is c.self.invariant in
    next_fits c.loop-signer.path c.loop-signer.rest.now c.in-Some.others.now c.args.self.now.signers c.in-Some.signer.now is.few c.in-Some.ensures.cases.0 c.loop-signer.invariant

pub push_new-requires-clause-new : goal.push_new-requires-clause-new
push_new-requires-clause-new c =
    let is = subst (IsSignedChain c.self.inside.height) c.self.view_is c.self.invariant in
    next_is_new c.loop-signer.path c.loop-signer.rest.now c.in-Some.others.now c.args.self.now.signers c.in-Some.signer.now is.distinct c.in-Some.ensures.cases.0 c.loop-signer.invariant

pub loop-signer-preserved : goal.loop-signer-preserved
loop-signer-preserved c = next_path c.loop-signer.path c.push_new.new.self c.loop-signer.rest.now c.in-Some.others.now c.args.self.now.signers c.in-Some.signer.now c.in-Some.ensures.cases.0 c.push_new.ensures c.loop-signer.invariant

pub returns : goal.returns
returns c = whole_path c.loop-signer.path c.loop-signer.rest.now c.args.self.now.signers (nil_from_length _ c.in_default.ensures.cases) c.loop-signer.invariant
