use Rattle.std.proofs.Common.{◌≡◌, ◌∙◌, sym, subst, Contains}
use Rattle.std.proofs.lemmas.List.Elements.{Contains-get_or}
use Rattle.gen_net.specs.Header.{height_of}
use Rattle.gen_chain.specs.Chain.{IsSignedChain}
use Rattle.gen_scenario.specs.SignerTrees.{keys_with}
use Rattle.gen_general.proofs.SignerSteps.{by_none, along_one, next_new}
use Rattle.gen_general.proofs.signing.lengthen_along.Goals as goal

pub signers-init : goal.signers-init
signers-init c =
    let same : c.in_ok-longer.longer ≡ c.args.chain.now = c.in_ok-longer.ensures.cases in
    record {
      chain = same ∙ sym (by_none (keys_with c.args.header.now c.args.trees.now) c.args.chain.now);
      height = subst (IsSignedChain (height_of c.args.header.now)) (sym same) c.requires.height;
    }

pub lengthen_by-requires-clause-signer : goal.lengthen_by-requires-clause-signer
lengthen_by-requires-clause-signer c = c.requires.signers c.general-item.result (subst (Contains c.args.path.now) (sym c.general-item.is) (Contains-get_or c.args.path.now c.signers.general-index c.general-item.result c.signers-test.true))

pub lengthen_by-requires-clause-new : goal.lengthen_by-requires-clause-new
lengthen_by-requires-clause-new c = next_new (keys_with c.args.header.now c.args.trees.now) c.args.chain.now c.signers.longer c.args.path.now c.signers.general-index c.general-item.result c.signers-test.true c.general-item.is c.signers.invariant.chain c.requires.distinct c.requires.new

pub signers-preserved : goal.signers-preserved
signers-preserved c = record {
  chain = along_one (keys_with c.args.header.now c.args.trees.now) c.args.chain.now c.args.path.now c.signers.general-index c.general-item.result c.signers.longer c.in_ok-longer-2.longer c.signers-test.true c.general-item.is c.signers.invariant.chain c.in_ok-longer-2.ensures.chain;
  height = c.in_ok-longer-2.ensures.height;
}
