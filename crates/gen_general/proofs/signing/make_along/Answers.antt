use Rattle.std.proofs.Common.{rules, ◌≡◌, ◌≢◌, ℕ, sym, ap, subst, List, ◌∷◌, [], Contains, AllPairs, inl, inr}
use Rattle.gen_types.proofs.Lists.{Contains_here, Contains_there, Contains_cases, Contains_nil, AllPairs_head, AllPairs_tail}
use Rattle.std.proofs.lemmas.List.Elements.{All-contains}
use Rattle.gen_chain.specs.Chain.{Chain, signed_path}
use Rattle.gen_chain.specs.Making.{begun}
use Rattle.gen_scenario.specs.Signing.{order_key}
use Rattle.gen_scenario.specs.SignerTrees.{keys_with, CanSignAll}
use Rattle.gen_general.proofs.IfOks.{if_ok}
use Rattle.gen_general.proofs.SignerSteps.{behind_first, first_signed}
use Rattle.gen_general.proofs.signing.make_along.Goals as goal

pub tree_of-requires : goal.tree_of-requires
tree_of-requires c = rw c.commander.ensures (c.requires.signers 0 (subst (λ (p : List ℕ). Contains p 0) (sym c.requires.first.1) (Contains_here 0 c.requires.first.0)))

pub lengthen_along-requires-clause-signers : goal.lengthen_along-requires-clause-signers
lengthen_along-requires-clause-signers c =
    let rest = c.requires.first.0 in
    let all : CanSignAll c.args.header.now c.args.trees.now (0 ∷ rest) = subst (CanSignAll c.args.header.now c.args.trees.now) c.requires.first.1 c.requires.signers in
    rw (behind_first c.args.path.now c.generals.result.now rest c.generals.ensures c.requires.first.1) (λ g h. all g (Contains_there 0 g rest h))

pub lengthen_along-requires-clause-distinct : goal.lengthen_along-requires-clause-distinct
lengthen_along-requires-clause-distinct c =
    let rest = c.requires.first.0 in
    let apart : AllPairs (λ g h. g ≢ h) (0 ∷ rest) = subst (AllPairs (λ g h. g ≢ h)) c.requires.first.1 c.len-distinct.ensures.distinct in
    rw (behind_first c.args.path.now c.generals.result.now rest c.generals.ensures c.requires.first.1) (AllPairs_tail (λ g h. g ≢ h) 0 rest apart)

pub lengthen_along-requires-clause-new : goal.lengthen_along-requires-clause-new
lengthen_along-requires-clause-new c =
    let rest = c.requires.first.0 in
    let apart : AllPairs (λ g h. g ≢ h) (0 ∷ rest) = subst (AllPairs (λ g h. g ≢ h)) c.requires.first.1 c.len-distinct.ensures.distinct in
    let signed : signed_path c.begin_chain-first.result.signers ≡ 0 ∷ [] = ap (λ (x : Chain). signed_path x.signers) c.begin_chain-first.ensures.chain in
    rw (behind_first c.args.path.now c.generals.result.now rest c.generals.ensures c.requires.first.1) (λ g there old.
    elim (Contains_cases 0 g [] (subst (λ (p : List ℕ). Contains p g) signed old)) [
      | inl e ↦ All-contains (λ h. 0 ≢ h) rest g (AllPairs_head (λ a b. a ≢ b) 0 rest apart) there e
      | inr none ↦ Contains_nil g none
    ])

pub returns-clause-chain : goal.returns-clause-chain
returns-clause-chain c =
    let rest = c.requires.first.0 in
    let k = keys_with c.args.header.now c.args.trees.now in
    let begins : c.begin_chain-first.result ≡ begun c.args.header.now c.args.order (order_key k 0 c.args.order) = search rules in
    let longer = rw (behind_first c.args.path.now c.generals.result.now rest c.generals.ensures c.requires.first.1) at c.lengthen_along.ensures.chain in
    if_ok _ _ c.lengthen_along.result (λ new is. first_signed k c.args.order c.args.path.now rest c.begin_chain-first.result new c.requires.first.1 begins is) longer
