use Rattle.std.proofs.Common.{◌≡◌, ◌<◌, ◌∙◌, ap, sym, inl, inr, Some, arith, ◌∷◌, []}
use Rattle.std.proofs.lemmas.Option.{MatchOption-at_some}
use Rattle.gen_types.specs.Heights.{leaves_of}
use Rattle.gen_chain.specs.Chain.{Chain}
use Rattle.gen_general.specs.Following.{IsSignedWith}
use Rattle.gen_scenario.specs.Part.{own_keys}
use Rattle.gen_general.proofs.Relaying.{some_result, begun_alone, own_leaf, own_taken, own_chain}
use Rattle.gen_general.proofs.following.sign_own.Goals as goal

pub unwrap-key-requires : goal.unwrap-key-requires
unwrap-key-requires c =
    let first : c.args.round ≡ 1 = cc in
    let below : c.leaf_of_order.result < leaves_of c.args.ring.now.height = rw c.requires.ring c.leaf_of_order.ensures.below in
    let signed : IsSignedWith c.args.header.now (Some c.args.own) [] c.args.round c.leaf_of_order.result =
    rw first ((own_leaf c.args.header.now c.args.own c.leaf_of_order.result c.requires.own).1 c.leaf_of_order.ensures.value) in
    some_result c.take.result (λ none. elim (c.take.ensures.none.0 none) [
      | inl above ↦ absurd (omega (arith, above, below))
      | inr taken ↦ c.requires.leaf c.leaf_of_order.result signed taken
    ])

pub returns-clause-chains : goal.returns-clause-chains
returns-clause-chains c =
    let first : c.args.round ≡ 1 = cc in
    let some : c.take.result ≡ Some c.unwrap-key.result = cc in
    let key = MatchOption-at_some _ _ c.unwrap-key.result some c.take.ensures.key in
    let made = rw (c.leaf_of_order.ensures.value, c.requires.ring) at key in
    let chain = c.begin_chain-chain.ensures.chain ∙ begun_alone c.args.header.now c.args.ring.now.seed c.args.own c.unwrap-key.result made in
    let pushed = rw (c.unwrap.ensures, c.in_ok-signed.ensures.items) at c.push.ensures.items in
    pushed ∙ ap (λ (k : Chain). k ∷ []) chain ∙ sym (own_chain (own_keys c.args.header.now c.args.ring.now.seed) c.args.own c.args.round first)

pub returns-clause-taken : goal.returns-clause-taken
returns-clause-taken c =
    let first : c.args.round ≡ 1 = cc in
    let some : c.take.result ≡ Some c.unwrap-key.result = cc in
    let listed = MatchOption-at_some _ _ c.unwrap-key.result some c.take.ensures.taken in
    let taken = rw c.leaf_of_order.ensures.value at listed.members in
    rw first (own_taken c.args.header.now c.args.own c.args.ring.now.taken c.take.new.self.taken c.requires.own taken)
