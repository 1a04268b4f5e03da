use Rattle.std.proofs.Common.{◌≡◌, ℕ, List, [], ◌∷◌, ◌++◌, take, sym, ap, subst, ◌∙◌}
use Rattle.gen_chain.specs.declared.chains.Signer.{Signer}
use Rattle.gen_chain.specs.Chain.{signed_path}
use Rattle.gen_chain.specs.Signings.{next_triples, triple_next}
use Rattle.gen_chain.proofs.DistinctPaths.{AreDistinct, not_before}
use Rattle.gen_chain.proofs.SignedFour.{first_four, moved, triples_of_four}
use Rattle.gen_chain.proofs.signings.next_four.Goals as goal

pub next-requires-clause-new : goal.next-requires-clause-new
next-requires-clause-new c =
    let r0 = c.index-rest-0.result in
    let r1 = c.index-rest-1.result in
    let r2 = c.index-rest-2.result in
    let r3 = c.index-rest-3.result in
    let whole : r0 ∷ r1 ∷ r2 ∷ r3 ∷ [] ≡ take 4 c.args.rest.now = (λ i. c.index-rest-0.is i ∷ c.index-rest-1.is i ∷ c.index-rest-2.is i ∷ c.index-rest-3.is i ∷ []) ∙ first_four c.args.rest.now r0 r1 r2 r3 c.requires.many in
    let d0 = subst (λ (xs : List Signer). AreDistinct (c.args.path.now ++ signed_path xs)) (sym whole) c.requires.distinct in
    not_before c.args.path.now (r1.general ∷ r2.general ∷ r3.general ∷ []) r0.general d0

pub next-requires-2-clause-new : goal.next-requires-2-clause-new
next-requires-2-clause-new c =
    let r0 = c.index-rest-0.result in
    let r1 = c.index-rest-1.result in
    let r2 = c.index-rest-2.result in
    let r3 = c.index-rest-3.result in
    let whole : r0 ∷ r1 ∷ r2 ∷ r3 ∷ [] ≡ take 4 c.args.rest.now = (λ i. c.index-rest-0.is i ∷ c.index-rest-1.is i ∷ c.index-rest-2.is i ∷ c.index-rest-3.is i ∷ []) ∙ first_four c.args.rest.now r0 r1 r2 r3 c.requires.many in
    let d0 = subst (λ (xs : List Signer). AreDistinct (c.args.path.now ++ signed_path xs)) (sym whole) c.requires.distinct in
    let d1 = moved c.args.path.now r0.general (r1.general ∷ r2.general ∷ r3.general ∷ []) c.next.new.path c.next.ensures.path d0 in
    not_before c.next.new.path (r2.general ∷ r3.general ∷ []) r1.general d1

pub next-requires-3-clause-new : goal.next-requires-3-clause-new
next-requires-3-clause-new c =
    let r0 = c.index-rest-0.result in
    let r1 = c.index-rest-1.result in
    let r2 = c.index-rest-2.result in
    let r3 = c.index-rest-3.result in
    let whole : r0 ∷ r1 ∷ r2 ∷ r3 ∷ [] ≡ take 4 c.args.rest.now = (λ i. c.index-rest-0.is i ∷ c.index-rest-1.is i ∷ c.index-rest-2.is i ∷ c.index-rest-3.is i ∷ []) ∙ first_four c.args.rest.now r0 r1 r2 r3 c.requires.many in
    let d0 = subst (λ (xs : List Signer). AreDistinct (c.args.path.now ++ signed_path xs)) (sym whole) c.requires.distinct in
    let d1 = moved c.args.path.now r0.general (r1.general ∷ r2.general ∷ r3.general ∷ []) c.next.new.path c.next.ensures.path d0 in
    let d2 = moved c.next.new.path r1.general (r2.general ∷ r3.general ∷ []) c.next-2.new.path c.next-2.ensures.path d1 in
    not_before c.next-2.new.path (r3.general ∷ []) r2.general d2

pub next-requires-4-clause-new : goal.next-requires-4-clause-new
next-requires-4-clause-new c =
    let r0 = c.index-rest-0.result in
    let r1 = c.index-rest-1.result in
    let r2 = c.index-rest-2.result in
    let r3 = c.index-rest-3.result in
    let whole : r0 ∷ r1 ∷ r2 ∷ r3 ∷ [] ≡ take 4 c.args.rest.now = (λ i. c.index-rest-0.is i ∷ c.index-rest-1.is i ∷ c.index-rest-2.is i ∷ c.index-rest-3.is i ∷ []) ∙ first_four c.args.rest.now r0 r1 r2 r3 c.requires.many in
    let d0 = subst (λ (xs : List Signer). AreDistinct (c.args.path.now ++ signed_path xs)) (sym whole) c.requires.distinct in
    let d1 = moved c.args.path.now r0.general (r1.general ∷ r2.general ∷ r3.general ∷ []) c.next.new.path c.next.ensures.path d0 in
    let d2 = moved c.next.new.path r1.general (r2.general ∷ r3.general ∷ []) c.next-2.new.path c.next-2.ensures.path d1 in
    let d3 = moved c.next-2.new.path r2.general (r3.general ∷ []) c.next-3.new.path c.next-3.ensures.path d2 in
    not_before c.next-3.new.path ([]) r3.general d3

pub returns-clause-value : goal.returns-clause-value
returns-clause-value c =
    let r0 = c.index-rest-0.result in
    let r1 = c.index-rest-1.result in
    let r2 = c.index-rest-2.result in
    let r3 = c.index-rest-3.result in
    let whole : r0 ∷ r1 ∷ r2 ∷ r3 ∷ [] ≡ take 4 c.args.rest.now = (λ i. c.index-rest-0.is i ∷ c.index-rest-1.is i ∷ c.index-rest-2.is i ∷ c.index-rest-3.is i ∷ []) ∙ first_four c.args.rest.now r0 r1 r2 r3 c.requires.many in
    let path = c.args.path.now in
    let order = c.args.order in
    let p1 = c.next.ensures.path in
    let p2 = c.next-2.ensures.path ∙ ap (λ (p : List ℕ). p ++ r1.general ∷ []) p1 in
    let p3 = c.next-3.ensures.path ∙ ap (λ (p : List ℕ). p ++ r2.general ∷ []) p2 in
    let t1 = c.next-2.ensures.value ∙ ap (λ (p : List ℕ). triple_next order p r1) p1 in
    let t2 = c.next-3.ensures.value ∙ ap (λ (p : List ℕ). triple_next order p r2) p2 in
    let t3 = c.next-4.ensures.value ∙ ap (λ (p : List ℕ). triple_next order p r3) p3 in
    (λ i. c.next.ensures.value i ∷ t1 i ∷ t2 i ∷ t3 i ∷ []) ∙ sym (triples_of_four order path r0 r1 r2 r3) ∙ ap (next_triples order path) whole
