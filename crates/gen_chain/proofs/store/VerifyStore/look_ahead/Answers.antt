use Rattle.std.proofs.Common.{◌≡◌, ◌<◌, ◌∙◌, Bool, false, List, Option, None, Some, length, map, slice_index_or, refl, sym, subst, arith}
use Rattle.std.specs.Prelude.{is_some}
use Rattle.std.proofs.lemmas.List.{get_or-map}
use Rattle.gen_chain.specs.Signings.{triple_of}
use Rattle.gen_chain.specs.Store.{Store, Triple, answer_of}
use Rattle.gen_chain.specs.declared.signings.Signing.{Signing}
use Rattle.gen_chain.proofs.SignedFour.{next_apart}
use Rattle.gen_chain.proofs.StoredSoFar.{first_unknown, keeps_four, next_few}
use Rattle.gen_chain.proofs.store.VerifyStore.look_ahead.Goals as goal

absent : (o : Option Bool) → is_some o ≡ false → o ≡ None
absent None e = refl
absent (Some answer) e = absurd cc

-- no answer is kept for the first of the claims
none_kept : (store : Store) (xs : List Signing) (d : Signing) (kept : Bool) → 0 < length xs → kept ≡ is_some (answer_of store (triple_of (slice_index_or xs 0 d))) → kept ≡ false
    → (other : Triple) → answer_of store (slice_index_or (map triple_of xs) 0 other) ≡ None
none_kept store xs d kept some is none other =
    subst (λ t. answer_of store t ≡ None) (sym (get_or-map triple_of xs 0 d other some)) (absent (answer_of store (triple_of (slice_index_or xs 0 d))) (sym is ∙ none))

pub returns-then-ahead-gt0-clause-count : goal.returns-then-ahead-gt0-clause-count
returns-then-ahead-gt0-clause-count c = omega (arith, next_few c.args.self.now c.args.order c.args.ahead c.args.path.now c.args.rest.now c.requires.ahead)

pub next_four-signings-requires-clause-distinct : goal.next_four-signings-requires-clause-distinct
next_four-signings-requires-clause-distinct c = next_apart c.args.path.now c.args.rest.now c.requires.distinct

pub returns-in_err-verify_lanes-clause-known : goal.returns-in_err-verify_lanes-clause-known
returns-in_err-verify_lanes-clause-known c = λ s others e is.
    let none = none_kept c.args.self.now c.next_four-signings.result c.index-signings-0.result c.keeps.result (omega (arith, c.next_four-signings.ensures.width)) c.keeps.ensures c.if-keeps.false in
    absurd (first_unknown c.args.self.now c.args.order c.args.path.now c.args.rest.now others s _ c.next_four-signings.ensures.value none e is)

pub returns-clause-ahead : goal.returns-clause-ahead
returns-clause-ahead c = (
  keeps_four c.verify_lanes.new.self c.args.order c.args.path.now c.args.rest.now _ (omega (arith, c.if-rest-lt4.false)) c.next_four-signings.ensures.value
      (λ j low other. c.in_ok-verify_lanes.ensures.kept j (omega (arith, c.next_four-signings.ensures.width)) other),
  omega (arith, c.in_ok-verify_lanes.ensures.count, c.next_four-signings.ensures.width, c.if-ahead-gt0.false),
)

pub returns-clause-known : goal.returns-clause-known
returns-clause-known c = λ s others e is.
    let none = none_kept c.args.self.now c.next_four-signings.result c.index-signings-0.result c.keeps.result (omega (arith, c.next_four-signings.ensures.width)) c.keeps.ensures c.if-keeps.false in
    absurd (first_unknown c.args.self.now c.args.order c.args.path.now c.args.rest.now others s _ c.next_four-signings.ensures.value none e is)
