use Rattle.std.proofs.Common.{arith, subst, ◌≡◌, None}
use Rattle.gen_chain.specs.Keeping.{items_of}
use Rattle.gen_chain.specs.declared.kept.Kept.{Kept}
use Rattle.gen_chain.specs.Store.{Store, Triple, IsAfter, answer_in, answer_of, kept_at}
use Rattle.gen_chain.proofs.Storing.{after_one_more, once_more}
use Rattle.gen_chain.proofs.store.VerifyStore.keep_answer.Goals as goal

pub returns-clause-kept : goal.returns-clause-kept
returns-clause-kept c =
    let asked : Triple = record { signer = c.args.verified.signer; statement = c.args.verified.statement; signature = c.args.signature.now } in
    let new : Store = record { kept = items_of c.keep.new.kept.entries } in
    let last : Kept = record { signature = c.in_ok-share.field-0; answer = c.args.answer } in
    let old : Store = record { kept = items_of c.self.inside.kept.entries } in
    let none = rw (← c.self.view_is) at c.requires in
    subst (λ store. IsAfter store asked c.args.answer new) c.self.view_is
    (after_one_more old new asked last c.in_ok-share.ensures none c.in_ok-keep.ensures.here c.in_ok-keep.ensures.others c.in_ok-keep.ensures.count)

pub invariant_of-self-2 : goal.invariant_of-self-2
unfolding answer_of
invariant_of-self-2 c =
    let new : Store = record { kept = items_of c.keep.new.kept.entries } in
    let old : Store = record { kept = items_of c.self.inside.kept.entries } in
    let last : Kept = record { signature = c.in_ok-share.field-0; answer = c.args.answer } in
    let none : answer_in (kept_at old.kept c.args.verified) last.signature ≡ None = rw c.in_ok-share.ensures (rw (← c.self.view_is) at c.requires) in
    record {
      count = omega (arith, c.saturating_add-self-inside.ensures, c.self.invariant.count, c.in_ok-keep.ensures.count);
      once = once_more old new c.args.verified last c.self.invariant.once none c.in_ok-keep.ensures.here c.in_ok-keep.ensures.others;
    }
