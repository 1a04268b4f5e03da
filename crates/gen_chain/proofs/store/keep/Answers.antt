use Rattle.std.proofs.Common.{◌≡◌, ◌++◌, ◌∷◌, [], ◌∙◌, sym, ap, subst, Some, None, is_some}
use Rattle.std.specs.BTreeMap.{BTreeMap, is_at, insert_entry, Updates}
use Rattle.std.specs.Global.{Vec}
use Rattle.gen_chain.specs.Keeping.{verified_cmp, items_of}
use Rattle.gen_chain.specs.Store.{kept_count}
use Rattle.gen_chain.specs.declared.kept.Kept.{Kept}
use Rattle.gen_chain.specs.declared.kept.Verified.{Verified}
use Rattle.gen_chain.proofs.KeptAnswers.{count_insert, count_set, at_err_too, kept_get, kept_here, kept_others, set_same}
use Rattle.gen_chain.proofs.store.keep.Goals as goal

pub returns-in_err-push-clause-err : goal.returns-in_err-push-clause-err
returns-in_err-push-clause-err c =
    let after = c.get_mut.follows.holds c.push.new.self in
    at_err_too c.from_residual.result _ (ap items_of after.0 ∙ set_same (is_at (verified_cmp c.args.verified)) c.args.kept.now.entries c.in-Some.signatures.now c.push.new.self (sym c.in-Some.ensures.value) c.in_err-push.ensures.items)

pub returns-in-Some-clause-here : goal.returns-in-Some-clause-here
returns-in-Some-clause-here c =
    let after = c.get_mut.follows.holds c.push.new.self in
    let changed = after.3 (ap is_some (sym c.in-Some.ensures.value)) in
    let m = c.args.kept.now in
    kept_here m (c.get_mut.follows.lender c.push.new.self) c.args.verified c.push.new.self changed ∙ c.in_ok-push.ensures.items ∙ ap (λ xs. xs ++ c.args.last ∷ []) (sym (kept_get m c.args.verified (Some c.in-Some.signatures.now) (sym c.in-Some.ensures.value)))

pub returns-in-Some-clause-others : goal.returns-in-Some-clause-others
returns-in-Some-clause-others c =
    let after = c.get_mut.follows.holds c.push.new.self in
    let changed = after.3 (ap is_some (sym c.in-Some.ensures.value)) in
    kept_others c.args.kept.now (c.get_mut.follows.lender c.push.new.self) c.args.verified c.push.new.self changed

pub returns-in-Some-clause-count : goal.returns-in-Some-clause-count
returns-in-Some-clause-count c =
    let after = c.get_mut.follows.holds c.push.new.self in
    ap (λ es. kept_count (record { kept = items_of es })) after.0 ∙ count_set (is_at (verified_cmp c.args.verified)) c.args.kept.now.entries c.in-Some.signatures.now c.push.new.self c.args.last (sym c.in-Some.ensures.value) c.in_ok-push.ensures.items

pub returns-clause-count : goal.returns-clause-count
returns-clause-count c =
    let same = c.get_mut.follows.holds-at-none in
    let w : c.push-2.new.self.items ≡ c.args.last ∷ [] = c.in_ok-push-2.ensures.items ∙ ap (λ xs. xs ++ c.args.last ∷ []) c.new-signatures.ensures.items in
    let inserted = subst (λ (k : BTreeMap Verified (Vec Kept)). c.insert.new.self.entries ≡ insert_entry verified_cmp k.entries c.args.verified c.push-2.new.self) same c.in_ok-insert.ensures.entries in
    ap (λ es. kept_count (record { kept = items_of es })) inserted ∙ count_insert c.args.kept.now c.args.verified c.push-2.new.self c.args.last c.get_mut.ensures.ordered (sym c.in_default.ensures.value) w

pub returns-clause-here : goal.returns-clause-here
returns-clause-here c =
    let m = c.args.kept.now in
    let changed = subst (λ k. Updates verified_cmp k c.insert.new.self c.args.verified (Some c.push-2.new.self)) c.get_mut.follows.holds-at-none c.in_ok-insert.ensures.updates in
    kept_here m c.insert.new.self c.args.verified c.push-2.new.self changed ∙ c.in_ok-push-2.ensures.items ∙ ap (λ xs. xs ++ c.args.last ∷ []) (c.new-signatures.ensures.items ∙ sym (kept_get m c.args.verified None (sym c.in_default.ensures.value)))

pub returns-clause-others : goal.returns-clause-others
returns-clause-others c =
    let changed = subst (λ k. Updates verified_cmp k c.insert.new.self c.args.verified (Some c.push-2.new.self)) c.get_mut.follows.holds-at-none c.in_ok-insert.ensures.updates in
    kept_others c.args.kept.now c.insert.new.self c.args.verified c.push-2.new.self changed
