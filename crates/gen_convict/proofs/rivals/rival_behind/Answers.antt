use Rattle.std.proofs.Common.{◌≡◌, ◌∷◌, ◌+◌, Bool, true, List, map, drop, refl, sym, ap, ◌∙◌}
use Rattle.std.specs.List.{list_any}
use Rattle.std.proofs.lemmas.List.{drop_more}
use Rattle.gen_chain.proofs.TestedChains.{and_so}
use Rattle.gen_net.specs.SameHeaders.{same_header}
use Rattle.gen_convict.specs.declared.seen_texts.SeenText.{SeenText}
use Rattle.gen_convict.specs.AcrossFinding.{is_beside}
use Rattle.gen_convict.specs.Finding.{is_like}
use Rattle.gen_convict.specs.Seen.{seen}
use Rattle.gen_convict.proofs.AcrossAlone.{none_met, covered}
use Rattle.gen_convict.proofs.rivals.rival_behind.Goals as goal

any_here : {X : Type 0} (p : X → Bool) (x : X) (xs : List X) → p x ≡ true → list_any p (x ∷ xs) ≡ true
any_here p x xs e = rw e refl

pub returns-then-eq-clause-rival : goal.returns-then-eq-clause-rival
unfolding is_beside
returns-then-eq-clause-rival c =
    let y = seen c.args.text in
    let items = c.as_slice-other-items.result.now in
    let i = c.kept.other-index in
    let x = c.other-item.result in
    let split : drop i items ≡ x ∷ drop (i + 1) items = drop_more items i x c.kept-test.true ∙ ap (λ (z : SeenText). z ∷ drop (i + 1) items) (sym c.other-item.is) in
    let beside : is_beside (seen x) y ≡ true = and_so (is_like x.text.now.text c.args.text.text.now.text) (same_header x.header.now c.args.text.header.now) (sym c.is_like.ensures ∙ c.if-is_like.true) (sym c.eq.ensures ∙ c.if-eq.true) in
    let here = any_here (λ z. is_beside z y) (seen x) (map seen (drop (i + 1) items)) beside in
    let kept : list_any (λ z. is_beside z y) (map seen c.args.alone.now.items) ≡ true = sym c.kept.invariant ∙ ap (λ (zs : List SeenText). list_any (λ z. is_beside z y) (map seen zs)) split ∙ here in
    sym (covered (map seen c.args.alone.now.items) y (map seen c.args.others.now) c.requires kept)

pub returns-then-not-has_meeting-clause-rival : goal.returns-then-not-has_meeting-clause-rival
returns-then-not-has_meeting-clause-rival c = sym (none_met (seen c.args.text) (map seen c.args.others.now) (sym c.has_meeting.ensures ∙ c.if-not-has_meeting.true))
