use Rattle.std.proofs.Common.{List, Contains, sym, ◌∙◌, subst, rules}
use Rattle.std.specs.List.Sorted.{IsSortedByKey}
use Rattle.std.proofs.lemmas.List.Sorted.{answers_always, Contains-permutation, IsPermutation-sym}
use Rattle.gen_match.specs.declared.finding.Finding.{Finding}
use Rattle.gen_match.specs.Findings.{AreFindings}
use Rattle.gen_audit.specs.Sorting.{sorting_rank, rank_cmp}
use Rattle.gen_audit.proofs.Sorted.{one_new, one_same, all_once, are_findings_as}
use Rattle.gen_audit.proofs.sorting.in_order.Goals as goal
use Rattle.gen_audit.proofs.sorting.in_order.Goals.{then-is_new+in_ok-push, else-is_new}

pub loop-finding-preserved : goal.loop-finding-preserved
loop-finding-preserved c =
    let sorted = c.deref-finding-items.result.now in
    let rises : IsSortedByKey sorting_rank rank_cmp sorted = rw c.deref-finding-items.ensures.value (c.in_ok-sort_by_key.ensures.sorted sorting_rank (answers_always _ _ _ (λ f a r g h. search rules))) in
    let i = c.loop-finding.finding-index in
    let out = c.loop-finding.once.items in
    let x = c.finding-item.result in
    elim c.if-is_new.branch [
      | then-is_new+in_ok-push w ↦ rw (w.once-is, w.in_ok-push.ensures.items) (one_new sorted rises i x out c.loop-finding-test.true c.finding-item.is c.loop-finding.invariant (λ front e. w.if-is_new.ensures.yes front (c.as_slice.ensures.value ∙ e)))
      | else-is_new w ↦ rw w.once-is (one_same sorted rises i x out c.loop-finding-test.true c.finding-item.is c.loop-finding.invariant (let p = w.if-is_new.ensures.no in (p.0, sym c.as_slice.ensures.value ∙ p.1)))
    ]

pub returns : goal.returns
returns c =
    let before = c.args.findings.items in
    let after = c.sort_by_key.new.self.items in
    let sorted = c.deref-finding-items.result.now in
    let rises : IsSortedByKey sorting_rank rank_cmp sorted = rw c.deref-finding-items.ensures.value (c.in_ok-sort_by_key.ensures.sorted sorting_rank (answers_always _ _ _ (λ f a r g h. search rules))) in
    let out = c.loop-finding.once.items in
    let once : AreFindings (Contains sorted) out = all_once sorted rises c.loop-finding.finding-index out c.loop-finding-test.false c.loop-finding.invariant in
    let moved = c.in_ok-sort_by_key.ensures.permutation in
    are_findings_as (Contains after) (Contains before) (λ f. (
      Contains-permutation after before f (IsPermutation-sym before after moved),
      Contains-permutation before after f moved,
    )) out (subst (λ (fs : List Finding). AreFindings (Contains fs) out) c.deref-finding-items.ensures.value once)
