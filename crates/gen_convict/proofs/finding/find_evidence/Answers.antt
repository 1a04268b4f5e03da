use Rattle.std.proofs.Common.{◌≡◌, ◌≤◌, ◌++◌, ◌+◌, ◌-◌, ℕ, List, Some, map, sym, ap, subst, arith, ◌∙◌}
use Rattle.std.specs.List.{range_with_len}
use Rattle.std.specs.Option.{option_map}
use Rattle.std.proofs.lemmas.List.{append-nil, map-append}
use Rattle.gen_local.specs.Report.{LocalReport}
use Rattle.gen_convict.specs.Convictions.{AreConvictions, AreEvidence, AreFirst, ConvictsWhereHeld, shown_in}
use Rattle.gen_convict.specs.Evidence.{Accusation, told_of}
use Rattle.gen_convict.specs.FindingClaims.{claim_for, accusing, accusations}
use Rattle.gen_convict.specs.Told.{told}
use Rattle.gen_convict.proofs.Convicting.{one_more, each_found, convictions_found, are_of}
use Rattle.gen_convict.proofs.Lawful.{found_lawful}
use Rattle.gen_convict.proofs.WhereHeld.{convicts_where_held}
use Rattle.gen_convict.proofs.finding.find_evidence.Goals as goal
use Rattle.gen_convict.proofs.finding.find_evidence.Goals.{in-None, in-Some+in_ok-push-in-Some}

pub loop-number-preserved : goal.loop-number-preserved
loop-number-preserved c =
    let reports = c.args.reports.now in
    let i = c.loop-number.number in
    let n = c.generals-generals.result in
    let done = map told_of c.loop-number.found.items in
    let claimed = c.in_ok-claim_against.ensures ∙ ap (claim_for reports) c.at-accused.ensures in
    let added : map told_of c.match-branch-2.found.items ≡ done ++ accusing i (claim_for reports i) = elim c.match-branch-2.branch [
      | in-None w ↦ rw w.found-is (sym (append-nil done) ∙ ap (λ k. done ++ accusing i k) (sym (ap (option_map told) w.in-None.is) ∙ claimed))
      | in-Some+in_ok-push-in-Some w ↦
          ap (λ e. map told_of e.items) w.found-is
          ∙ ap (map told_of) w.in_ok-push-in-Some.ensures.items
          ∙ map-append told_of c.loop-number.found.items _
          ∙ ap (λ g. done ++ accusing g (Some (told w.in-Some.claim))) c.at-accused.ensures
          ∙ ap (λ k. done ++ accusing i k) (sym (ap (option_map told) w.in-Some.is) ∙ claimed)
    ] in
    ap (λ xs. xs ++ accusations reports (range_with_len (i + 1) (n - (i + 1)))) added
    ∙ sym (one_more reports done i n c.loop-number-test.true)
    ∙ c.loop-number.invariant

-- behind the last general nothing is left
all_found : (reports : List LocalReport) (done : List Accusation) (i n m : ℕ) → n ≤ i → n ≡ m → done ++ accusations reports (range_with_len i (n - i)) ≡ accusations reports (range_with_len 0 n) → done ≡ accusations reports (range_with_len 0 m)
all_found reports done i n m end same so_far =
    let none : n - i ≡ 0 = omega (arith, end) in
    sym (append-nil done) ∙ ap (λ k. done ++ accusations reports (range_with_len i k)) (sym none) ∙ so_far ∙ ap (λ k. accusations reports (range_with_len 0 k)) same

pub returns-clause-right : goal.returns-clause-right
returns-clause-right c =
    let h = c.args.header.now in
    let reports = c.args.reports.now in
    let are = are_of h reports c.requires c.note_reports.ensures in
    let generals = c.generals-generals.ensures.value ∙ ap (λ n. n.generals) c.net.ensures.value in
    let all = all_found reports (map told_of c.loop-number.found.items) c.loop-number.number c.generals-generals.result h.network.generals c.loop-number-test.false generals c.loop-number.invariant in
    subst (AreFirst h (shown_in reports)) (sym all) (λ x k. (each_found h reports are x k).1)

pub returns-clause-found : goal.returns-clause-found
returns-clause-found c = λ short.
    let h = c.args.header.now in
    let reports = c.args.reports.now in
    let are = are_of h reports c.requires c.note_reports.ensures in
    let generals = c.generals-generals.ensures.value ∙ ap (λ n. n.generals) c.net.ensures.value in
    let all = all_found reports (map told_of c.loop-number.found.items) c.loop-number.number c.generals-generals.result h.network.generals c.loop-number-test.false generals c.loop-number.invariant in
    subst (AreConvictions h (shown_in reports)) (sym all) (convictions_found h reports are c.net.ensures.header short)

pub returns-clause-held : goal.returns-clause-held
returns-clause-held c = λ short.
    let h = c.args.header.now in
    let reports = c.args.reports.now in
    let are = are_of h reports c.requires c.note_reports.ensures in
    let generals = c.generals-generals.ensures.value ∙ ap (λ n. n.generals) c.net.ensures.value in
    let all = all_found reports (map told_of c.loop-number.found.items) c.loop-number.number c.generals-generals.result h.network.generals c.loop-number-test.false generals c.loop-number.invariant in
    subst (ConvictsWhereHeld h (shown_in reports)) (sym all) (convicts_where_held h reports are c.net.ensures.header (accusations reports (range_with_len 0 h.network.generals)) (convictions_found h reports are c.net.ensures.header short))

pub returns-clause-lawful : goal.returns-clause-lawful
returns-clause-lawful c = λ short.
    let h = c.args.header.now in
    let reports = c.args.reports.now in
    let are = are_of h reports c.requires c.note_reports.ensures in
    let generals = c.generals-generals.ensures.value ∙ ap (λ n. n.generals) c.net.ensures.value in
    let all = all_found reports (map told_of c.loop-number.found.items) c.loop-number.number c.generals-generals.result h.network.generals c.loop-number-test.false generals c.loop-number.invariant in
    subst (AreEvidence h) (sym all) (λ x k. found_lawful h reports c.net.ensures.header are short x (each_found h reports are x k))
