use Rattle.std.proofs.Common.{◌≡◌, ◌<◌, ◌++◌, ◌∷◌, ◌∙◌, List, length, take, drop, sym, ap, subst, arith}
use Rattle.std.proofs.lemmas.List.{append-nil, nil_from_length}
use Rattle.gen_local.specs.Report.{AreReportsOf}
use Rattle.gen_log.specs.Writing.{LogBytes}
use Rattle.gen_audit.proofs.Dealt.{split_first}
use Rattle.gen_audit.proofs.Reporting.{has_next_report, next_hands, next_reports, put_one}
use Rattle.gen_audit.proofs.merging.merged.Goals as goal

has_first : (xs ys : List LogBytes) (x : LogBytes) → xs ≡ x ∷ ys → 0 < length xs
has_first xs ys x parts = rw parts (omega arith)

pub remove-report-requires : goal.remove-report-requires
remove-report-requires c =
    let h = c.args.header.now in
    let hands = c.rounds.hands.items in
    let are = c.rounds.invariant.0 in
    let left = has_first _ _ _ c.in-Some.ensures.cases.0 in
    let some : 0 < length hands = (let n = are.count in omega arith) in
    let first = split_first hands c.remove-hand.new.self.items c.remove-hand.result some c.remove-hand.ensures.value c.remove-hand.ensures.items in
    let low : 0 < length c.remove-hand.result.reports.items = has_next_report h c.args.last c.rounds.rest.now hands c.remove-hand.new.self.items c.remove-hand.result left are first in
    omega (arith, c.remove-hand.result.reports.ok)

pub rounds-preserved : goal.rounds-preserved
rounds-preserved c =
    let h = c.args.header.now in
    let rest = c.rounds.rest.now in
    let hands = c.rounds.hands.items in
    let are = c.rounds.invariant.0 in
    let i = c.rounds.invariant.1 in
    let left = has_first _ _ _ c.in-Some.ensures.cases.0 in
    let some : 0 < length hands = (let n = are.count in omega arith) in
    let first = split_first hands c.remove-hand.new.self.items c.remove-hand.result some c.remove-hand.ensures.value c.remove-hand.ensures.items in
    let low = has_next_report h c.args.last rest hands c.remove-hand.new.self.items c.remove-hand.result left are first in
    let cut = split_first c.remove-hand.result.reports.items c.remove-report.new.self.items c.remove-report.result low c.remove-report.ensures.value c.remove-report.ensures.items in
    let others : c.in-Some.others.now ≡ drop 1 rest = sym (ap (λ (xs : List LogBytes). drop 1 xs) c.in-Some.ensures.cases.0) in (
      rw (others, c.in_ok-push-2.ensures.items) (next_hands h c.args.last rest hands c.remove-hand.new.self.items c.remove-hand.result (record { reports = c.remove-report.new.self }) c.remove-report.result left are first cut),
      (
        i.0 ++ take 1 rest,
        put_one c.args.exhibits.now i.0 rest c.in-Some.others.now others i.1,
        rw c.in_ok-push.ensures.items (next_reports h c.args.last rest hands c.remove-hand.new.self.items c.remove-hand.result c.remove-report.result c.remove-report.new.self.items left are first cut i.0 c.rounds.reports.items i.2),
      ),
    )

pub returns : goal.returns
returns c =
    let i = c.rounds.invariant.1 in
    let done = i.1 ∙ (ap (λ (xs : List LogBytes). i.0 ++ xs) (nil_from_length _ c.in_default.ensures.cases) ∙ append-nil i.0) in
    subst (λ (xs : List LogBytes). AreReportsOf c.args.header.now xs c.rounds.reports.items) (sym done) i.2
