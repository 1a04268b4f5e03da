use Rattle.std.proofs.Common.{◌++◌, List, Contains, sym, ap, ◌∙◌}
use Rattle.std.specs.List.{flat_map}
use Rattle.std.proofs.lemmas.Result.{IfOk-weaker}
use Rattle.gen_log.specs.Writing.{LogBytes}
use Rattle.gen_match.specs.Matching.{FindsUnmatched, FindsUnderivable}
use Rattle.gen_match.specs.Reports.{told_logs}
use Rattle.gen_audit.specs.Collecting.{shown_found, AddsFindings, FindsBetween}
use Rattle.gen_audit.specs.Findings.{IsFinding}
use Rattle.gen_audit.proofs.AllFound.{all_found}
use Rattle.gen_audit.proofs.Collecting.{adds_both, adds_part}
use Rattle.gen_audit.proofs.Sorted.{are_findings_as}
use Rattle.gen_audit.proofs.findings_collected.findings_in.Goals as goal

pub match_edges-requires : goal.match_edges-requires
match_edges-requires c = λ r h. c.requires.reports.header r h ∙ sym c.header-header.ensures.value

pub check_derived-requires : goal.check_derived-requires
check_derived-requires c = λ r h. c.requires.reports.header r h ∙ sym c.header-header.ensures.value

pub returns : goal.returns
returns c =
    let b = c.args.bundle.now in
    let rest = c.args.rest.now in
    let reports = c.args.reports.now in
    let net = b.header.network in
    let logs = told_logs reports in
    let amounts = c.add_amounts.new.findings.items in
    let read = c.add_reports.new.findings.items in
    let edges = c.in_ok-edges.edges.items in
    let derived = c.in_ok-derived.derived.items in
    let all = c.add_unjoined.new.findings.items in
    let between : AddsFindings (FindsBetween net b.faulty logs) read ((read ++ edges) ++ derived) =
    adds_both (FindsUnmatched net b.faulty logs) (FindsUnderivable net b.faulty logs) read (read ++ edges) ((read ++ edges) ++ derived)
    (adds_part (FindsUnmatched net b.faulty logs) read edges (rw (← c.header-header.ensures.value, ← c.faulty-faulty.ensures) c.in_ok-edges.ensures.members))
    (adds_part (FindsUnderivable net b.faulty logs) (read ++ edges) derived (rw (← c.header-header.ensures.value, ← c.faulty-faulty.ensures) c.in_ok-derived.ensures.members)) in
    let found = all_found b rest c.requires.rest reports c.requires.reports amounts read ((read ++ edges) ++ derived) all (record {
      first = c.in_ok-add_amounts.ensures ∙ ap (λ xs. xs ++ flat_map (shown_found c.exhibits.result.now) rest) c.new-findings.ensures.items ∙ ap (λ (xs : List LogBytes). flat_map (shown_found xs) rest) c.exhibits.ensures;
      second = c.in_ok-add_reports.ensures;
      third = between;
      fourth = rw (← c.header-header.ensures.value, ← c.net.ensures.value, ← c.walks.ensures, ← c.as_slice.ensures.value, ← c.as_slice-2.ensures.value, ← c.in_ok-extend_from_slice.ensures.items, ← c.in_ok-extend_from_slice-2.ensures.items) c.in_ok-add_unjoined.ensures;
    }) in
    IfOk-weaker c.in_order.result _ _ (λ out are. are_findings_as (Contains all) (IsFinding b) found out.items are) c.in_order.ensures
