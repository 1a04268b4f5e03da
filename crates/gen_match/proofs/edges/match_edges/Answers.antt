use Rattle.std.proofs.Common.{◌≡◌, ◌∙◌, ap, sym, subst, map}
use Rattle.gen_match.specs.declared.kinds.Kind.TheVariants.{OneSided}
use Rattle.gen_match.specs.Findings.{AreFindings}
use Rattle.gen_match.specs.Matching.{FindsUnmatched}
use Rattle.gen_match.specs.Ranks.{finding_at}
use Rattle.gen_match.specs.Reports.{told_logs}
use Rattle.gen_match.proofs.OneSided.{unmatched_found}
use Rattle.gen_match.proofs.Strays.{then_ok}
use Rattle.gen_match.proofs.edges.match_edges.Goals as goal

pub returns : goal.returns
returns c =
    let counted = c.counted-counted.ensures in
    let all = unmatched_found c.args.header.now.network c.args.faulty.now (told_logs c.args.reports.now) c.counted-counted.result c.in_ok-sent.sent.items c.in_ok-received.received.items c.in_ok-ranks.ranks.items c.net.ensures.header.network.ranges.few_generals (rw c.net.ensures.value at c.counted-counted.ensures) c.in_ok-sent.ensures.small c.in_ok-sent.ensures.keys c.in_ok-received.ensures.keys (rw (c.as_slice.ensures.value, c.as_slice-2.ensures.value) at c.in_ok-ranks.ensures) in
    then_ok (λ f. f.items ≡ map (finding_at OneSided) c.as_slice-3.result.now) (λ f. AreFindings (FindsUnmatched c.args.header.now.network c.args.faulty.now (told_logs c.args.reports.now)) f.items) c.findings_at.result
    (λ f e. subst (AreFindings (FindsUnmatched c.args.header.now.network c.args.faulty.now (told_logs c.args.reports.now))) (sym (e ∙ ap (map (finding_at OneSided)) c.as_slice-3.ensures.value)) all)
    c.findings_at.ensures
