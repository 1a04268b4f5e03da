use Rattle.std.proofs.Common.{rules, IsTrue}
use Rattle.gen_local.proofs.Grouped.{one_report_more}
use Rattle.gen_judge.proofs.reports.add_report.Goals as goal

pub returns : goal.returns
returns c = λ before are _.
    let is : IsTrue c.is_report_of.result = search rules in
    let same = c.is_report_of.ensures.0 is in
    rw c.in_ok-push.ensures.items (one_report_more c.args.header.now before c.args.reports.now.items c.in-Some.report c.args.exhibit.now are same.0 same.1 c.reading-lawful.ensures.report)
