use Rattle.std.proofs.Common.{rules, ◌≡◌, ◌+◌, List, map, subst}
use Rattle.std.proofs.lemmas.List.{nil_from_length}
use Rattle.gen_net.specs.Version.{slot_in}
use Rattle.gen_scenario.specs.Rows.{logs_of_all}
use Rattle.gen_scenario.specs.Scenario.{Scenario}
use Rattle.gen_campaign.specs.Leaves.{AreKept}
use Rattle.gen_campaign.proofs.Testing.{like_head, slots_kept}
use Rattle.gen_campaign.proofs.Keeping.{all_next, logs_done, logs_next, logs_none, may_serve}
use Rattle.gen_campaign.proofs.runs.run_all.Goals as goal

pub runs-init : goal.runs-init
runs-init g c = (0, c.requires.apart, c.requires.alike, c.requires.kept, logs_none c.new-all.result.items (λ logs. logs.items) (map logs_of_all c.args.scenarios.now) (search rules))

pub run_with_rings-requires-clause-rings : goal.run_with_rings-requires-clause-rings
run_with_rings-requires-clause-rings g c κs within =
    let i = c.runs.invariant in
    let first = c.args.first.now in
    let s = c.in-Some.scenario.now in
    let rest = c.runs.rest.now in
    let others = c.in-Some.others.now in
    let e = c.in-Some.ensures.cases.0 in
    may_serve first s c.args.scenarios.now rest i.0 c.runs.rings.items (like_head first s others rest e i.2).0 (slots_kept i.0 s others rest e i.1).0 i.3

pub runs-preserved : goal.runs-preserved
runs-preserved g c =
    let i = c.runs.invariant in
    let first = c.args.first.now in
    let s = c.in-Some.scenario.now in
    let rest = c.runs.rest.now in
    let others = c.in-Some.others.now in
    let e = c.in-Some.ensures.cases.0 in
    let like = like_head first s others rest e i.2 in
    let up = slots_kept i.0 s others rest e i.1 in (
      slot_in s.version + 1,
      up.1,
      like.1,
      all_next first s c.args.scenarios.now rest others i.0 c.runs.rings.items c.in_ok-logs.back.items e like.0 up.0 i.3 c.in_ok-logs.ensures.rings,
      logs_next c.runs.all.items c.keep.new.lists.items c.in_ok-logs.logs (λ logs. logs.items) s rest others (map logs_of_all c.args.scenarios.now) c.in_ok-keep.ensures c.in_ok-logs.ensures.logs e i.4,
    )

pub returns-clause-logs : goal.returns-clause-logs
returns-clause-logs g c =
    let i = c.runs.invariant in
    logs_done c.runs.all.items (λ logs. logs.items) c.runs.rest.now (map logs_of_all c.args.scenarios.now) (nil_from_length _ c.in_default.ensures.cases) i.4

pub returns-clause-kept : goal.returns-clause-kept
returns-clause-kept g c =
    let i = c.runs.invariant in
    (i.0, subst (λ (xs : List Scenario). AreKept c.args.first.now c.args.scenarios.now xs i.0 c.runs.rings.items) (nil_from_length _ c.in_default.ensures.cases) i.3)
