use Rattle.std.proofs.Common.{◌≡◌, ◌≤◌, ◌++◌, ◌+◌, ◌-◌, ℕ, List, Some, Contains, length, map, drop, sym, ap, subst, refl, arith, ◌∙◌}
use Rattle.std.specs.List.{range_with_len}
use Rattle.std.specs.Option.{option_map}
use Rattle.std.proofs.lemmas.List.{append-nil, drop_all, map-append}
use Rattle.gen_log.specs.Fields.{AreBelow}
use Rattle.gen_local.specs.Report.{LocalReport, IsReport}
use Rattle.gen_net.specs.Header.{RunHeader, IsHeader}
use Rattle.gen_convict.specs.AcrossFinding.{RunReports, first_rivals, his_across, accusing_across, accusations_across, runs_of}
use Rattle.gen_convict.specs.AcrossLaws.{AreConvictedAcross, AreEvidenceAcross, ConvictsAcrossWhereHeld, shown_runs}
use Rattle.gen_convict.specs.Evidence.{Accusation, told_of}
use Rattle.gen_convict.specs.Seen.{seen, seen_run}
use Rattle.gen_convict.specs.declared.run_texts.RunText.{RunText}
use Rattle.gen_convict.specs.declared.seen_texts.SeenText.{SeenText}
use Rattle.gen_convict.proofs.AcrossFound.{AreOfRuns, convicted_across, held_across, lawful_across, one_more, none_more}
use Rattle.gen_convict.proofs.Convicting.{are_of}
use Rattle.gen_convict.proofs.across_finding.find_across.Goals as goal
use Rattle.gen_convict.proofs.across_finding.find_across.Goals.{in-Some+in_ok-first+in_ok-second+in_ok-push-2, in_default}

abbrev shown : SeenText × SeenText → RunText × RunText
shown p = (seen p.0, seen p.1)

pub loop-number-preserved : goal.loop-number-preserved
loop-number-preserved c =
    let runs = map seen_run c.as_slice-seen.result.now in
    let i = c.loop-number.number in
    let done = map told_of c.loop-number.found.items in
    let his : option_map shown c.in_ok-rivals.rivals ≡ first_rivals (his_across i runs) =
    c.in_ok-rivals.ensures ∙ ap (λ ts. first_rivals (map seen ts)) c.as_slice-in-loop-number.ensures.value ∙ ap first_rivals c.in_ok-texts.ensures ∙ ap (λ g. first_rivals (his_across g runs)) c.at-accused.ensures in
    let added : map told_of c.match-rivals.found.items ≡ done ++ accusing_across i (first_rivals (his_across i runs)) = elim c.match-rivals.branch [
      | in_default w ↦ rw w.found-is (sym (append-nil done) ∙ ap (λ k. done ++ accusing_across i k) (sym (ap (option_map shown) w.in_default.is) ∙ his))
      | in-Some+in_ok-first+in_ok-second+in_ok-push-2 w ↦
          ap (λ e. map told_of e.items) w.found-is
          ∙ ap (map told_of) w.in_ok-push-2.ensures.items
          ∙ map-append told_of c.loop-number.found.items _
          ∙ ap (λ (p : RunText × RunText). done ++ accusing_across c.at-accused.result (Some p)) (λ k. (w.in_ok-first.ensures k, w.in_ok-second.ensures k))
          ∙ ap (λ g. done ++ accusing_across g (Some (shown (w.in-Some.first, w.in-Some.second)))) c.at-accused.ensures
          ∙ ap (λ k. done ++ accusing_across i k) (sym (ap (option_map shown) w.in-Some.is) ∙ his)
    ] in
    ap (λ xs. xs ++ accusations_across runs (range_with_len (i + 1) (16 - (i + 1)))) added
    ∙ sym (one_more runs done i 16 c.loop-number-test.true)
    ∙ c.loop-number.invariant

-- behind the last header nothing is left to see
all_seen : (headers : List RunHeader) (lists : List (List LocalReport)) (done all : List RunReports) (place : ℕ) → length headers ≤ place → done ++ runs_of (drop place headers) lists ≡ all → done ≡ all
all_seen headers lists done all place end so_far =
    sym (append-nil done) ∙ ap (λ hs. done ++ runs_of hs lists) (sym (drop_all place headers end)) ∙ so_far

-- behind the last general nothing is left to find
all_found : (runs : List RunReports) (done : List Accusation) (i : ℕ) → 16 ≤ i → done ++ accusations_across runs (range_with_len i (16 - i)) ≡ accusations_across runs (range_with_len 0 16) → done ≡ accusations_across runs (range_with_len 0 16)
all_found runs done i end so_far = sym (append-nil done) ∙ sym (none_more runs done 16 i end) ∙ so_far

pub returns-clause-found : goal.returns-clause-found
returns-clause-found c =
    let runs = runs_of c.args.headers.now (map (λ v. v.items) c.args.reports.now) in
    let read = map seen_run c.as_slice-seen.result.now in
    let same : read ≡ runs = ap (map seen_run) c.as_slice-seen.ensures.value ∙ all_seen c.args.headers.now (map (λ v. v.items) (drop c.runs.place c.args.reports.now)) (map seen_run c.runs.runs.items) runs c.runs.place (omega (arith, c.runs-test.false)) c.runs.invariant in
    let noted : (r : RunReports) → Contains runs r → IsHeader r.header × ((x : LocalReport) → Contains r.reports x → IsReport x × AreBelow 256 x.exhibit.bytes) = λ r k. c.note_runs.ensures r (subst (λ rs. Contains rs r) (sym same) k) in
    let are : AreOfRuns runs = λ r k. are_of r.header r.reports (c.requires.under r k) (noted r k).1 in
    let found : map told_of c.loop-number.found.items ≡ accusations_across runs (range_with_len 0 16) = all_found read (map told_of c.loop-number.found.items) c.loop-number.number c.loop-number-test.false c.loop-number.invariant ∙ ap (λ rs. accusations_across rs (range_with_len 0 16)) same in
    subst (AreConvictedAcross (shown_runs runs)) (sym found) (convicted_across runs are 16 refl)

pub returns-clause-held : goal.returns-clause-held
returns-clause-held c =
    let runs = runs_of c.args.headers.now (map (λ v. v.items) c.args.reports.now) in
    let read = map seen_run c.as_slice-seen.result.now in
    let same : read ≡ runs = ap (map seen_run) c.as_slice-seen.ensures.value ∙ all_seen c.args.headers.now (map (λ v. v.items) (drop c.runs.place c.args.reports.now)) (map seen_run c.runs.runs.items) runs c.runs.place (omega (arith, c.runs-test.false)) c.runs.invariant in
    let noted : (r : RunReports) → Contains runs r → IsHeader r.header × ((x : LocalReport) → Contains r.reports x → IsReport x × AreBelow 256 x.exhibit.bytes) = λ r k. c.note_runs.ensures r (subst (λ rs. Contains rs r) (sym same) k) in
    let are : AreOfRuns runs = λ r k. are_of r.header r.reports (c.requires.under r k) (noted r k).1 in
    let headers : (r : RunReports) → Contains runs r → IsHeader r.header = λ r k. (noted r k).0 in
    let found : map told_of c.loop-number.found.items ≡ accusations_across runs (range_with_len 0 16) = all_found read (map told_of c.loop-number.found.items) c.loop-number.number c.loop-number-test.false c.loop-number.invariant ∙ ap (λ rs. accusations_across rs (range_with_len 0 16)) same in
    subst (ConvictsAcrossWhereHeld (shown_runs runs)) (sym found) (held_across runs are headers 16 refl)

pub returns-clause-lawful : goal.returns-clause-lawful
returns-clause-lawful c =
    let runs = runs_of c.args.headers.now (map (λ v. v.items) c.args.reports.now) in
    let read = map seen_run c.as_slice-seen.result.now in
    let same : read ≡ runs = ap (map seen_run) c.as_slice-seen.ensures.value ∙ all_seen c.args.headers.now (map (λ v. v.items) (drop c.runs.place c.args.reports.now)) (map seen_run c.runs.runs.items) runs c.runs.place (omega (arith, c.runs-test.false)) c.runs.invariant in
    let noted : (r : RunReports) → Contains runs r → IsHeader r.header × ((x : LocalReport) → Contains r.reports x → IsReport x × AreBelow 256 x.exhibit.bytes) = λ r k. c.note_runs.ensures r (subst (λ rs. Contains rs r) (sym same) k) in
    let are : AreOfRuns runs = λ r k. are_of r.header r.reports (c.requires.under r k) (noted r k).1 in
    let headers : (r : RunReports) → Contains runs r → IsHeader r.header = λ r k. (noted r k).0 in
    let found : map told_of c.loop-number.found.items ≡ accusations_across runs (range_with_len 0 16) = all_found read (map told_of c.loop-number.found.items) c.loop-number.number c.loop-number-test.false c.loop-number.invariant ∙ ap (λ rs. accusations_across rs (range_with_len 0 16)) same in
    subst AreEvidenceAcross (sym found) (lawful_across runs are headers 16)
