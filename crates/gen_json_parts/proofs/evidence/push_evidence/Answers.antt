use Rattle.std.proofs.Common.{◌≡◌, ◌∙◌, ◌++◌, ℕ, Bool, List, codes, Result, Ok, Err, OnOk, ap, append_assoc}
use Rattle.serde_json.specs.Data.{Data}
use Rattle.serde_json.specs.View.{view}
use Rattle.serde_json.specs.Written.{has_float}
use Rattle.gen_net.specs.Header.{RunHeader}
use Rattle.gen_convict.specs.Evidence.{Accusation, told_of}
use Rattle.gen_json_parts.specs.BundleData.{end_line}
use Rattle.gen_json.specs.EvidenceData.{evidence_data}
use Rattle.gen_json_parts.specs.EvidenceLines.{claim_lines, evidence_line}
use Rattle.gen_json_parts.specs.HeaderData.{header_lines}
use Rattle.gen_json.specs.Line.{json_line}
use Rattle.gen_json.proofs.PlainEvidence.{evidence_plain}
use Rattle.gen_json_parts.proofs.evidence.push_evidence.Goals as goal

pub push_value-requires : goal.push_value-requires
push_value-requires c = ap has_float c.in_ok-value.ensures ∙ evidence_plain c.args.header.now (told_of c.args.evidence.now) c.args.holds

-- what the last call appends stands behind what the first one appended
behind : {E : Type 0} (r : Result (Unit {0}) E) (old first mid others new : List ℕ) → mid ≡ old ++ first
    → OnOk r (new ≡ mid ++ others) → OnOk r (new ≡ old ++ (first ++ others))
behind (Ok done) old first mid others new before after =
    (after ∙ ap (λ (xs : List ℕ). xs ++ others) before) ∙ append_assoc old first others
behind (Err e) old first mid others new before after = tt

told_line : (h : RunHeader) (e : Accusation) (holds : Bool) (d : Data) → d ≡ evidence_data h e holds
    → json_line d ≡ evidence_line holds (record { header = h; evidence = e })
told_line h e holds d same = unfold evidence_line in ap (λ (x : Data). json_line x) same

pub returns : goal.returns
returns c =
    let h = c.args.header.now in
    let e = told_of c.args.evidence.now in
    let one = c.push_header.new.out.items in
    let two = c.push_claim.new.out.items in
    let three = c.push_value.new.out.items in
    let new = c.push_end.new.out.items in
    let front = header_lines (codes "evidence") h in
    let claim = claim_lines h e.accused e.claim in
    let line = evidence_line c.args.holds (record { header = h; evidence = e }) in
    let lined : three ≡ two ++ line = c.in_ok-push_value.ensures ∙ ap (λ (xs : List ℕ). two ++ xs) (told_line h e c.args.holds (view c.in_ok-value.value) c.in_ok-value.ensures) in
    behind c.push_end.result c.args.out.now.items front one (claim ++ (line ++ end_line)) new c.in_ok-push_header.ensures
    (behind c.push_end.result one claim two (line ++ end_line) new c.in_ok-push_claim.ensures
    (behind c.push_end.result two line three end_line new lined c.push_end.ensures))
