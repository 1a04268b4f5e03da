use Rattle.std.proofs.Common.{◌≡◌, [], Some, IfOk, map, Bor, rules, ap, ◌∙◌}
use Rattle.std.specs.Option.{option_map}
use Rattle.gen_local.specs.declared.texts.SignedText.{SignedText}
use Rattle.gen_convict.specs.Finding.{his_texts, one_each}
use Rattle.gen_convict.specs.FindingClaims.{least_claim, claim_for}
use Rattle.gen_convict.specs.Told.{told}
use Rattle.gen_convict.proofs.Convicting.{if_ok, claim_same}
use Rattle.gen_convict.proofs.finding.claim_against.Goals as goal

pub returns-in-Some : goal.returns-in-Some
returns-in-Some c =
    let texts = map (λ (t : Bor SignedText). t.now) c.as_slice-texts.result.now in
    let firsts = map (λ (t : Bor SignedText). t.now) c.as_slice-firsts.result.now in
    let texts_are : texts ≡ his_texts c.args.general c.args.reports.now = ap (map (λ (t : Bor SignedText). t.now)) c.as_slice-texts.ensures.value ∙ c.in_ok-gathered.ensures in
    let firsts_are : firsts ≡ one_each [] texts = ap (map (λ (t : Bor SignedText). t.now)) c.as_slice-firsts.ensures.value ∙ c.in_ok-of_each.ensures in
    let least : option_map told (Some c.in-Some.claim) ≡ least_claim c.args.general firsts texts c.args.reports.now = search rules in
    least ∙ claim_same c.args.general firsts texts c.args.reports.now texts_are firsts_are

pub returns-in-Some-2 : goal.returns-in-Some-2
returns-in-Some-2 c =
    let texts = map (λ (t : Bor SignedText). t.now) c.as_slice-texts.result.now in
    let firsts = map (λ (t : Bor SignedText). t.now) c.as_slice-firsts.result.now in
    let texts_are : texts ≡ his_texts c.args.general c.args.reports.now = ap (map (λ (t : Bor SignedText). t.now)) c.as_slice-texts.ensures.value ∙ c.in_ok-gathered.ensures in
    let firsts_are : firsts ≡ one_each [] texts = ap (map (λ (t : Bor SignedText). t.now)) c.as_slice-firsts.ensures.value ∙ c.in_ok-of_each.ensures in
    let least : option_map told (Some c.in-Some-2.claim) ≡ least_claim c.args.general firsts texts c.args.reports.now = search rules in
    least ∙ claim_same c.args.general firsts texts c.args.reports.now texts_are firsts_are

pub returns-in-Some-3 : goal.returns-in-Some-3
returns-in-Some-3 c =
    let texts = map (λ (t : Bor SignedText). t.now) c.as_slice-texts.result.now in
    let firsts = map (λ (t : Bor SignedText). t.now) c.as_slice-firsts.result.now in
    let texts_are : texts ≡ his_texts c.args.general c.args.reports.now = ap (map (λ (t : Bor SignedText). t.now)) c.as_slice-texts.ensures.value ∙ c.in_ok-gathered.ensures in
    let firsts_are : firsts ≡ one_each [] texts = ap (map (λ (t : Bor SignedText). t.now)) c.as_slice-firsts.ensures.value ∙ c.in_ok-of_each.ensures in
    let least : option_map told (Some c.in-Some-3.claim) ≡ least_claim c.args.general firsts texts c.args.reports.now = search rules in
    least ∙ claim_same c.args.general firsts texts c.args.reports.now texts_are firsts_are

pub returns : goal.returns
returns c =
    let texts = map (λ (t : Bor SignedText). t.now) c.as_slice-texts.result.now in
    let firsts = map (λ (t : Bor SignedText). t.now) c.as_slice-firsts.result.now in
    let texts_are : texts ≡ his_texts c.args.general c.args.reports.now = ap (map (λ (t : Bor SignedText). t.now)) c.as_slice-texts.ensures.value ∙ c.in_ok-gathered.ensures in
    let firsts_are : firsts ≡ one_each [] texts = ap (map (λ (t : Bor SignedText). t.now)) c.as_slice-firsts.ensures.value ∙ c.in_ok-of_each.ensures in
    let least : IfOk c.departing_claim.result (λ claim. option_map told claim ≡ least_claim c.args.general firsts texts c.args.reports.now) = search rules in
    if_ok (λ claim. option_map told claim ≡ least_claim c.args.general firsts texts c.args.reports.now) (λ claim. option_map told claim ≡ claim_for c.args.reports.now c.args.general) c.departing_claim.result
    (λ claim e. e ∙ claim_same c.args.general firsts texts c.args.reports.now texts_are firsts_are)
    least
