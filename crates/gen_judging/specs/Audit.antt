-- What the job audit makes of its input.
use Rattle.std.specs.Prelude.{◌≡◌, ◌<◌, ◌↔◌, ℕ, Bool, true, false, List, [], ◌∷◌, All, Option, Some, None, Err}
use Rattle.gen_audit.specs.Bundle.{Bundle}
use Rattle.gen_audit.specs.Headline.{Headline}
use Rattle.gen_audit.specs.Supported.{IsSupported}
use Rattle.gen_audit.specs.Verdict.{IsVerdict}
use Rattle.gen_audit.specs.declared.verdicts.Judgement.{Judgement}
use Rattle.gen_audit.specs.declared.verdicts.Verdict.{Verdict}
use Rattle.gen_audit.specs.declared.verdicts.Verdict.TheVariants.{Agreed, Explained, No}
use Rattle.gen_convict.specs.AcrossLaws.{AreConvictedAcross, AreEvidenceAcross, ConvictsAcrossWhereHeld}
use Rattle.gen_convict.specs.Convictions.{AreConvictions, ConvictsWhereHeld}
use Rattle.gen_convict.specs.Evidence.{Accusation}
use Rattle.gen_report.specs.VerdictText.{verdict_text}
use Rattle.gen_campaign.specs.Campaign.{CampaignBundle}
use Rattle.gen_campaign.specs.CampaignReading.{whole_campaign}
use Rattle.gen_campaign.specs.Judged.{AreJudged, shown_bundles}
use Rattle.gen_verdicts.specs.CampaignVerdictText.{campaign_text, several_text}
use Rattle.gen_json_files.specs.CampaignData.{campaign_data, several_data}
use Rattle.gen_json.specs.Line.{json_line}
use Rattle.gen_json.specs.OriginData.{Origin}
use Rattle.gen_json_parts.specs.VerdictData.{judgement_data}
use Rattle.gen_ends.specs.declared.ends.JobFault.{JobFault}
use Rattle.gen_ends.specs.declared.ends.JobFault.TheVariants as faults

-- whether a verdict is a no
abbrev pub is_no : Verdict → Bool
is_no (Agreed order) = false
is_no (Explained decisions) = false
is_no (No findings) = true

-- a verdict on a bundle and its convictions: as text, or as JSON with where the answer comes from
abbrev pub judgement_text : Option Origin → Bundle → Verdict → List Accusation → List ℕ
judgement_text None b verdict convictions = verdict_text b.header verdict convictions
judgement_text (Some o) b verdict convictions = json_line (judgement_data (Some o) b verdict convictions)

-- the judgements on the runs of a campaign and the convictions across them, in one of these forms
abbrev pub judgements_text : Option Origin → List Bundle → List Judgement → List Accusation → List ℕ
judgements_text None bundles judgements across = several_text bundles judgements across
judgements_text (Some o) bundles judgements across = json_line (several_data o bundles judgements across)

-- the judgements on what is shown and the convictions across its runs, in one of these forms
abbrev pub shown_text : Option Origin → CampaignBundle → List Judgement → List Accusation → List ℕ
shown_text None shown judgements across = campaign_text shown judgements across
shown_text (Some o) shown judgements across = json_line (campaign_data o shown judgements across)

-- The text is that of the judgement on a bundle in one of these forms: its verdict, and the convictions that
-- its exhibits give. It says no if and only if the bundle doesn't support a yes.
pub record Audits (origin : Option Origin) (bundle : Bundle) (text : List ℕ) (negative : Bool) : Type 0 where
  pub verdict : Verdict
  pub judged : IsVerdict bundle verdict
  pub headline : Headline bundle verdict
  pub convictions : List Accusation
  pub convicted : AreConvictions bundle.header bundle.exhibits convictions
  pub held : ConvictsWhereHeld bundle.header bundle.exhibits convictions
  pub text_is : text ≡ judgement_text origin bundle verdict convictions
  pub negative_is : negative ≡ is_no verdict
  pub supported : (negative ≡ false) ↔ IsSupported bundle

-- The text is that of the judgements on the runs of a campaign, and of the convictions across them, in one of
-- these forms. Each of these convictions can be written as evidence. It says no if and only if some run's
-- bundle doesn't support a yes.
pub record AuditsRuns (origin : Option Origin) (bundles : List Bundle) (text : List ℕ) (negative : Bool)
    : Type 0 where
  pub judgements : List Judgement
  pub judged : AreJudged bundles judgements
  pub across : List Accusation
  pub convicted : AreConvictedAcross (shown_bundles bundles) across
  pub held : ConvictsAcrossWhereHeld (shown_bundles bundles) across
  pub lawful : AreEvidenceAcross across
  pub text_is : text ≡ judgements_text origin bundles judgements across
  pub supported : (negative ≡ false) ↔ All IsSupported bundles

-- the text is that of the audit of one bundle that stands alone, or of the bundles of a campaign, in one of
-- these forms
abbrev pub AuditsShown : Option Origin → Bool → List Bundle → List ℕ → Bool → Type 0
AuditsShown origin true [] text negative = ⊥
AuditsShown origin true (b ∷ []) text negative = Audits origin b text negative
AuditsShown origin true (b ∷ c ∷ others) text negative = ⊥
AuditsShown origin false bundles text negative = AuditsRuns origin bundles text negative

-- the first fault of an input that spells no campaign and no bundle; or memory was refused
abbrev pub IsAuditFault : List ℕ → JobFault → Type 0
IsAuditFault input faults.Memory = Unit {0}
IsAuditFault input (faults.Campaign f) = whole_campaign input ≡ Err f
IsAuditFault input _ = ⊥

-- a job by so many workers has one of these faults; or a thread was refused, which several workers need alone
abbrev pub ByWorkers : ℕ → (JobFault → Type 0) → JobFault → Type 0
ByWorkers workers IsFault faults.Thread = 1 < workers
ByWorkers workers IsFault fault = IsFault fault
