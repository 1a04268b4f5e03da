-- What the job draw makes of its input.
use Rattle.std.specs.Prelude.{◌≡◌, ℕ, Bool, true, false, List, [], ◌∷◌, map}
use Rattle.gen_audit.specs.Bundle.{Bundle}
use Rattle.gen_audit.specs.declared.verdicts.Judgement.{Judgement}
use Rattle.gen_convict.specs.AcrossLaws.{AreConvictedAcross, ConvictsAcrossWhereHeld}
use Rattle.gen_convict.specs.Evidence.{Accusation, told_of}
use Rattle.gen_campaign.specs.Judged.{AreJudged, IsJudged, shown_bundles}
use Rattle.gen_draw.specs.Picture.{picture}
use Rattle.gen_draw.specs.Several.{several_picture}

-- the picture of a bundle and of a judgement on it
abbrev pub picture_with : Bundle → Judgement → List ℕ
picture_with b j = picture b.header b.faulty b.exhibits j.verdict (map told_of j.convictions.items)

-- the picture of the first bundle and the first judgement; no bytes if one of them is missing
abbrev pub first_picture : List Bundle → List Judgement → List ℕ
first_picture [] judgements = []
first_picture (b ∷ bundles) [] = []
first_picture (b ∷ bundles) (j ∷ judgements) = picture_with b j

-- The text is the picture of a bundle and of the judgement on it, which is the one of the job audit.
pub record Draws (bundle : Bundle) (text : List ℕ) : Type 0 where
  pub judgement : Judgement
  pub judged : IsJudged bundle judgement
  pub text_is : text ≡ picture_with bundle judgement

-- The text is the picture of the runs of a campaign, of the judgements on them, and of the convictions across
-- them.
pub record DrawsRuns (bundles : List Bundle) (text : List ℕ) : Type 0 where
  pub judgements : List Judgement
  pub judged : AreJudged bundles judgements
  pub across : List Accusation
  pub convicted : AreConvictedAcross (shown_bundles bundles) across
  pub held : ConvictsAcrossWhereHeld (shown_bundles bundles) across
  pub text_is : text ≡ several_picture bundles judgements across

-- the text is the picture of one bundle that stands alone, or of the bundles of a campaign
abbrev pub DrawsForm : Bool → List Bundle → List ℕ → Type 0
DrawsForm true [] text = ⊥
DrawsForm true (b ∷ []) text = Draws b text
DrawsForm true (b ∷ c ∷ others) text = ⊥
DrawsForm false bundles text = DrawsRuns bundles text
