-- Whether all verdicts are a yes, as the test says.
use Rattle.std.proofs.Common.{◌≡◌, true, List, refl}
use Rattle.std.specs.Bool.{Decides}
use Rattle.std.specs.List.{list_all}
use Rattle.std.proofs.lemmas.List.Elements.{All-weaker}
use Rattle.std.proofs.lemmas.List.Sums.{AllPass-from_list_all, list_all-from_AllPass}
use Rattle.gen_audit.specs.declared.verdicts.Judgement.{Judgement}
use Rattle.gen_audit.specs.declared.verdicts.Verdict.{Verdict}
use Rattle.gen_audit.specs.declared.verdicts.Verdict.TheVariants.{Agreed, Explained, No}
use Rattle.gen_audit.specs.Headline.{IsYes}
use Rattle.gen_campaign.specs.Judged.{AreYes, says_yes}

yes_gives : (v : Verdict) → says_yes v ≡ true → IsYes v
yes_gives (Agreed order) e = tt
yes_gives (Explained decisions) e = tt
yes_gives (No findings) e = absurd cc

yes_told : (v : Verdict) → IsYes v → says_yes v ≡ true
yes_told (Agreed order) is = refl
yes_told (Explained decisions) is = refl
yes_told (No findings) is = absurd is

pub all_decide : (judgements : List Judgement) → Decides (list_all (λ (j : Judgement). says_yes j.verdict) judgements) (AreYes judgements)
all_decide judgements = (
  λ e. All-weaker (λ (j : Judgement). says_yes j.verdict ≡ true) (λ (j : Judgement). IsYes j.verdict) (λ j s. yes_gives j.verdict s) judgements (AllPass-from_list_all (λ (j : Judgement). says_yes j.verdict) judgements e),
  λ are. list_all-from_AllPass (λ (j : Judgement). says_yes j.verdict) judgements (All-weaker (λ (j : Judgement). IsYes j.verdict) (λ (j : Judgement). says_yes j.verdict ≡ true) (λ j is. yes_told j.verdict is) judgements are),
)
