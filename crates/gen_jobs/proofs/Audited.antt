-- Whether a verdict is a no.
use Rattle.std.proofs.Common.{◌≡◌, ◌↔◌, false, refl}
use Rattle.gen_audit.specs.Bundle.{Bundle}
use Rattle.gen_audit.specs.Headline.{Headline, IsYes}
use Rattle.gen_audit.specs.Supported.{IsSupported}
use Rattle.gen_audit.specs.declared.verdicts.Verdict.{Verdict}
use Rattle.gen_audit.specs.declared.verdicts.Verdict.TheVariants.{Agreed, Explained, No}
use Rattle.gen_judging.specs.Audit.{is_no}

yes_is_no_no : (v : Verdict) → (is_no v ≡ false) ↔ IsYes v
yes_is_no_no (Agreed order) = ((λ e. tt), (λ yes_it. refl))
yes_is_no_no (Explained decisions) = ((λ e. tt), (λ yes_it. refl))
yes_is_no_no (No findings) = ((λ e. absurd cc), (λ yes_it. absurd yes_it))

pub supported : (b : Bundle) (v : Verdict) → Headline b v → (is_no v ≡ false) ↔ IsSupported b
supported b v headline =
    let both = yes_is_no_no v in ((λ e. headline.exactly.0 (both.0 e)), (λ is. both.1 (headline.exactly.1 is)))
