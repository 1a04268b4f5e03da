-- A general as he is before the first round.
use Rattle.std.proofs.Common.{◌≡◌, ℕ, Option, Result, Ok, Err, refl, sym, ap, subst, ◌∙◌}
use Rattle.std.specs.Prelude.{IfOk, IfErr, MatchResult}
use Rattle.gen_tree.specs.Rings.{Ring}
use Rattle.gen_scenario.specs.Part.{Part, part_of}
use Rattle.gen_general.specs.Recording.{Recorder, recorder_at_start}
use Rattle.gen_scenario.specs.Scenario.{Scenario, IsScenario, script_of}
use Rattle.gen_general.specs.ParticipantLaws.{IsOwnRing}
use Rattle.gen_scenario.specs.SignedWorld.{heard_by}
use Rattle.gen_general.specs.DrivenRecords.{RecordsAfter}
use Rattle.gen_general.proofs.Recorders.{until_none}
use Rattle.gen_general.proofs.Starting.{starts_as_he}

first : (s : Scenario) (g : ℕ) (ring : Option Ring) → IsScenario s → IsOwnRing s g (script_of s.scripts g) ring → RecordsAfter s 0 g (recorder_at_start (part_of s g) ring)
unfolding heard_by
first s g ring ok own = record { standing = record { part = starts_as_he s g ring ok own; heard = refl; round = refl }; written = until_none s g }

pub started : (s : Scenario) (g : ℕ) (ring : Option Ring) → IsScenario s → IsOwnRing s g (script_of s.scripts g) ring → (k : Part) → k ≡ part_of s g → (r : Result Recorder (Option Ring))
    → IfOk r (λ x. x ≡ recorder_at_start k ring) → IfErr r (λ back. back ≡ ring) → MatchResult r (λ x. RecordsAfter s 0 g x × (x.standing.ring ≡ ring)) (λ back. back ≡ ring)
started s g ring ok own k is (Ok x) made back =
    let e : x ≡ recorder_at_start (part_of s g) ring = made ∙ ap (λ (j : Part). recorder_at_start j ring) is in
    (subst (λ (y : Recorder). RecordsAfter s 0 g y) (sym e) (first s g ring ok own), ap (λ (y : Recorder). y.standing.ring) made)
started s g ring ok own k is (Err b) made back = back
