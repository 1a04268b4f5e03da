-- The generals of a scenario before the first round.
use Rattle.std.proofs.Common.{◌≡◌, ℕ, List, refl, sym, subst, ◌∙◌, Option, Some, None}
use Rattle.gen_types.proofs.Lists.{Contains_nil}
use Rattle.gen_tree.specs.Rings.{Ring}
use Rattle.gen_script.specs.declared.lines.ScriptLine.{ScriptLine}
use Rattle.gen_scenario.specs.Scenario.{Scenario, IsScenario, header_of, script_of}
use Rattle.gen_scenario.specs.SignedWorld.{heard_by}
use Rattle.gen_scenario.specs.Part.{part_of, own_keys}
use Rattle.gen_scenario.specs.PartLaws.{AreHisKeys}
use Rattle.gen_general.specs.Participant.{Participant, MayStart, keys_at, at_start}
use Rattle.gen_general.specs.ParticipantLaws.{StartsAsHe, IsOwnRing}
use Rattle.gen_general.specs.Recording.{recorder_at_start, Recorder}
use Rattle.gen_general.specs.DrivenRecords.{RecordsAfter}
use Rattle.gen_general.specs.Driving.{StandsAfter}
use Rattle.gen_scenario.specs.Rings.{ring_under, ring_at}
use Rattle.gen_general.proofs.Recorders.{until_none}
use Rattle.gen_scenario.proofs.KeysEnough.{keys_are_enough, own_seed_is_enough, known_trees_are_enough}

may_start_with : (s : Scenario) (g : ℕ) (script : Option (List ScriptLine)) → script_of s.scripts g ≡ script → MayStart (part_of s g) (ring_under s g script)
may_start_with s g None e = (e, record { height = refl; free = λ n few h. absurd (Contains_nil _ h) })
may_start_with s g (Some lines) e = λ none. let both : Some lines ≡ None = sym e ∙ none in absurd cc

pub may_start : (s : Scenario) (g : ℕ) → MayStart (part_of s g) (ring_at s g)
may_start s g = may_start_with s g (script_of s.scripts g) refl

his_keys : (s : Scenario) (g : ℕ) (ring : Option Ring) (script : Option (List ScriptLine)) → script_of s.scripts g ≡ script → IsOwnRing s g script ring → AreHisKeys s g (keys_at (part_of s g) ring)
his_keys s g (Some ring) None e own = subst (λ seed. AreHisKeys s g (own_keys (header_of s) seed)) (sym own) (own_seed_is_enough s g e)
his_keys s g None None e own = absurd own
his_keys s g (Some ring) (Some lines) e own = absurd own
his_keys s g None (Some lines) e own = known_trees_are_enough s g lines e

pub starts_as_he : StartsAsHe
starts_as_he s g ring ok own = record {
  header = refl;
  me = refl;
  own = refl;
  alike = keys_are_enough s ok g (keys_at (part_of s g) ring) (his_keys s g ring (script_of s.scripts g) refl own);
}

own_ring : (s : Scenario) (g : ℕ) (script : Option (List ScriptLine)) → IsOwnRing s g script (ring_under s g script)
own_ring s g None = refl
own_ring s g (Some lines) = record {}

pub stands : (s : Scenario) (g : ℕ) (p : Participant) → IsScenario s → p ≡ at_start (part_of s g) (ring_at s g) → StandsAfter s 0 g p
unfolding heard_by
stands s g p ok e =
    let there : StandsAfter s 0 g (at_start (part_of s g) (ring_at s g)) = record {
      part = starts_as_he s g (ring_at s g) ok (own_ring s g (script_of s.scripts g));
      heard = refl;
      round = refl;
    } in
    subst (λ x. StandsAfter s 0 g x) (sym e) there

pub records : (s : Scenario) (g : ℕ) (r : Recorder) → IsScenario s → r ≡ recorder_at_start (part_of s g) (ring_at s g) → RecordsAfter s 0 g r
records s g r ok e =
    let there : RecordsAfter s 0 g (recorder_at_start (part_of s g) (ring_at s g)) = record {
      standing = stands s g (at_start (part_of s g) (ring_at s g)) ok refl;
      written = until_none s g;
    } in
    subst (λ x. RecordsAfter s 0 g x) (sym e) there
