-- The bundle of a scenario's run, made of its parts.
use Rattle.std.proofs.Common.{◌≡◌, ◌∙◌, List, ℕ, Result, Ok, rules}
use Rattle.std.specs.Result.{IsOk}
use Rattle.gen_net.specs.Header.{RunHeader}
use Rattle.gen_log.specs.Writing.{LogBytes}
use Rattle.gen_scenario.specs.Rows.{logs_of_all}
use Rattle.gen_scenario.specs.Scenario.{IsScenario, Scenario, header_of, scripted}
use Rattle.gen_audit.specs.declared.bundle_fault.BundleFault.{BundleFault}
use Rattle.gen_audit.specs.Bundle.{Bundle}
use Rattle.gen_audit.specs.BundleMaking.{bundle_with}
use Rattle.gen_audit.specs.WorldBundle.{HasWalks, bundle_of}
use Rattle.gen_audit.proofs.RunBundles.{world_makes_bundle}

-- whatever a run gives makes its bundle
pub made_of : (s : Scenario) (h : RunHeader) (faulty : List ℕ) (walks : List (List ℕ)) (xs : List LogBytes) → IsScenario s → HasWalks s walks → h ≡ header_of s → faulty ≡ scripted s.scripts → xs ≡ logs_of_all s
    → bundle_with h faulty walks xs ≡ Ok (bundle_of s walks)
made_of s h faulty walks xs ok has is_header is_faulty is_shown = (λ i. bundle_with (is_header i) (is_faulty i) walks (is_shown i)) ∙ world_makes_bundle s walks ok has

pub made_ok : (r : Result Bundle BundleFault) (b : Bundle) → r ≡ Ok b → IsOk r
made_ok r b e = rw e (search rules)
