-- The bundle of a scenario's run, made of its parts.
use Rattle.std.proofs.Common.{◌≡◌, ◌∙◌, List, ℕ, Result, Ok, rules}
use Rattle.std.specs.Result.{IsOk}
use Rattle.gen_net.specs.Header.{RunHeader}
use Rattle.gen_log.specs.Fields.{AreBelow}
use Rattle.gen_log.specs.Writing.{LogBytes}
use Rattle.gen_scenario.specs.Rows.{logs_of_all}
use Rattle.gen_scenario.specs.Scenario.{IsScenario, Scenario, header_of}
use Rattle.gen_audit.specs.declared.bundle_fault.BundleFault.{BundleFault}
use Rattle.gen_audit.specs.Bundle.{Bundle}
use Rattle.gen_audit.specs.BundleMaking.{bundle_with}
use Rattle.gen_audit.specs.BundleParts.{AreListedWalks}
use Rattle.gen_audit.specs.WorldBundle.{run_bundle}
use Rattle.gen_audit.proofs.RunBundles.{logs_make_bundle}

-- what a run gives makes its bundle
pub made_of : (s : Scenario) (h : RunHeader) (faulty : List ℕ) (walks : List (List ℕ)) (xs : List LogBytes) → IsScenario s
    → AreBelow s.net.generals faulty → AreListedWalks s.net.generals walks → h ≡ header_of s → xs ≡ logs_of_all s
    → bundle_with h faulty walks xs ≡ Ok (run_bundle s faulty walks)
made_of s h faulty walks xs ok below listed is_header is_shown =
    (λ i. bundle_with (is_header i) faulty walks (is_shown i)) ∙ logs_make_bundle s faulty walks ok below listed

pub made_ok : (r : Result Bundle BundleFault) (b : Bundle) → r ≡ Ok b → IsOk r
made_ok r b e = rw e (search rules)
