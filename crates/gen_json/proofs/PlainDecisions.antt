-- What is printed of decisions has no floats, and nests a few levels deep.
use Rattle.std.proofs.Common.{◌≡◌, ℕ, ◌≤◌, List, false, refl, arith}
use Rattle.std.specs.Prelude.{Option, Some, None}
use Rattle.serde_json.specs.Data.{depth}
use Rattle.serde_json.specs.Written.{has_float}
use Rattle.gen_net.specs.Network.{Network}
use Rattle.gen_scenario.specs.declared.scenario.Decision.{Decision}
use Rattle.gen_json.specs.DecisionData.{decision_data, decisions_data, run_data}
use Rattle.gen_json.proofs.Plain.{items_plain, items_shallow, numbers_plain, numbers_shallow}

decision_plain : (d : Decision) → has_float (decision_data d) ≡ false
decision_plain d = rw (numbers_plain d.orders) refl

decision_shallow : (d : Decision) → depth (decision_data d) ≤ 2
decision_shallow d = omega (arith, numbers_shallow d.orders)

run_plain : (run : Option (List ℕ)) → has_float (run_data run) ≡ false
run_plain (Some id) = refl
run_plain None = refl

run_shallow : (run : Option (List ℕ)) → depth (run_data run) ≤ 0
run_shallow (Some id) = omega arith
run_shallow None = omega arith

pub decisions_plain : (net : Network) (run : Option (List ℕ)) (faulty : List ℕ) (ds : List Decision)
    → has_float (decisions_data net run faulty ds) ≡ false
decisions_plain net run faulty ds =
    rw (items_plain decision_data decision_plain ds, numbers_plain faulty, run_plain run) refl

pub decisions_shallow : (net : Network) (run : Option (List ℕ)) (faulty : List ℕ) (ds : List Decision)
    → depth (decisions_data net run faulty ds) ≤ 127
decisions_shallow net run faulty ds =
    omega (arith, items_shallow decision_data 2 decision_shallow ds, numbers_shallow faulty, run_shallow run)
