-- The bundle of the logs of nodes is read, and accepted.
use Rattle.std.proofs.Common.{◌≡◌, ◌<◌, ◌≤◌, ◌++◌, ℕ, List, [], ◌∷◌, map, length, Contains, refl, sym, ap, subst, ◌∙◌, arith, nat_eq, inl, inr, Ok, Some}
use Rattle.std.proofs.lemmas.Bool.{eqb-true}
use Rattle.std.specs.Int.{w32, to_be_bytes}
use Rattle.std.specs.List.{flat_map, range_with_len}
use Rattle.std.proofs.lemmas.List.Elements.{All-contains, Contains-append_right}
use Rattle.gen_types.specs.Ascending.{IsListOf}
use Rattle.gen_types.specs.Members.{range_ascending}
use Rattle.gen_types.proofs.Lists.{All_of, Contains_cases, Contains_filtered, Contains_flat_mapped, Contains_here, Contains_in_range, Contains_mapped, Contains_nil, Contains_range, Contains_there}
use Rattle.gen_net.specs.Front.{front_spelling}
use Rattle.gen_net.specs.Network.{IsLoyal}
use Rattle.gen_walks.specs.BestWalks.{AreBestWalks}
use Rattle.gen_walks.proofs.Pairs.{bounds}
use Rattle.gen_log.specs.Fields.{AreBelow, set_spelling}
use Rattle.gen_log.specs.Writing.{LogBytes}
use Rattle.gen_log.specs.Entry.{erase}
use Rattle.gen_log.specs.Log.{RunLog, log_spelling}
use Rattle.gen_log.specs.LogReading.{log_of}
use Rattle.gen_log.specs.Verifying.{LogVerifies}
use Rattle.gen_log.proofs.LogLaws.{log_only}
use Rattle.gen_net.specs.Log.{LogEntry, Started}
use Rattle.gen_script.specs.Script.{Script}
use Rattle.gen_scenario.specs.Rows.{logs_of_all}
use Rattle.gen_scenario.specs.SignedWorld.{sender_of}
use Rattle.gen_scenario.specs.WorldLogs.{entries_over, log_bytes, log_with}
use Rattle.gen_scenario.specs.WorldLogs as worlds
use Rattle.gen_scenario.proofs.VerifiedLogs.{all_verify}
use Rattle.gen_general.proofs.EndingLogs.{one_log}
use Rattle.gen_scenario.specs.Scenario.{Scenario, IsScenario, header_of, script_of, scripted}
use Rattle.gen_scenario.specs.SignedLaw.{HasNoRaw}
use Rattle.gen_scenario.proofs.Having.{in_flat}
use Rattle.gen_audit.specs.declared.verdicts.Verdict.TheVariants.{Agreed}
use Rattle.gen_audit.specs.Bundle.{Bundle, IsBundle, exhibits_of, logs_of}
use Rattle.gen_audit.specs.BundleMaking.{bundle_with}
use Rattle.gen_audit.specs.BundleSpelling.{bundle_marks, bundle_spelling, exhibit_spelling, exhibits_spelling, walks_spelling}
use Rattle.gen_audit.specs.Supported.{AgreeOn, HasSoleLog}
use Rattle.gen_audit.specs.WorldBundle.{HasWalks, IsAcceptable, bundle_of, run_bundle}
use Rattle.gen_audit.proofs.Answering.{headline_holds}
use Rattle.gen_audit.proofs.Supporting.{counts}
use Rattle.gen_audit.proofs.BundleLaws.{bundle_only}
use Rattle.gen_audit.proofs.RunBundles.{world_is_bundle, world_makes_bundle}
use Rattle.gen_audit.proofs.Worlds.{world_is_supported}
use Rattle.gen_node.specs.BundleBytes.{bundle_bytes}
use Rattle.gen_node.specs.NodeLaws.{IsAccepted, NodesAreAccepted, logs_of_nodes}
use Rattle.gen_node.proofs.Runs.{nodes_logs}

-- ---- where nobody has a script

nobody_scripted : (s : Scenario) → s.scripts ≡ [] → scripted s.scripts ≡ []
nobody_scripted s none = ap scripted none

outside : (s : Scenario) (g : ℕ) → s.scripts ≡ [] → Contains (scripted s.scripts) g → ⊥
outside s g none h = Contains_nil g (subst (λ (gs : List ℕ). Contains gs g) (nobody_scripted s none) h)

all_loyal : (s : Scenario) → s.scripts ≡ [] → IsListOf (range_with_len 0 s.net.generals) (IsLoyal s.net (scripted s.scripts))
all_loyal s none = record {
  ascending = range_ascending 0 s.net.generals;
  members = λ g. (
    λ h. (omega (arith, (Contains_range 0 s.net.generals g h).1), outside s g none),
    λ loyal. Contains_in_range 0 s.net.generals g (omega arith) (omega (arith, loyal.0)),
  );
}

all_walks : (s : Scenario) (walks : List (List ℕ)) → s.scripts ≡ [] → AreBestWalks s.net (range_with_len 0 s.net.generals) walks → HasWalks s walks
all_walks s walks none best = record { rest = range_with_len 0 s.net.generals; of_rest = all_loyal s none; walks_are = inl best }

none_raw : (s : Scenario) → s.scripts ≡ [] → HasNoRaw s
none_raw s none script line h in_script raw = absurd (Contains_nil script (subst (λ (xs : List Script). Contains xs script) none h))

acceptable : (s : Scenario) (walks : List (List ℕ)) → IsScenario s → s.scripts ≡ [] → AreBestWalks s.net (range_with_len 0 s.net.generals) walks → IsAcceptable s walks
acceptable s walks ok none best = record {
  scenario = ok;
  no_raw = none_raw s none;
  somebody = (0, (omega (arith, ok.network.ranges.some_generals), outside s 0 none));
  rest = range_with_len 0 s.net.generals;
  of_rest = all_loyal s none;
  bound = bounds s.net (range_with_len 0 s.net.generals) walks best;
}

bundle_same : (s : Scenario) (walks : List (List ℕ)) → s.scripts ≡ [] → bundle_of s walks ≡ run_bundle s [] walks
bundle_same s walks none = ap (λ (gs : List ℕ). run_bundle s gs walks) (nobody_scripted s none)

-- ---- it is made

made : (s : Scenario) (walks : List (List ℕ)) (logs : List LogBytes) → IsScenario s → s.scripts ≡ [] → AreBestWalks s.net (range_with_len 0 s.net.generals) walks → logs ≡ logs_of_all s → bundle_bytes (header_of s) [] walks logs ≡ Ok (bundle_spelling (run_bundle s [] walks))
made s walks logs ok none best same =
    let of_world : bundle_with (header_of s) [] walks logs ≡ Ok (run_bundle s [] walks) =
    ap (bundle_with (header_of s) [] walks) same
    ∙ ap (λ (gs : List ℕ). bundle_with (header_of s) gs walks (logs_of_all s)) (sym (nobody_scripted s none))
    ∙ world_makes_bundle s walks ok (all_walks s walks none best)
    ∙ ap (λ (b : Bundle). Ok b) (bundle_same s walks none) in
    rw of_world refl

-- ---- it is read

-- the bytes of what is shown stand in the bundle's
shown_bytes : (b : Bundle) (x : LogBytes) (v : ℕ) → Contains b.exhibits x → Contains x.bytes v → Contains (bundle_spelling b) v
shown_bytes b x v shown h =
    let one : Contains (exhibit_spelling x) v = Contains_there x.general v (to_be_bytes w32 (length x.bytes) ++ x.bytes) (Contains-append_right (to_be_bytes w32 (length x.bytes)) x.bytes v h) in
    let all : Contains (exhibits_spelling b.exhibits) v = Contains_there (length b.exhibits) v (flat_map exhibit_spelling b.exhibits) (in_flat exhibit_spelling b.exhibits x v shown one) in
    Contains-append_right (front_spelling bundle_marks b.header) (set_spelling b.faulty ++ (walks_spelling b.walks ++ exhibits_spelling b.exhibits)) v
    (Contains-append_right (set_spelling b.faulty) (walks_spelling b.walks ++ exhibits_spelling b.exhibits) v
    (Contains-append_right (walks_spelling b.walks) (exhibits_spelling b.exhibits) v all))

is_bundle : (s : Scenario) (walks : List (List ℕ)) → IsScenario s → s.scripts ≡ [] → AreBestWalks s.net (range_with_len 0 s.net.generals) walks → AreBelow 256 (bundle_spelling (bundle_of s walks)) → IsBundle (bundle_of s walks)
is_bundle s walks ok none best below = world_is_bundle s walks ok (all_walks s walks none best) (λ x shown.
    All_of (λ v. v < 256) x.bytes (λ v h. All-contains (λ v. v < 256) (bundle_spelling (bundle_of s walks)) v below (shown_bytes (bundle_of s walks) x v shown h)))

-- ---- what the commander's log says

his_log : (s : Scenario) → RunLog
his_log s = log_with (sender_of s 0).keys 0 (entries_over (sender_of s 0) (worlds.middle_of s 0))

only_his : (s : Scenario) → s.scripts ≡ [] → worlds.logs_of s 0 ≡ his_log s ∷ []
unfolding script_of his_log
only_his s none = one_log (sender_of s 0) (worlds.middle_of s 0) (ap (λ (scripts : List Script). script_of scripts 0) none)

-- what is shown as his are its bytes
his_bytes : (s : Scenario) → s.scripts ≡ [] → (x : LogBytes) → Contains (exhibits_of (logs_of_all s) 0) x → x.bytes ≡ log_spelling (his_log s)
unfolding logs_of_all
his_bytes s none x h =
    let kept = Contains_filtered (λ (y : LogBytes). nat_eq y.general 0) (logs_of_all s) x h in
    let whose = Contains_flat_mapped (λ g. map (log_bytes g) (worlds.logs_of s g)) (range_with_len 0 s.net.generals) x kept.0 in
    let one = Contains_mapped (log_bytes whose.0) (worlds.logs_of s whose.0) x whose.2 in
    let general : whose.0 ≡ 0 = ap (λ (y : LogBytes). y.general) one.2 ∙ eqb-true x.general 0 kept.1 in
    let there : Contains (his_log s ∷ []) one.0 = subst (λ (logs : List RunLog). Contains logs one.0) (only_his s none) (subst (λ g. Contains (worlds.logs_of s g) one.0) general one.1) in
    let same : his_log s ≡ one.0 = elim (Contains_cases (his_log s) one.0 [] there) [ inl e ↦ e | inr nothing ↦ absurd (Contains_nil one.0 nothing) ] in
    sym (ap (λ (y : LogBytes). y.bytes) one.2) ∙ ap log_spelling (sym same)

first_entry : (s : Scenario) → Contains (map erase (his_log s).entries) (Started 0 (Some s.order))
unfolding his_log
first_entry s = Contains_here (Started 0 (Some s.order)) _

he_started : (s : Scenario) (walks : List (List ℕ)) → IsScenario s → s.scripts ≡ [] → HasSoleLog (bundle_of s walks) 0 → (log : List LogEntry) × (logs_of (bundle_of s walks) 0 ≡ Some log) × Contains log (Started 0 (Some s.order))
he_started s walks ok none sole =
    let x = sole.exhibit in
    let bytes = his_bytes s none x (subst (λ (xs : List LogBytes). Contains xs x) (sym sole.sole) (Contains_here x [])) in
    let has : Contains (worlds.logs_of s 0) (his_log s) = subst (λ (logs : List RunLog). Contains logs (his_log s)) (sym (only_his s none)) (Contains_here (his_log s) []) in
    let verified : LogVerifies (header_of s) 0 (his_log s) = all_verify s ok 0 (omega (arith, ok.network.ranges.some_generals)) (his_log s) has in
    let again : log_of (header_of s) (log_spelling (his_log s)) ≡ Ok (his_log s) = log_only (header_of s) ok.network.ranges.few_orders (log_spelling (his_log s)) (his_log s) (record { fits = verified.fits_run; spelled = refl }) in
    let reads : log_of (header_of s) x.bytes ≡ Ok (his_log s) = ap (log_of (header_of s)) bytes ∙ again in
    (map erase (his_log s).entries, counts (bundle_of s walks) 0 x (his_log s) sole.sole reads verified.says, first_entry s)

-- ---- it is accepted

same_order : (a b : ℕ) → Some a ≡ Some b → b ≡ a
same_order a b e = cc

accepted_as : (s : Scenario) (walks : List (List ℕ)) → IsScenario s → s.scripts ≡ [] → AreBestWalks s.net (range_with_len 0 s.net.generals) walks → AreBelow 256 (bundle_spelling (bundle_of s walks)) → IsAccepted (bundle_of s walks) (bundle_spelling (bundle_of s walks)) s.order
accepted_as s walks ok none best below =
    let b = bundle_of s walks in
    let is = is_bundle s walks ok none best below in
    let few : length (scripted s.scripts) ≤ s.net.traitors = omega (arith, ap length (nobody_scripted s none)) in
    let supported = world_is_supported s walks (acceptable s walks ok none best) in
    let loyal : IsLoyal s.net (scripted s.scripts) 0 = (omega (arith, ok.network.ranges.some_generals), outside s 0 none) in
    record {
      read = bundle_only (bundle_spelling b) b (record { fits = is; spelled = refl });
      agreed = λ verdict judged.
          let found = (headline_holds b is verdict judged).agreed supported few in
          let order : found.0 ≡ s.order = same_order s.order found.0 (found.2.obeyed loyal (Some s.order) (he_started s walks ok none (supported.each 0 loyal))) in
          (found.1 ∙ ap (λ v. Agreed v) order, subst (AgreeOn b) order found.2);
    }

pub nodes_are_accepted : NodesAreAccepted
nodes_are_accepted s x walks ok none on best =
    let fits : AreBelow 256 (bundle_spelling (run_bundle s [] walks)) → IsAccepted (run_bundle s [] walks) (bundle_spelling (run_bundle s [] walks)) s.order =
    subst (λ (b : Bundle). AreBelow 256 (bundle_spelling b) → IsAccepted b (bundle_spelling b) s.order) (bundle_same s walks none) (accepted_as s walks ok none best) in
    (bundle_spelling (run_bundle s [] walks), made s walks (logs_of_nodes s x) ok none best (nodes_logs s x ok none on), fits)
