-- Nodes that hand their frames to each other make the run of their scenario.
use Rattle.std.proofs.Common.{◌≡◌, ◌<◌, ◌≤◌, ◌+◌, ℕ, zero, suc, Bool, true, not, List, [], ◌∷◌, ◌++◌, map, filter, Contains, refl, sym, ap, subst, ◌∙◌, arith, add-one, Option, Some, None}
use Rattle.std.specs.List.{flat_map, list_any, range_with_len}
use Rattle.std.proofs.lemmas.List.Concat.{flat_map-cons}
use Rattle.gen_types.proofs.Lists.{Contains_here, Contains_there, Contains_range}
use Rattle.gen_types.specs.Members.{filter_range_has}
use Rattle.gen_net.specs.Edges.{joins}
use Rattle.gen_net.specs.Network.{rounds}
use Rattle.gen_script.specs.declared.lines.ScriptLine.{ScriptLine}
use Rattle.gen_script.specs.Script.{Script}
use Rattle.gen_scenario.specs.Deciding.{decision_of}
use Rattle.gen_scenario.specs.Rows.{logs_of_all}
use Rattle.gen_scenario.specs.Scenario.{Scenario, IsScenario, has_script, script_of}
use Rattle.gen_scenario.specs.SignedWorld.{frame_at, neighbours_of}
use Rattle.gen_scenario.specs.WorldLogs.{log_bytes, logs_of}
use Rattle.gen_general.specs.DrivenRecords.{HasHeard}
use Rattle.gen_general.specs.Recording.{Recorder, log_written}
use Rattle.gen_node.specs.Frame.{WireFrame}
use Rattle.gen_node.specs.Held.{frame_in}
use Rattle.gen_node.specs.Node.{decision_of_node, ended}
use Rattle.gen_node.specs.NodeLaws.{HandOn, HoldsRound, IsAfter, IsHonest, IsWithin, Nodes, NodesDecisions, NodesLogs, NodesRun}
use Rattle.gen_node.proofs.Scenarios.{nodes_begin, nodes_decide, nodes_end, nodes_log, nodes_send, nodes_start}

module _ (s : Scenario) (x : Nodes) (ok : IsScenario s) (on : HandOn s x) where
  begun_at : (k g : ℕ) → k < rounds s.net → IsHonest s g → IsAfter s k g (x.after k g) → IsWithin s k g (x.begun k g)
  begun_at k g low his is = nodes_begin s k g (x.after k g) (x.begun k g) is (on.begins k g low his)

  full_at : (k g : ℕ) → k < rounds s.net → IsHonest s g → IsWithin s k g (x.begun k g) → IsWithin s k g (x.full k g)
  full_at k g low his is =
      let stays = on.stays k g low his in
      record {
        records = subst (HasHeard s k g []) (sym stays.0) is.records;
        unscripted = ap (λ (r : Recorder). r.standing.known.script) stays.0 ∙ is.unscripted;
        stage = stays.1 ∙ is.stage;
      }

  handed_one : (k g from : ℕ) (script : Option (List ScriptLine)) → script_of s.scripts from ≡ script → k < rounds s.net → IsHonest s g → Contains (neighbours_of s.net g) from → ((v : ℕ) → IsHonest s v → IsAfter s k v (x.after k v)) → frame_in from (x.full k g).inbox ≡ frame_at s (k + 1) from g
  handed_one k g from None e low his near all =
      let known : from < s.net.generals = omega (arith, (filter_range_has (λ y. list_any (joins g y) s.net.edges) 0 s.net.generals from near).1) in
      let honest : IsHonest s from = record { known = known; unscripted = e } in
      let sent = nodes_send s k from g (x.begun k from) (begun_at k from low honest (all from honest)) in
      on.honest k g from low his near honest ∙ ap (λ (f : WireFrame). f.parcels) sent
  handed_one k g from (Some lines) e low his near all = on.others k g from low his near (λ none. (let both : Some lines ≡ None = sym e ∙ none in absurd cc))

  one_round : (k : ℕ) → k < rounds s.net → ((v : ℕ) → IsHonest s v → IsAfter s k v (x.after k v)) → (g : ℕ) → IsHonest s g → IsAfter s (k + 1) g (x.after (k + 1) g)
  one_round k low all g his =
      let holds : HoldsRound s k g (x.full k g) = λ from near. handed_one k g from (script_of s.scripts from) refl low his near all in
      let there : IsAfter s (k + 1) g (ended (x.full k g)) = nodes_end s k g (x.full k g) (full_at k g low his (begun_at k g low his (all g his))) holds in
      subst (IsAfter s (k + 1) g) (sym (on.ends k g low his)) there

  first : (g : ℕ) → IsHonest s g → IsAfter s 0 g (x.after 0 g)
  first g his =
      let start = on.starts g his in
      subst (IsAfter s 0 g) (sym start.2) (nodes_start s g start.0 ok his.unscripted start.1)

  until : (k : ℕ) → k ≤ rounds s.net → (g : ℕ) → IsHonest s g → IsAfter s k g (x.after k g)
  until zero low g his = first g his
  until (suc k) low g his = subst (λ n. IsAfter s n g (x.after n g)) (add-one k) (one_round k (omega (arith, low)) (until k (omega (arith, low))) g his)

  pub last : (g : ℕ) → IsHonest s g → IsAfter s (rounds s.net) g (x.after (rounds s.net) g)
  last g his = until (rounds s.net) (omega arith) g his

pub nodes_run : NodesRun
nodes_run s x ok on g his = last s x ok on g his

-- ---- where nobody has a script

nobody : (s : Scenario) (g : ℕ) → s.scripts ≡ [] → script_of s.scripts g ≡ None
unfolding script_of
nobody s g e = ap (λ (scripts : List Script). script_of scripts g) e

one_each : {Y : Type 0} (f : ℕ → Y) (h : ℕ → List Y) (gs : List ℕ) → ((g : ℕ) → Contains gs g → f g ∷ [] ≡ h g) → map f gs ≡ flat_map h gs
one_each f h [] same = refl
one_each {Y} f h (g ∷ gs) same =
    ap (λ (ys : List Y). f g ∷ ys) (one_each f h gs (λ v k. same v (Contains_there g v gs k)))
    ∙ ap (λ (ys : List Y). ys ++ flat_map h gs) (same g (Contains_here g gs)) ∙ sym (flat_map-cons h g gs)

pub nodes_logs : NodesLogs
unfolding logs_of_all
nodes_logs s x ok none on =
    one_each (λ g. log_written (x.after (rounds s.net) g).recorder) (λ g. map (log_bytes g) (logs_of s g)) (range_with_len 0 s.net.generals)
    (λ g h. nodes_log s g (x.after (rounds s.net) g) (last s x ok on g (record { known = omega (arith, (Contains_range 0 s.net.generals g h).1); unscripted = nobody s g none })))

all_kept : (p : ℕ → Bool) (gs : List ℕ) → ((g : ℕ) → p g ≡ true) → filter p gs ≡ gs
all_kept p [] each = refl
all_kept p (g ∷ gs) each = rw (each g) (ap (λ (xs : List ℕ). g ∷ xs) (all_kept p gs each))

mapped_alike : {Y : Type 0} (f h : ℕ → Y) (gs : List ℕ) → ((g : ℕ) → Contains gs g → f g ≡ h g) → map f gs ≡ map h gs
mapped_alike f h [] same = refl
mapped_alike {Y} f h (g ∷ gs) same = ap (λ (ys : List Y). f g ∷ ys) (mapped_alike f h gs (λ v k. same v (Contains_there g v gs k))) ∙ ap (λ (y : Y). y ∷ map h gs) (same g (Contains_here g gs))

loyal : (s : Scenario) (g : ℕ) → s.scripts ≡ [] → not (has_script s g) ≡ true
loyal s g e = rw e refl

pub nodes_decisions : NodesDecisions
nodes_decisions s x ok none on =
    mapped_alike (λ g. decision_of_node (x.after (rounds s.net) g).recorder) (decision_of s) (range_with_len 0 s.net.generals)
    (λ g h. nodes_decide s g (x.after (rounds s.net) g) (last s x ok on g (record { known = omega (arith, (Contains_range 0 s.net.generals g h).1); unscripted = nobody s g none })))
    ∙ ap (map (decision_of s)) (sym (all_kept (λ g. not (has_script s g)) (range_with_len 0 s.net.generals) (λ g. loyal s g none)))
