-- Rings that are handed in and handed back.
use Rattle.std.proofs.Common.{◌≡◌, ◌<◌, ◌+◌, ◌⊎◌, ◌↔◌, inl, inr, ℕ, List, [], ◌∷◌, ◌++◌, length, get_or, Contains, Option, Some, None, refl, sym, ap, subst, ◌∙◌, arith, length-append, Result, Ok, Err}
use Rattle.std.specs.Prelude.{OnOk, IfOk}
use Rattle.std.proofs.lemmas.List.{get_or_default}
use Rattle.gen_types.specs.declared.heights.TreeHeight.TheVariants.{Four}
use Rattle.gen_tree.specs.Rings.{Ring}
use Rattle.gen_log.specs.Log.{RunLog}
use Rattle.gen_log.specs.Writing.{LogBytes}
use Rattle.gen_script.specs.declared.lines.ScriptLine.{ScriptLine}
use Rattle.gen_scenario.specs.AllAre.{AllAre}
use Rattle.gen_scenario.specs.Scenario.{Scenario, header_of, script_of}
use Rattle.gen_scenario.specs.Part.{part_of}
use Rattle.gen_scenario.specs.WorldLogs.{logs_of}
use Rattle.gen_general.specs.Participant.{MayStart}
use Rattle.gen_general.specs.ParticipantLaws.{IsOwnRing}
use Rattle.gen_general.specs.Spending.{IsLeafOfLog}
use Rattle.gen_threads.specs.declared.edges.Edges.{Edges}
use Rattle.gen_threads.specs.declared.ends.GeneralEnd.{GeneralEnd}
use Rattle.gen_threads.specs.declared.ends.RunFault.{RunFault}
use Rattle.gen_threads.specs.Ending.{IsEndOf, IsSameRing, MayRunWith, RingComesBack}
use Rattle.gen_threads.specs.Faults.{worse_of}
use Rattle.gen_threads.specs.HeldRings.{AreAfterRun, HasSignedUnder, IsAfterRun, MayServe, ring_in}
use Rattle.gen_threads.specs.Rings.{RingSpentOn}
use Rattle.gen_threads.specs.Works.{HasMoreRing, HasRun}
use Rattle.gen_threads.proofs.Froms.{From, from_all, from_none, from_snoc}

-- ---- handed in

-- it is his of these, and may serve him
abbrev pub IsHandedIn : Scenario → List Ring → ℕ → Ring → Type 0
IsHandedIn s rings g ring = (ring ≡ ring_in rings g) × MayServe s g ring

pub handed_in : (s : Scenario) (n : ℕ) (rings : List Ring) → AllAre (MayServe s) n rings → From (IsHandedIn s rings) 0 rings
handed_in s n rings all k d low =
    let z : 0 + k ≡ k = omega arith in
    (subst (λ m. get_or rings k d ≡ ring_in rings m) (sym z) (get_or_default rings k d (record { seed = []; height = Four; taken = [] }) low), from_all (MayServe s) n rings all k d low)

-- who has no script runs with it, and who has one without
own_ring : (s : Scenario) (g : ℕ) (script : Option (List ScriptLine)) (ring : Ring) → script ≡ None → MayServe s g ring → IsOwnRing s g script (Some ring)
own_ring s g None ring e may = may.seed
own_ring s g (Some lines) ring e may = absurd cc

pub may_run_loyal : (s : Scenario) (g : ℕ) (ring : Ring) → script_of s.scripts g ≡ None → MayServe s g ring → MayRunWith s g (Some ring)
may_run_loyal s g ring none may = ((none, may.unused), own_ring s g (script_of s.scripts g) ring none may)

no_ring : (s : Scenario) (g : ℕ) (script : Option (List ScriptLine)) (lines : List ScriptLine) → script ≡ Some lines → IsOwnRing s g script None
no_ring s g None lines e = absurd cc
no_ring s g (Some other) lines e = record {}

pub may_run_scripted : (s : Scenario) (g : ℕ) (lines : List ScriptLine) → script_of s.scripts g ≡ Some lines → MayRunWith s g None
may_run_scripted s g lines e = ((λ none. let both : Some lines ≡ None = sym e ∙ none in absurd cc), no_ring s g (script_of s.scripts g) lines e)

-- ---- handed back

after_run : (s : Scenario) (g : ℕ) (old new : Ring) → script_of s.scripts g ≡ None → RingComesBack (header_of s) (Some old) (Some new) → RingSpentOn (header_of s) (logs_of s g) (Some old) (Some new) → IsAfterRun s g old new
after_run s g old new none back spent = record {
  seed = back.seed;
  height = back.height;
  taken = λ leaf. (
    λ m. elim ((spent leaf).0 m) [ inl before ↦ inl before | inr text ↦ inr (record { loyal = none; log = text.0; his = text.1; text = text.2 }) ],
    λ m. elim m [ inl before ↦ (spent leaf).1 (inl before) | inr text ↦ (spent leaf).1 (inr (text.log, text.his, text.text)) ],
  );
  of_run = back.of_run;
}

ring_after : {X : Type 0} (s : Scenario) (g : ℕ) (old : Ring) (end : Option Ring) (r : Result X RunFault) → script_of s.scripts g ≡ None → RingComesBack (header_of s) (Some old) end
    → OnOk r (RingSpentOn (header_of s) (logs_of s g) (Some old) end) → OnOk r ((new : Ring) × (end ≡ Some new) × IsAfterRun s g old new)
ring_after s g old None r none back spent = absurd back
ring_after s g old (Some new) (Ok x) none back spent = (new, refl, after_run s g old new none back spent)
ring_after s g old (Some new) (Err e) none back spent = record {}

logs_alone : {X E : Type 0} (r : Result X E) (P Q : X → Type 0) → IfOk r (λ x. P x × Q x) → IfOk r P
logs_alone (Ok x) P Q both = both.0
logs_alone (Err e) P Q both = record {}

pub has_run_loyal : (edges : Edges) (s : Scenario) (g : ℕ) (old : Ring) (end : GeneralEnd) → script_of s.scripts g ≡ None → IsEndOf edges s g (Some old) end → HasRun s g old end
has_run_loyal edges s g old end none is = record {
  logs = logs_alone end.logs _ _ is.logs;
  ring = ring_after s g old end.ring end.logs none is.comes_back is.spent;
}

same_after : (s : Scenario) (g : ℕ) (lines : List ScriptLine) (ring : Ring) → script_of s.scripts g ≡ Some lines → IsAfterRun s g ring ring
same_after s g lines ring e = record {
  seed = refl;
  height = refl;
  taken = λ leaf. (
    λ m. inl m,
    λ m. elim m [ inl before ↦ before | inr text ↦ let both : Some lines ≡ None = sym e ∙ text.loyal in absurd cc ],
  );
  of_run = λ leaf m. inl m;
}

on_ok : {X E : Type 0} (P : Type 0) (r : Result X E) → P → OnOk r P
on_ok P (Ok x) p = p
on_ok P (Err e) p = record {}

pub has_run_scripted : (edges : Edges) (s : Scenario) (g : ℕ) (lines : List ScriptLine) (ring : Ring) (end with : GeneralEnd) → script_of s.scripts g ≡ Some lines → IsEndOf edges s g None end
    → with.logs ≡ end.logs → with.ring ≡ Some ring → HasRun s g ring with
has_run_scripted edges s g lines ring end with e is logs held = record {
  logs = rw logs (logs_alone end.logs _ _ is.logs);
  ring = on_ok _ with.logs (ring, held, same_after s g lines ring e);
}

-- ---- those of the first generals

abbrev pub FirstAfter : Scenario → List Ring → ℕ → List Ring → Type 0
FirstAfter s held k new = (length new ≡ k) × From (λ g ring. IsAfterRun s g (ring_in held g) ring) 0 new

pub more_after : (s : Scenario) (held : List Ring) (k : ℕ) (old new : List Ring) → FirstAfter s held k old → HasMoreRing s k (ring_in held k) old new → FirstAfter s held (k + 1) new
more_after s held k old new first more =
    let long : length new ≡ k + 1 = ap (λ (l : List Ring). length l) more.added ∙ length-append old (more.ring ∷ []) ∙ ap (λ n. n + 1) first.0 in
    let at : 0 + length old ≡ k = omega (arith, first.0) in
    let R = λ (g : ℕ) (ring : Ring). IsAfterRun s g (ring_in held g) ring in
    (long, subst (From R 0) (sym more.added) (from_snoc R 0 old more.ring first.1 (subst (λ n. R n more.ring) (sym at) more.after)))

pub none_after : (s : Scenario) (held new : List Ring) → new ≡ [] → FirstAfter s held 0 new
none_after s held new e = (ap (λ (l : List Ring). length l) e, from_none (λ g ring. IsAfterRun s g (ring_in held g) ring) 0 new e)

pub rings_gathered : (s : Scenario) (held : List Ring) (k : ℕ) (a b : Result (Unit {0}) RunFault) (old new : List Ring) → OnOk a (FirstAfter s held k old) → OnOk b (HasMoreRing s k (ring_in held k) old new)
    → OnOk (worse_of a b) (FirstAfter s held (k + 1) new)
rings_gathered s held k (Ok x) (Ok y) old new before more = more_after s held k old new before more
rings_gathered s held k (Ok x) (Err y) old new before more = record {}
rings_gathered s held k (Err x) (Ok y) old new before more = record {}
rings_gathered s held k (Err x) (Err y) old new before more = record {}

all_after : (s : Scenario) (held : List Ring) (k : ℕ) (new : List Ring) → k ≡ s.net.generals → FirstAfter s held k new → AreAfterRun s held new
all_after s held k new all first = record {
  count = first.0 ∙ all;
  each = λ g d low. let z : 0 + g ≡ g = omega arith in let l : g < length new = omega (arith, first.0, all, low) in subst (λ n. IsAfterRun s n (ring_in held n) (get_or new g d)) z (first.1 g d l);
}

pub gathered_rings : (s : Scenario) (held : List Ring) (k rest : ℕ) (a : Result (Unit {0}) RunFault) (x : Unit {0}) (new : List Ring) → a ≡ Ok x → rest ≡ 0 → k + rest ≡ s.net.generals
    → OnOk a (FirstAfter s held k new) → AreAfterRun s held new
gathered_rings s held k rest (Ok y) x new ok none count first = all_after s held k new (omega (arith, none, count)) first
gathered_rings s held k rest (Err y) x new ok none count first = absurd cc
