-- What comes of generals, and their logs one after another.
use Rattle.std.proofs.Common.{◌≡◌, ℕ, ◌+◌, List, [], ◌∷◌, ◌++◌, length, Option, Some, None, refl, sym, ap, subst, ◌∙◌, ◌⊎◌, inl, inr, ⊎_elim, append-nil, Result, Ok, Err, arith}
use Rattle.std.specs.Prelude.{OnOk}
use Rattle.std.specs.List.{range_with_len, flat_map}
use Rattle.std.proofs.lemmas.Grind.{flat_map-append}
use Rattle.gen_tree.specs.Rings.{Ring}
use Rattle.gen_edge.specs.declared.passes.PutPass.{PutPass}
use Rattle.gen_edge.specs.declared.passes.TakePass.{TakePass}
use Rattle.gen_log.specs.Writing.{LogBytes}
use Rattle.gen_script.specs.declared.lines.ScriptLine.{ScriptLine}
use Rattle.gen_scenario.specs.Rows.{logs_of_all}
use Rattle.gen_scenario.specs.Scenario.{Scenario, script_of}
use Rattle.gen_general.specs.ParticipantLaws.{IsOwnRing}
use Rattle.gen_scenario.specs.SignedWorld.{neighbours_of}
use Rattle.gen_scenario.specs.Rings.{ring_at, ring_under}
use Rattle.gen_general.proofs.Starting.{may_start}
use Rattle.gen_general.proofs.Worlds.{one_more}
use Rattle.gen_threads.specs.declared.edges.Edges.{Edges}
use Rattle.gen_threads.specs.Edges.{ArePassesOf, HaveCarried, HasPut, HasTakenBy, IsPutOn, IsTakeBy}
use Rattle.gen_threads.specs.declared.ends.RunFault.{RunFault}
use Rattle.gen_threads.specs.declared.ends.RunFault.TheVariants.{Memory, Thread, Gone}
use Rattle.gen_threads.specs.declared.works.Turn.{Turn}
use Rattle.gen_threads.specs.Ending.{MayRunWith, logs_by}
use Rattle.gen_threads.specs.Faults.{IsAnswerTo, answered_fault, outcome_of, outcome_of_turn, worse_fault, worse_of}
use Rattle.gen_threads.proofs.Making.{zip_map}

-- ---- passes and rings

pub passes_of : (edges : Edges) (s : Scenario) (n g : ℕ) (puts : List PutPass) (takes : List TakePass) → HaveCarried edges s n g puts takes → ArePassesOf edges s g puts takes
passes_of edges s n g puts takes has = record {
  putting = zip_map (HasPut edges s n g) (IsPutOn edges g) (λ h p is. is.on) (neighbours_of s.net g) puts has.putting;
  taking = zip_map (HasTakenBy edges s n g) (IsTakeBy edges g) (λ h p is. is.on) (neighbours_of s.net g) takes has.taking;
}

own_ring : (s : Scenario) (g : ℕ) (script : Option (List ScriptLine)) → IsOwnRing s g script (ring_under s g script)
own_ring s g None = refl
own_ring s g (Some lines) = record {}

pub may_run : (s : Scenario) (g : ℕ) (ring : Option Ring) → ring ≡ ring_at s g → MayRunWith s g ring
may_run s g ring e = subst (MayRunWith s g) (sym e) (may_start s g, own_ring s g (script_of s.scripts g))

-- ---- logs

-- those of the first generals
unfoldable pub logs_first : Scenario → ℕ → List LogBytes
logs_first s n = flat_map (logs_by s) (range_with_len 0 n)

pub logs_none : (s : Scenario) → [] ≡ logs_first s 0
unfolding logs_first
logs_none s = refl

pub logs_more : (s : Scenario) (k : ℕ) (old new : List LogBytes) → old ≡ logs_first s k → new ≡ old ++ logs_by s k → new ≡ logs_first s (k + 1)
unfolding logs_first
logs_more s k old new before e =
    let f : ℕ → List LogBytes = logs_by s in
    e ∙ ap (λ xs. xs ++ f k) before
    ∙ sym (ap (flat_map f) (one_more k) ∙ flat_map-append f (range_with_len 0 k) (k ∷ []) ∙ ap (λ (xs : List LogBytes). flat_map f (range_with_len 0 k) ++ xs) (append-nil (f k)))

pub logs_all : (s : Scenario) (n : ℕ) (logs : List LogBytes) → n ≡ s.net.generals → logs ≡ logs_first s n → logs ≡ logs_of_all s
unfolding logs_first logs_of_all
logs_all s n logs same e = e ∙ ap (λ k. flat_map (logs_by s) (range_with_len 0 k)) same

-- a general's logs behind those of the ones before him, if neither has a fault
pub gathered : (s : Scenario) (k : ℕ) (a b : Result (Unit {0}) RunFault) (old new : List LogBytes) → OnOk a (old ≡ logs_first s k) → OnOk b (new ≡ old ++ logs_by s k) → OnOk (worse_of a b) (new ≡ logs_first s (k + 1))
gathered s k (Ok x) (Ok y) old new before e = logs_more s k old new before e
gathered s k (Ok x) (Err y) old new before e = record {}
gathered s k (Err x) (Ok y) old new before e = record {}
gathered s k (Err x) (Err y) old new before e = record {}

pub gathered_all : (s : Scenario) (k rest : ℕ) (a : Result (Unit {0}) RunFault) (x : Unit {0}) (logs : List LogBytes) → a ≡ Ok x → rest ≡ 0 → k + rest ≡ s.net.generals → OnOk a (logs ≡ logs_first s k) → logs ≡ logs_of_all s
gathered_all s k rest (Ok y) x logs ok none count e = logs_all s k logs (omega (arith, none, count)) e
gathered_all s k rest (Err y) x logs ok none count e = absurd cc

-- ---- faults

abbrev Outcome : Type 0
Outcome = Result (Unit {0}) RunFault

memory_first : (b : Outcome) → worse_of (Err Memory) b ≡ Err Memory
memory_first (Ok x) = refl
memory_first (Err y) = refl

memory_last : (a : Outcome) → worse_of a (Err Memory) ≡ Err Memory
memory_last (Ok x) = refl
memory_last (Err Memory) = refl
memory_last (Err Thread) = refl
memory_last (Err Gone) = refl

worst_fault : (a b c : RunFault) → worse_fault (worse_fault a b) c ≡ worse_fault a (worse_fault b c)
worst_fault Memory b c = refl
worst_fault Gone b c = refl
worst_fault Thread Memory c = refl
worst_fault Thread Gone c = refl
worst_fault Thread Thread Memory = refl
worst_fault Thread Thread Thread = refl
worst_fault Thread Thread Gone = refl

worst : (a b c : Outcome) → worse_of (worse_of a b) c ≡ worse_of a (worse_of b c)
worst (Ok x) b c = refl
worst (Err x) (Ok y) c = refl
worst (Err x) (Err y) (Ok z) = refl
worst (Err x) (Err y) (Err z) = ap (λ (f : RunFault). Err f) (worst_fault x y z)

pub one_fewer : (t : Turn) (ts turns : List Turn) (m n : ℕ) → turns ≡ t ∷ ts → m + 1 ≡ n → n ≡ length turns → m ≡ length ts
one_fewer t ts turns m n steps less count = let e = ap (λ (l : List Turn). length l) steps in omega (arith, e, less, count)

-- the outcome so far, with that of the rest, is that of all, unless memory was refused
abbrev pub Goes : Outcome → Outcome → Outcome → Type 0
Goes a rest all = (a ≡ Err Memory) ⊎ (worse_of a rest ≡ all)

pub goes_more : (a b : Outcome) (t : Turn) (ts turns : List Turn) (all : Outcome) → turns ≡ t ∷ ts → (b ≡ outcome_of_turn t) ⊎ (b ≡ Err Memory) → Goes a (outcome_of turns) all → Goes (worse_of a b) (outcome_of ts) all
goes_more a b t ts turns all steps one before =
    ⊎_elim (λ (refused : a ≡ Err Memory). inl (ap (λ (o : Outcome). worse_of o b) refused ∙ memory_first b))
    (λ (goes : worse_of a (outcome_of turns) ≡ all).
    ⊎_elim (λ (is : b ≡ outcome_of_turn t).
    inr (ap (λ (o : Outcome). worse_of (worse_of a o) (outcome_of ts)) is ∙ worst a (outcome_of_turn t) (outcome_of ts) ∙ ap (λ (l : List Turn). worse_of a (outcome_of l)) (sym steps) ∙ goes))
    (λ (refused : b ≡ Err Memory). inl (ap (λ (o : Outcome). worse_of a o) refused ∙ memory_last a))
    one)
    before

well : (a : Outcome) (x : Unit {0}) (all : Outcome) → a ≡ Ok x → Goes a (Ok tt) all → all ≡ Ok tt
well (Ok y) x all ok goes = ⊎_elim (λ (refused : Ok y ≡ Err Memory). absurd cc) (λ (e : worse_of (Ok y) (Ok tt) ≡ all). sym e) goes
well (Err y) x all ok goes = absurd cc

nobody : (turns : List Turn) (n : ℕ) → n ≡ length turns → n ≡ 0 → turns ≡ []
nobody [] n count none = refl
nobody (t ∷ turns) n count none = absurd (omega (arith, count, none))

pub goes_well : (a : Outcome) (x : Unit {0}) (turns : List Turn) (n : ℕ) (all : Outcome) → a ≡ Ok x → n ≡ length turns → n ≡ 0 → Goes a (outcome_of turns) all → all ≡ Ok tt
goes_well a x turns n all ok count none goes = well a x all ok (subst (λ (l : List Turn). Goes a (outcome_of l) all) (nobody turns n count none) goes)

memory_answers : (all : Outcome) → IsAnswerTo all Memory
memory_answers (Ok x) = refl
memory_answers (Err worst) = inr refl

pub goes_wrong : (a : Outcome) (fault : RunFault) (turns : List Turn) (n : ℕ) (all : Outcome) → a ≡ Err fault → n ≡ length turns → n ≡ 0 → Goes a (outcome_of turns) all → IsAnswerTo all (answered_fault fault)
goes_wrong a fault turns n all is count zero_left goes =
    let none = nobody turns n count zero_left in
    let here : Goes (Err fault) (Ok tt) all = subst (λ (y : Outcome × List Turn). Goes y.0 (outcome_of y.1) all) (λ i. (is i, none i)) goes in
    ⊎_elim (λ (refused : Err fault ≡ Err Memory). let same : fault ≡ Memory = cc in subst (λ (f : RunFault). IsAnswerTo all (answered_fault f)) (sym same) (memory_answers all))
    (λ (e : Err fault ≡ all). subst (λ (o : Outcome). IsAnswerTo o (answered_fault fault)) e (inl refl))
    here
