-- The generals who have scripts, as a set and as a test.
use Rattle.std.proofs.Common.{◌≡◌, ◌<◌, ◌+◌, ◌⊎◌, inl, inr, ℕ, List, [], ◌∷◌, ◌++◌, refl, sym, ap, subst, ◌∙◌, eqb, ◌||◌, map, take, length, get_or, Contains, All, AllPairs, arith}
use Rattle.std.specs.List.{list_any}
use Rattle.std.proofs.lemmas.List.{take_more, map-append}
use Rattle.std.proofs.lemmas.List.Elements.{All-map, Contains-append_left, Contains-push, Contains-push_cases}
use Rattle.std.proofs.lemmas.List.Kept.{AllPairs-cons}
use Rattle.gen_types.specs.Ascending.{IsListOf}
use Rattle.gen_types.specs.Ends.{is_among}
use Rattle.gen_types.proofs.Lists.{All_of, AllPairs_head, AllPairs_tail, Contains_mapped, ascending_one}
use Rattle.gen_script.specs.Script.{Script}
use Rattle.gen_scenario.specs.Scenario.{IsScenario, Scenario, scripted}

pub scripted_test : (scripts : List Script) (g : ℕ) → list_any (λ (script : Script). eqb script.general g) scripts ≡ is_among (scripted scripts) g
scripted_test [] g = refl
scripted_test (script ∷ others) g = ap (λ b. eqb script.general g || b) (scripted_test others g)

pub ascending_mapped : {X : Type 0} (f : X → ℕ) (xs : List X) → AllPairs (λ x y. f x < f y) xs → AllPairs (λ v w. v < w) (map f xs)
ascending_mapped f [] up = λ i j d l m. absurd (omega (arith, m))
ascending_mapped {X} f (x ∷ xs) up =
    AllPairs-cons (λ v w. v < w) (f x) (map f xs)
    (All-map (λ v. f x < v) f xs (AllPairs_head (λ (y z : X). f y < f z) x xs up))
    (ascending_mapped f xs (AllPairs_tail (λ (y z : X). f y < f z) x xs up))

-- they ascend, and are generals of the network
pub scripted_up : (s : Scenario) → IsScenario s → AllPairs (λ v w. v < w) (scripted s.scripts)
scripted_up s ok = ascending_mapped (λ (script : Script). script.general) s.scripts ok.ascending

pub scripted_below : (s : Scenario) → IsScenario s → All (λ v. v < s.net.generals) (scripted s.scripts)
scripted_below s ok = All_of (λ v. v < s.net.generals) (scripted s.scripts) (λ v h.
    let k = Contains_mapped (λ (script : Script). script.general) s.scripts v h in
    omega (arith, ok.known k.0 k.1, k.2))

-- one script more
pub set_of_more : (old new : List ℕ) (scripts : List Script) (i g : ℕ) (d : Script) → i < length scripts → g ≡ (get_or scripts i d).general → IsListOf old (Contains (scripted (take i scripts))) → IsListOf new (λ v. Contains old v ⊎ (v ≡ g)) → IsListOf new (Contains (scripted (take (i + 1) scripts)))
set_of_more old new scripts i g d within is before now =
    let front = scripted (take i scripts) in
    let grown : scripted (take (i + 1) scripts) ≡ front ++ g ∷ [] =
    ap scripted (take_more scripts i d within) ∙ map-append (λ (s : Script). s.general) (take i scripts) (get_or scripts i d ∷ [])
    ∙ ap (λ v. front ++ v ∷ []) (sym is) in
    record {
      ascending = now.ascending;
      members = λ v. (
        λ h. subst (λ (xs : List ℕ). Contains xs v) (sym grown) (elim ((now.members v).0 h) [
          | inl o ↦ Contains-append_left front (g ∷ []) v ((before.members v).0 o)
          | inr e ↦ subst (λ w. Contains (front ++ g ∷ []) w) (sym e) (Contains-push front g)
        ]),
        λ h. (now.members v).1 (elim (Contains-push_cases front g v (subst (λ (xs : List ℕ). Contains xs v) grown h)) [
          | inl o ↦ inl ((before.members v).1 o)
          | inr e ↦ inr (sym e)
        ]),
      );
    }

pub set_of_all : (set : List ℕ) (scripts : List Script) → AllPairs (λ (script other : Script). script.general < other.general) scripts → IsListOf set (Contains (scripted scripts)) → set ≡ scripted scripts
set_of_all set scripts up is =
    ascending_one set (scripted scripts) is.ascending (ascending_mapped (λ (s : Script). s.general) scripts up)
    (λ v h. (is.members v).0 h) (λ v h. (is.members v).1 h)
