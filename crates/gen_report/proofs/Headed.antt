-- What was appended first, and what was appended behind it.
use Rattle.std.proofs.Common.{◌≡◌, ◌≤◌, ℕ, List, ◌++◌, length, take, ap, ◌∙◌, append_assoc}
use Rattle.std.specs.List.{flat_map}
use Rattle.std.proofs.lemmas.List.{take_all}

-- a heading, and behind it a line for each member of a list
pub all_behind : {X : Type 0} (line : X → List ℕ) (out mid old head : List ℕ) (i : ℕ) (xs given : List X) → length xs ≤ i → xs ≡ given → mid ≡ old ++ head → out ≡ mid ++ flat_map line (take i xs) → out ≡ old ++ (head ++ flat_map line given)
all_behind line out mid old head i xs given ends is first behind =
    behind ∙ ap (λ m. m ++ flat_map line (take i xs)) first ∙ append_assoc old head (flat_map line (take i xs))
    ∙ ap (λ ys. old ++ (head ++ flat_map line ys)) (take_all i xs ends ∙ is)
