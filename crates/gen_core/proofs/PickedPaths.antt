-- From the chains that are picked to their paths.
use Rattle.std.proofs.Common.{◌≡◌, ℕ, zero, suc, ◌↔◌, List, [], ◌∷◌, Option, Some, None, option_map, slice_get, refl, sym, ap, ◌∙◌}
use Rattle.gen_net.specs.Run.{Run, Adds}
use Rattle.gen_core.specs.declared.arrivals.Seen.{Seen}
use Rattle.gen_core.specs.Paths.{paths_of}
use Rattle.gen_core.specs.Seeing.{Picked, IsFromLeast, AreAdds}

-- for this order a chain with this path is picked
abbrev pub ChainPicked : List (Option Seen) → ℕ → List ℕ → Type 0
ChainPicked picked v path = (s : Seen) × (slice_get picked v ≡ Some (Some s)) × (s.path ≡ path)

-- exactly the orders that g adds in round l, each with a chain from the least sender
abbrev pub ArePicks : Run → ℕ → ℕ → List (Option Seen) → Type 0
ArePicks run g l picked = (v : ℕ) (path : List ℕ) → ChainPicked picked v path ↔ (Adds run g l v × IsFromLeast run g l v path)

slice_get-paths_of : (picked : List (Option Seen)) (v : ℕ) → slice_get (paths_of picked) v ≡ option_map (option_map (λ s. s.path)) (slice_get picked v)
slice_get-paths_of [] v = refl
slice_get-paths_of (p ∷ picked) zero = refl
slice_get-paths_of (p ∷ picked) (suc v) = slice_get-paths_of picked v

chain_with : (o : Option (Option Seen)) (path : List ℕ) → option_map (option_map (λ s. s.path)) o ≡ Some (Some path) → (s : Seen) × (o ≡ Some (Some s)) × (s.path ≡ path)
chain_with None path e = absurd cc
chain_with (Some None) path e = absurd cc
chain_with (Some (Some s)) path e = (s, refl, cc)

pub picked_paths : (picked : List (Option Seen)) (v : ℕ) (path : List ℕ) → Picked (paths_of picked) v path ↔ ChainPicked picked v path
picked_paths picked v path = (
  (λ e. chain_with (slice_get picked v) path (sym (slice_get-paths_of picked v) ∙ e)),
  (λ p. slice_get-paths_of picked v ∙ (ap (option_map (option_map (λ (s : Seen). s.path))) p.1 ∙ ap (λ q. Some (Some q)) p.2)),
)

pub adds_from_picks : (run : Run) (g l : ℕ) (picked : List (Option Seen)) → ArePicks run g l picked → AreAdds run g l (paths_of picked)
adds_from_picks run g l picked all v path = ((λ e. (all v path).0 ((picked_paths picked v path).0 e)), λ q. (picked_paths picked v path).1 ((all v path).1 q))
