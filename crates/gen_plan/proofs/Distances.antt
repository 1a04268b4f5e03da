-- How many edges a general is away from general 0.
use Rattle.std.proofs.Common.{◌≡◌, ℕ, ◌+◌, inl, inr, List, [], sym, subst, arith}
use Rattle.std.proofs.lemmas.Bool.{cases_eq}
use Rattle.gen_net.specs.Network.{Network}
use Rattle.gen_net.specs.Walks.{IsWalk}
use Rattle.gen_plan.specs.Plans.{IsJoinedBy}
use Rattle.gen_plan.specs.Sizes.{IsAway, IsFarAway}

pub away_at : (net : Network) (nobody : List ℕ) → nobody ≡ [] → (edges g commander : ℕ) → commander ≡ 0
    → IsJoinedBy net nobody edges commander g → IsFarAway net edges g → IsAway net g edges
away_at net nobody e edges g commander zero_is j far =
    let walk : IsWalk net [] j.0 0 g = subst (λ xs. IsWalk net xs j.0 0 g) e (subst (λ x. IsWalk net nobody j.0 x g) zero_is j.2) in
    elim (cases_eq j.0 edges) [
      | inl all ↦ (subst (λ k. IsWalk net [] k 0 g) all walk, far)
      | inr ne ↦ absurd (far j.0 (omega (arith, j.1, ne)) walk)
    ]

pub not_away : (net : Network) (nobody : List ℕ) → nobody ≡ [] → (edges g commander : ℕ) → commander ≡ 0
    → (IsJoinedBy net nobody edges commander g → ⊥) → IsFarAway net edges g → IsFarAway net (edges + 1) g
not_away net nobody e edges g commander zero_is none far k l walk = elim (cases_eq k edges) [
  | inl all ↦ none (k, omega (arith, all), subst (λ x. IsWalk net nobody k x g) (sym zero_is) (subst (λ xs. IsWalk net xs k 0 g) (sym e) walk))
  | inr ne ↦ far k (omega (arith, l, ne)) walk
]
