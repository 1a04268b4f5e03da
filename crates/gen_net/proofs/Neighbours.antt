-- The neighbours of a general, looked for among one general more.
use Rattle.std.proofs.Common.{◌≡◌, ℕ, ◌+◌, ◌<◌, ◌⊎◌, inl, inr, List, Contains, sym, subst, arith}
use Rattle.std.proofs.lemmas.Bool.{cases_eq}
use Rattle.gen_types.specs.Ascending.{IsListOf}
use Rattle.gen_net.specs.Network.{Network, AreNeighbours, IsNetwork}

pub one_more : (P : ℕ → Type 0) (old new : List ℕ) (k : ℕ) → IsListOf old (λ h. (h < k) × P h) → P k → IsListOf new (λ v. Contains old v ⊎ (v ≡ k)) → IsListOf new (λ h. (h < k + 1) × P h)
one_more P old new k so_far here grown = record {
  ascending = grown.ascending;
  members = λ v. (
    (λ h. elim ((grown.members v).0 h) [
      | inl before ↦ let r = (so_far.members v).0 before in (omega (arith, r.0), r.1)
      | inr e ↦ (omega arith, subst P (sym e) here)
    ]),
    (λ h. elim (cases_eq v k) [
      | inl e ↦ (grown.members v).1 (inr e)
      | inr ne ↦ (grown.members v).1 (inl ((so_far.members v).1 (omega (arith, h.0, ne), h.1)))
    ]),
  );
}

pub passed : (P : ℕ → Type 0) (old : List ℕ) (k : ℕ) → IsListOf old (λ h. (h < k) × P h) → (P k → ⊥) → IsListOf old (λ h. (h < k + 1) × P h)
passed P old k so_far not_here = record {
  ascending = so_far.ascending;
  members = λ v. (
    (λ h. let r = (so_far.members v).0 h in (omega (arith, r.0), r.1)),
    (λ h. elim (cases_eq v k) [
      | inl e ↦ absurd (not_here (subst P e h.1))
      | inr ne ↦ (so_far.members v).1 (omega (arith, h.0, ne), h.1)
    ]),
  );
}

pub all_looked_at : (P : ℕ → Type 0) (found : List ℕ) (n : ℕ) → IsListOf found (λ h. (h < n) × P h) → ((h : ℕ) → P h → h < n) → IsListOf found P
all_looked_at P found n so_far below = record {
  ascending = so_far.ascending;
  members = λ v. ((λ h. ((so_far.members v).0 h).1), λ p. (so_far.members v).1 (below v p, p));
}

-- whoever is joined to a general is below n
pub joined_below : (net : Network) → IsNetwork net → (a b : ℕ) → AreNeighbours net a b → b < net.generals
joined_below net ok a b joined = elim joined [
  | inl h ↦ (ok.edges.inside a b h).1
  | inr h ↦ let r = ok.edges.inside b a h in omega (arith, r.0, r.1)
]
