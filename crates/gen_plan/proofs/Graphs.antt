-- The neighbours of one general more.
use Rattle.std.proofs.Common.{◌≡◌, ℕ, ◌+◌, ◌<◌, inl, inr, List, length, slice_index_or, slice_set, ap, ◌∙◌, subst, arith, get_or-set_other, get_or-set_same}
use Rattle.std.proofs.Math.ListN.{length-set}
use Rattle.std.proofs.lemmas.Bool.{cases_eq}
use Rattle.gen_net.specs.Network.{Network, AreNeighbours}
use Rattle.gen_types.specs.Ascending.{IsListOf}
use Rattle.gen_types.specs.Bits.{members_of, bits_of}
use Rattle.gen_types.proofs.BitSteps.{members_back}

-- the sets of the neighbours of the generals below a number
abbrev pub NeighboursBelow : Network → List ℕ → ℕ → Type 0
NeighboursBelow net bits number = (length bits ≡ 16)
    × ((g : ℕ) → g < number → IsListOf (members_of (slice_index_or bits g 0)) (AreNeighbours net g))

pub neighbours_more : (net : Network) (bits : List ℕ) (number general : ℕ) (set : List ℕ) (of_set : ℕ) → general ≡ number → number < 16
    → of_set ≡ bits_of set → ((v : ℕ) → AreNeighbours net general v → v < 16) → IsListOf set (AreNeighbours net general) → NeighboursBelow net bits number
    → NeighboursBelow net (slice_set bits number of_set) (number + 1)
neighbours_more net bits number general set of_set at low is few list so = (
  omega (arith, so.0, length-set {A = ℕ}),
  λ g l. elim (cases_eq g number) [
    | inl e ↦
        let here : slice_index_or (slice_set bits number of_set) number 0 ≡ of_set = get_or-set_same bits number of_set 0 (omega (arith, so.0, low)) in
        let back : members_of (bits_of set) ≡ set = members_back set list.ascending (λ v h. few v ((list.members v).0 h)) in
        let whole : members_of of_set ≡ set = ap members_of is ∙ back in
        rw (e, here, whole) (subst (λ x. IsListOf set (AreNeighbours net x)) at list)
    | inr ne ↦
        let there : slice_index_or (slice_set bits number of_set) g 0 ≡ slice_index_or bits g 0 = get_or-set_other bits number g of_set 0 ne in
        rw there (so.1 g (omega (arith, l, ne)))
  ],
)
