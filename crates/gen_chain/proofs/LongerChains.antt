-- Chains with one signer, and with one signer more.
use Rattle.std.proofs.Common.{◌≡◌, ℕ, ◌+◌, ◌<◌, ◌≤◌, List, [], ◌∷◌, ◌++◌, length, Contains, inl, inr, ap, subst, arith}
use Rattle.std.proofs.lemmas.List.{length-append, map-append, length-map}
use Rattle.gen_types.specs.declared.heights.TreeHeight.{TreeHeight}
use Rattle.gen_types.specs.Ends.{BeginsWith}
use Rattle.gen_types.proofs.Lists.{All_of, Contains_cases, Contains_nil}
use Rattle.gen_tree.specs.Sizes.{signature_length}
use Rattle.gen_chain.specs.declared.chains.Signer.{Signer}
use Rattle.gen_chain.specs.Chain.{IsSignedChain, AreSignatures, greatest_order, signed_path}
use Rattle.gen_chain.proofs.DistinctPaths.{distinct-push, below-push, has_room}

wide-push : (height : TreeHeight) (signers : List Signer) (s : Signer) → AreSignatures height signers → length s.signature ≡ signature_length height → AreSignatures height (signers ++ s ∷ [])
wide-push height [] s all wide = (wide, tt)
wide-push height (t ∷ signers) s all wide = (all.0, wide-push height signers s all.1 wide)

longer_begins : (path : List ℕ) (g : ℕ) → BeginsWith path (0 ∷ []) → BeginsWith (path ++ g ∷ []) (0 ∷ [])
longer_begins path g begun = (begun.0 ++ g ∷ [], ap (λ (p : List ℕ). p ++ g ∷ []) begun.1)

pub chain-push : (height : TreeHeight) (order : ℕ) (signers : List Signer) (s : Signer) → IsSignedChain height (record { order = order; signers = signers }) → s.general < 16 → (Contains (signed_path signers) s.general → ⊥) → length s.signature ≡ signature_length height
    → IsSignedChain height (record { order = order; signers = signers ++ s ∷ [] })
chain-push height order signers s is small new wide =
    let path : signed_path (signers ++ s ∷ []) ≡ signed_path signers ++ s.general ∷ [] = map-append (λ (t : Signer). t.general) signers (s ∷ []) in
    let len : length (signers ++ s ∷ []) ≡ length signers + 1 = length-append signers (s ∷ []) in
    let room = has_room 16 (signed_path signers) s.general is.distinct is.below small new in
    let count : length (signed_path signers) ≡ length signers = length-map signers (λ (t : Signer). t.general) in
    record {
      order = is.order;
      some = omega (arith, len);
      few = omega (arith, len, room, count);
      below = rw path (below-push 16 (signed_path signers) s.general is.below small);
      distinct = rw path (distinct-push (signed_path signers) s.general is.distinct new);
      from_commander = rw path (longer_begins (signed_path signers) s.general is.from_commander);
      wide = wide-push height signers s is.wide wide;
    }

-- the commander alone makes a chain
pub chain_of_one : (height : TreeHeight) (order : ℕ) (s : Signer) → order ≤ greatest_order → s.general ≡ 0 → length s.signature ≡ signature_length height → IsSignedChain height (record { order = order; signers = s ∷ [] })
chain_of_one height order s low commander wide = record {
  order = low;
  some = omega arith;
  few = omega arith;
  below = All_of (λ g. g < 16) (s.general ∷ []) (λ g h. elim (Contains_cases s.general g [] h) [ inl e ↦ subst (λ k. k < 16) e (omega (arith, commander)) | inr none ↦ absurd (Contains_nil g none) ]);
  distinct = λ i j d l m. absurd (omega arith);
  from_commander = ([], ap (λ (g : ℕ). g ∷ []) commander);
  wide = (wide, tt);
}
