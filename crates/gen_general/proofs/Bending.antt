-- Flipping a bit in a chain's bytes.
use Rattle.std.proofs.Common.{◌≡◌, ◌<◌, ◌≤◌, ◌-◌, ℕ, suc, Bool, true, List, [], ◌∷◌, ◌++◌, refl, sym, ap, ◌∙◌, append_assoc, eqb, length, set, get_or, bit_xor, length-append, arith}
use Rattle.std.specs.List.{flat_map}
use Rattle.std.proofs.lemmas.Bool.{agree_below_at, eqb-true}
use Rattle.std.proofs.lemmas.List.{append-nil}
use Rattle.std.proofs.lemmas.List.Concat.{flat_map-cons}
use Rattle.std.proofs.Math.Seq.{set-append_seam, get_or-append_seam}
use Rattle.gen_types.specs.declared.heights.TreeHeight.{TreeHeight}
use Rattle.gen_types.specs.declared.heights.TreeHeight.TheVariants.{Four, Six}
use Rattle.gen_tree.specs.Sizes.{signature_length}
use Rattle.gen_chain.specs.declared.chains.Signer.{Signer}
use Rattle.gen_chain.specs.Chain.{Chain, IsSignedChain, AreSignatures, signer_spelling, chain_spelling}
use Rattle.gen_scenario.specs.Signing.{flipped, bent_signers, bent}
use Rattle.gen_scenario.proofs.GoodChains.{bent_count}

flips : ℕ → Bool
flips n = eqb (bit_xor n 128) (flipped n)

all_flip : (b : ℕ) → b < 256 → flips b ≡ true
unfolding flips
all_flip b low = agree_below_at flips (λ n. true) 256 b refl low

pub xor_flips : (b : ℕ) → b < 256 → bit_xor b 128 ≡ flipped b
unfolding flips
xor_flips b low = eqb-true (bit_xor b 128) (flipped b) (all_flip b low)

-- where the first byte of the last signature stands, and what is there when it is bent
record LastSignature (height : TreeHeight) (signers : List Signer) : Type 0 where
  front : List ℕ
  first : ℕ
  others : List ℕ
  stands : flat_map signer_spelling signers ≡ front ++ first ∷ others
  size : suc (length others) ≡ signature_length height
  is_bent : flat_map signer_spelling (bent_signers signers) ≡ front ++ flipped first ∷ others

some_bytes : (height : TreeHeight) → 0 < signature_length height
some_bytes Four = omega arith
some_bytes Six = omega arith

last_of_one : (height : TreeHeight) (g : ℕ) (signature : List ℕ) → length signature ≡ signature_length height → LastSignature height (record { general = g; signature = signature } ∷ [])
last_of_one height g [] long = absurd (omega (arith, long, some_bytes height))
last_of_one height g (b ∷ others) long = record {
  front = g ∷ [];
  first = b;
  others = others;
  stands = flat_map-cons signer_spelling (record { general = g; signature = b ∷ others }) [] ∙ append-nil (g ∷ b ∷ others);
  size = long;
  is_bent = flat_map-cons signer_spelling (record { general = g; signature = flipped b ∷ others }) [] ∙ append-nil (g ∷ flipped b ∷ others);
}

last_signature_of : (height : TreeHeight) (signers : List Signer) → 1 ≤ length signers → AreSignatures height signers → LastSignature height signers
last_signature_of height [] some wide = absurd (omega (arith, some))
last_signature_of height (s ∷ []) some wide = last_of_one height s.general s.signature wide.0
last_signature_of height (s ∷ t ∷ signers) some wide =
    let rest = last_signature_of height (t ∷ signers) (omega arith) wide.1 in
    record {
      front = signer_spelling s ++ rest.front;
      first = rest.first;
      others = rest.others;
      stands = flat_map-cons signer_spelling s (t ∷ signers) ∙ ap (λ (bs : List ℕ). signer_spelling s ++ bs) rest.stands ∙ sym (append_assoc (signer_spelling s) rest.front (rest.first ∷ rest.others));
      size = rest.size;
      is_bent = flat_map-cons signer_spelling s (bent_signers (t ∷ signers)) ∙ ap (λ (bs : List ℕ). signer_spelling s ++ bs) rest.is_bent ∙ sym (append_assoc (signer_spelling s) rest.front (flipped rest.first ∷ rest.others));
    }

-- the place of that byte in a chain's bytes
pub has_signature : (height : TreeHeight) (c : Chain) → IsSignedChain height c → signature_length height ≤ length (chain_spelling c)
has_signature height c is =
    let at = last_signature_of height c.signers is.some is.wide in
    omega (arith, at.size, ap length at.stands, length-append at.front (at.first ∷ at.others))

pub bent_bytes : (height : TreeHeight) (c : Chain) (bytes : List ℕ) (at first new d : ℕ) → IsSignedChain height c → bytes ≡ chain_spelling c → at ≡ length bytes - signature_length height → first ≡ get_or bytes at d → new ≡ flipped first → set bytes at new ≡ chain_spelling (bent c)
bent_bytes height c bytes at first new d is spelled place read flip =
    let last = last_signature_of height c.signers is.some is.wide in
    let front : List ℕ = c.order ∷ length c.signers ∷ last.front in
    let stands : bytes ≡ front ++ last.first ∷ last.others = spelled ∙ ap (λ (bs : List ℕ). c.order ∷ length c.signers ∷ bs) last.stands in
    let behind : at ≡ length front = omega (arith, place, ap length stands, length-append front (last.first ∷ last.others), last.size) in
    let found : first ≡ last.first = read ∙ ap (λ (bs : List ℕ). get_or bs at d) stands ∙ ap (λ i. get_or (front ++ last.first ∷ last.others) i d) behind ∙ get_or-append_seam front last.first last.others d in
    let value : new ≡ flipped last.first = flip ∙ ap flipped found in
    ap (λ (bs : List ℕ). set bs at new) stands ∙ ap (λ i. set (front ++ last.first ∷ last.others) i new) behind
    ∙ set-append_seam front last.first last.others new ∙ ap (λ v. front ++ v ∷ last.others) value
    ∙ sym (ap (λ (bs : List ℕ). c.order ∷ length c.signers ∷ bs) last.is_bent)
    ∙ ap (λ n. c.order ∷ n ∷ flat_map signer_spelling (bent_signers c.signers)) (sym (bent_count c.signers))
