-- The two laws of reading a chain, and how many bytes a chain has.
use Rattle.std.proofs.Common.{◌≡◌, ℕ, suc, ◌+◌, ◌*◌, ◌<◌, ◌≤◌, Bool, true, false, not, ◌&&◌, List, [], ◌∷◌, ◌++◌, length, Contains, inl, inr, Ok, refl, ap, subst, ◌∙◌, arith}
use Rattle.std.specs.Prelude.{nat_le, nat_lt}
use Rattle.std.specs.List.{flat_map, AllByRecursion}
use Rattle.std.proofs.lemmas.List.{length-append}
use Rattle.std.proofs.lemmas.List.Concat.{flat_map-cons}
use Rattle.std.proofs.lemmas.List.Elements.{All-contains}
use Rattle.std.proofs.lemmas.Bool.{leb-true, le-leb, ltb-true, lt-ltb, eqb-true}
use Rattle.std.proofs.Math.Bool.{and-eq-true_iff}
use Rattle.std.proofs.Math.Nat.{mul-suc}
use Rattle.gen_types.specs.declared.heights.TreeHeight.{TreeHeight}
use Rattle.gen_types.specs.declared.heights.TreeHeight.TheVariants.{Four, Six}
use Rattle.gen_types.specs.Ends.{BeginsWith}
use Rattle.gen_types.specs.Reading.{◌>>=◌, check}
use Rattle.gen_types.specs.Bytes.{byte_at, bytes_at, many_at}
use Rattle.gen_types.proofs.ByteFields.{bytes_again}
use Rattle.gen_types.proofs.Lists.{All_of, Contains_cases, Contains_nil, Contains_here, Contains_there}
use Rattle.gen_types.proofs.ManyFields.{Reads, many_again}
use Rattle.gen_types.proofs.Steps.{after, after_check, at_end}
use Rattle.gen_tree.specs.Sizes.{signature_length}
use Rattle.gen_chain.specs.declared.fault.ChainFault.{ChainFault}
use Rattle.gen_chain.specs.declared.fault.ChainFault.TheVariants.{Truncated, OrderRange, SignerCount, BadSigner, NotFromCommander}
use Rattle.gen_chain.specs.declared.chains.Signer.{Signer}
use Rattle.gen_chain.specs.Chain.{Chain, IsSignedChain, AreSignatures, greatest_order, most_signers, signed_path, signer_length, signer_spelling, chain_spelling}
use Rattle.gen_chain.specs.ChainReading.{repeats, begins_with_commander, signer_at, ChainFront, chain_front_at, signers_at, chain_at}
use Rattle.gen_chain.proofs.DistinctPaths.{AreDistinct, distinct_from, repeats_not}
use Rattle.gen_chain.proofs.Parts.{byte_parts, bytes_parts, ReadsParts, ManyParts, many_parts, takes_by}

-- ---- signers

-- a signer who can be written
pub record CanStand (height : TreeHeight) (s : Signer) : Type 0 where
  pub below : s.general < 16
  pub wide : length s.signature ≡ signature_length height

signer_parts : (height : TreeHeight) → ReadsParts (signer_at height) signer_spelling (CanStand height)
unfolding signer_at
signer_parts height bytes x e =
    after (byte_at Truncated bytes) (λ general. bytes_at Truncated (signature_length height) general.1 >>= λ signature. check (nat_lt general.0 16) BadSigner >>= λ known. Ok (record { general = general.0; signature = signature.0 }, signature.1)) x e (λ general r0 e0.
    after (bytes_at Truncated (signature_length height) general.1) (λ signature. check (nat_lt general.0 16) BadSigner >>= λ known. Ok (record { general = general.0; signature = signature.0 }, signature.1)) x e0 (λ signature r1 e1.
    after_check (nat_lt general.0 16) BadSigner (λ known. Ok (record { general = general.0; signature = signature.0 }, signature.1)) x e1 (λ known e2.
    let t0 : bytes ≡ general.0 ∷ general.1 = byte_parts Truncated bytes general.0 general.1 r0 in
    let t1 = bytes_parts Truncated (signature_length height) general.1 signature.0 signature.1 r1 in
    at_end {F = ChainFault} (λ (y : Signer × List ℕ). (bytes ≡ signer_spelling y.0 ++ y.1) × CanStand height y.0) (record { general = general.0; signature = signature.0 }, signature.1) x e2
    (t0 ∙ ap (λ (t : List ℕ). general.0 ∷ t) t1.0, record { below = ltb-true _ _ known; wide = t1.1 }))))

signer_again : (height : TreeHeight) (s : Signer) (rest : List ℕ) → CanStand height s → signer_at height (signer_spelling s ++ rest) ≡ Ok (s, rest)
unfolding signer_at
signer_again height s rest fits =
    let known : nat_lt s.general 16 ≡ true = lt-ltb _ _ fits.below in
    rw (bytes_again Truncated (signature_length height) s.signature rest fits.wide, known) refl

signers_read : (height : TreeHeight) → Reads (signer_at height) signer_spelling (CanStand height)
signers_read height = record {
  takes = λ bytes x are e. let t = signer_parts height bytes x e in (takes_by bytes (signer_spelling x.0) x.1 are t.0, t.1);
  again = signer_again height;
}

-- all of them can be written where the generals are below 16 and the signatures have their bytes
abbrev pub CanAllStand : TreeHeight → List Signer → Type 0
CanAllStand height signers = AllByRecursion (CanStand height) signers

all_wide : (height : TreeHeight) (signers : List Signer) → CanAllStand height signers → AreSignatures height signers
all_wide height [] all = tt
all_wide height (s ∷ signers) all = (all.0.wide, all_wide height signers all.1)

each_below : (height : TreeHeight) (signers : List Signer) → CanAllStand height signers → (g : ℕ) → Contains (signed_path signers) g → g < 16
each_below height [] all g h = absurd (Contains_nil g h)
each_below height (s ∷ signers) all g h = elim (Contains_cases s.general g (signed_path signers) h) [
  | inl e ↦ subst (λ k. k < 16) e all.0.below
  | inr k ↦ each_below height signers all.1 g k
]

all_stand : (height : TreeHeight) (signers : List Signer) → ((g : ℕ) → Contains (signed_path signers) g → g < 16) → AreSignatures height signers → CanAllStand height signers
all_stand height [] below wide = tt
all_stand height (s ∷ signers) below wide = (record { below = below s.general (Contains_here s.general (signed_path signers)); wide = wide.0 }, all_stand height signers (λ g h. below g (Contains_there s.general g (signed_path signers) h)) wide.1)

-- ---- who make a path

from_commander : (path : List ℕ) → begins_with_commander path ≡ true → BeginsWith path (0 ∷ [])
from_commander [] e = absurd cc
from_commander (g ∷ path) e = (path, ap (λ (k : ℕ). k ∷ path) (eqb-true g 0 e))

commander_first : (path : List ℕ) → BeginsWith path (0 ∷ []) → begins_with_commander path ≡ true
commander_first path begun = rw begun.1 refl

no_repeat : (b : Bool) → not b ≡ true → b ≡ false
no_repeat true e = absurd cc
no_repeat false e = refl

record SignersParts (height : TreeHeight) (count : ℕ) (bytes : List ℕ) (x : List Signer × List ℕ) : Type 0 where
  many : ManyParts signer_spelling (CanStand height) bytes count x
  distinct : AreDistinct (signed_path x.0)
  first : BeginsWith (signed_path x.0) (0 ∷ [])

signers_parts : (height : TreeHeight) (count : ℕ) (bytes : List ℕ) (x : List Signer × List ℕ) → signers_at height count bytes ≡ Ok x → SignersParts height count bytes x
unfolding signers_at
signers_parts height count bytes x e =
    after (many_at (signer_at height) count bytes) (λ signers. check (not (repeats (signed_path signers.0))) BadSigner >>= λ distinct. check (begins_with_commander (signed_path signers.0)) NotFromCommander >>= λ first. Ok signers) x e (λ signers r0 e0.
    after_check (not (repeats (signed_path signers.0))) BadSigner (λ distinct. check (begins_with_commander (signed_path signers.0)) NotFromCommander >>= λ first. Ok signers) x e0 (λ distinct e1.
    after_check (begins_with_commander (signed_path signers.0)) NotFromCommander (λ first. Ok signers) x e1 (λ first e2.
    at_end {F = ChainFault} (SignersParts height count bytes) signers x e2 (record {
      many = many_parts (signer_at height) signer_spelling (CanStand height) (signer_parts height) count bytes signers r0;
      distinct = distinct_from (signed_path signers.0) (no_repeat (repeats (signed_path signers.0)) distinct);
      first = from_commander (signed_path signers.0) first;
    }))))

signers_again : (height : TreeHeight) (signers : List Signer) (rest : List ℕ) → CanAllStand height signers → AreDistinct (signed_path signers) → BeginsWith (signed_path signers) (0 ∷ []) → signers_at height (length signers) (flat_map signer_spelling signers ++ rest) ≡ Ok (signers, rest)
unfolding signers_at
signers_again height signers rest stand distinct first =
    rw (many_again (signer_at height) signer_spelling (CanStand height) (signers_read height) signers rest stand, repeats_not (signed_path signers) distinct, commander_first (signed_path signers) first) refl

-- ---- what stands before them

record FrontParts (bytes : List ℕ) (x : ChainFront × List ℕ) : Type 0 where
  parts : bytes ≡ x.0.order ∷ x.0.count ∷ x.1
  order : x.0.order ≤ greatest_order
  some : 1 ≤ x.0.count
  few : x.0.count ≤ most_signers

front_parts : (bytes : List ℕ) (x : ChainFront × List ℕ) → chain_front_at bytes ≡ Ok x → FrontParts bytes x
unfolding chain_front_at
front_parts bytes x e =
    after (byte_at Truncated bytes) (λ order. byte_at Truncated order.1 >>= λ count. check (nat_le order.0 greatest_order) OrderRange >>= λ known. check (nat_le 1 count.0 && nat_le count.0 most_signers) SignerCount >>= λ lawful. Ok (record { order = order.0; count = count.0 }, count.1)) x e (λ order r0 e0.
    after (byte_at Truncated order.1) (λ count. check (nat_le order.0 greatest_order) OrderRange >>= λ known. check (nat_le 1 count.0 && nat_le count.0 most_signers) SignerCount >>= λ lawful. Ok (record { order = order.0; count = count.0 }, count.1)) x e0 (λ count r1 e1.
    after_check (nat_le order.0 greatest_order) OrderRange (λ known. check (nat_le 1 count.0 && nat_le count.0 most_signers) SignerCount >>= λ lawful. Ok (record { order = order.0; count = count.0 }, count.1)) x e1 (λ low e2.
    after_check (nat_le 1 count.0 && nat_le count.0 most_signers) SignerCount (λ lawful. Ok (record { order = order.0; count = count.0 }, count.1)) x e2 (λ lawful e3.
    let t0 : bytes ≡ order.0 ∷ order.1 = byte_parts Truncated bytes order.0 order.1 r0 in
    let t1 : order.1 ≡ count.0 ∷ count.1 = byte_parts Truncated order.1 count.0 count.1 r1 in
    let both = (and-eq-true_iff (nat_le 1 count.0) (nat_le count.0 most_signers)).0 lawful in
    at_end {F = ChainFault} (FrontParts bytes) (record { order = order.0; count = count.0 }, count.1) x e3 (record {
      parts = t0 ∙ ap (λ (t : List ℕ). order.0 ∷ t) t1;
      order = leb-true _ _ low;
      some = leb-true _ _ both.0;
      few = leb-true _ _ both.1;
    })))))

front_again : (order count : ℕ) (rest : List ℕ) → order ≤ greatest_order → 1 ≤ count → count ≤ most_signers → chain_front_at (order ∷ count ∷ rest) ≡ Ok (record { order = order; count = count }, rest)
unfolding chain_front_at
front_again order count rest low some few =
    let l : nat_le order greatest_order ≡ true = le-leb _ _ low in
    let s : nat_le 1 count ≡ true = le-leb _ _ some in
    let f : nat_le count most_signers ≡ true = le-leb _ _ few in
    rw (l, s, f) refl

-- ---- how many bytes a chain has

none_times : (w : ℕ) → 0 ≡ w * 0
none_times w = omega arith

one_more : (w l rest n : ℕ) → l ≡ w → rest ≡ (1 + w) * n → suc l + rest ≡ (1 + w) * (suc n)
one_more w l rest n first more = omega (arith, mul-suc (1 + w) n, first, more)

pub length-signers : (height : TreeHeight) (signers : List Signer) → AreSignatures height signers → length (flat_map signer_spelling signers) ≡ signer_length height * length signers
length-signers height [] wide = none_times (signer_length height)
length-signers height (s ∷ signers) wide =
    let more = length-signers height signers wide.1 in
    let first : length s.signature ≡ signature_length height = wide.0 in
    let all : length (flat_map signer_spelling (s ∷ signers)) ≡ suc (length s.signature) + length (flat_map signer_spelling signers) = ap length (flat_map-cons signer_spelling s signers) ∙ length-append (signer_spelling s) (flat_map signer_spelling signers) in
    all ∙ one_more (signature_length height) (length s.signature) (length (flat_map signer_spelling signers)) (length signers) first more

-- and how many at most
pub signers_most : (height : TreeHeight) (n : ℕ) → n ≤ most_signers → signer_length height * n ≤ 265232
signers_most Four n few = omega (arith, few)
signers_most Six n few = omega (arith, few)

-- ---- the chain

-- what was read makes a chain
pub is_chain : (height : TreeHeight) (order count : ℕ) (rest : List ℕ) (signers : List Signer) (after_them : List ℕ) → order ≤ greatest_order → 1 ≤ count → count ≤ most_signers → signers_at height count rest ≡ Ok (signers, after_them)
    → IsSignedChain height (record { order = order; signers = signers })
is_chain height order count rest signers after_them low some few s =
    let t1 = signers_parts height count rest (signers, after_them) s in
    let count_is : length signers ≡ count = t1.many.count_is in
    record {
      order = low;
      some = omega (arith, count_is, some);
      few = omega (arith, count_is, few);
      below = All_of (λ g. g < 16) (signed_path signers) (each_below height signers t1.many.fit);
      distinct = t1.distinct;
      from_commander = t1.first;
      wide = all_wide height signers t1.many.fit;
    }

pub chain_parts : (height : TreeHeight) → ReadsParts (chain_at height) chain_spelling (IsSignedChain height)
unfolding chain_at
chain_parts height bytes x e =
    after (chain_front_at bytes) (λ front. check (nat_le (signer_length height * front.0.count) (length front.1)) Truncated >>= λ enough. signers_at height front.0.count front.1 >>= λ signers. Ok (record { order = front.0.order; signers = signers.0 }, signers.1)) x e (λ front r0 e0.
    after_check (nat_le (signer_length height * front.0.count) (length front.1)) Truncated (λ enough. signers_at height front.0.count front.1 >>= λ signers. Ok (record { order = front.0.order; signers = signers.0 }, signers.1)) x e0 (λ enough e1.
    after (signers_at height front.0.count front.1) (λ signers. Ok (record { order = front.0.order; signers = signers.0 }, signers.1)) x e1 (λ signers r2 e2.
    let t0 = front_parts bytes front r0 in
    let t1 = signers_parts height front.0.count front.1 signers r2 in
    let start : bytes ≡ front.0.order ∷ length signers.0 ∷ front.1 = rw t1.many.count_is t0.parts in
    at_end {F = ChainFault} (λ (y : Chain × List ℕ). (bytes ≡ chain_spelling y.0 ++ y.1) × IsSignedChain height y.0) (record { order = front.0.order; signers = signers.0 }, signers.1) x e2 (
      start ∙ ap (λ (t : List ℕ). front.0.order ∷ length signers.0 ∷ t) t1.many.parts,
      is_chain height front.0.order front.0.count front.1 signers.0 signers.1 t0.order t0.some t0.few r2,
    ))))

chain_again : (height : TreeHeight) (c : Chain) (rest : List ℕ) → IsSignedChain height c → chain_at height (chain_spelling c ++ rest) ≡ Ok (c, rest)
unfolding chain_at
chain_again height c rest is =
    let stand = all_stand height c.signers (λ g h. All-contains (λ k. k < 16) (signed_path c.signers) g is.below h) is.wide in
    let long : signer_length height * length c.signers ≤ length (flat_map signer_spelling c.signers ++ rest) = omega (arith, length-signers height c.signers is.wide, length-append (flat_map signer_spelling c.signers) rest) in
    let enough : nat_le (signer_length height * length c.signers) (length (flat_map signer_spelling c.signers ++ rest)) ≡ true = le-leb _ _ long in
    rw (front_again c.order (length c.signers) (flat_map signer_spelling c.signers ++ rest) is.order is.some is.few, enough, signers_again height c.signers rest stand is.distinct is.from_commander) refl

-- so a chain can be a field of longer bytes
pub chains_read : (height : TreeHeight) → Reads (chain_at height) chain_spelling (IsSignedChain height)
chains_read height = record {
  takes = λ bytes x are e. let t = chain_parts height bytes x e in (takes_by bytes (chain_spelling x.0) x.1 are t.0, t.1);
  again = chain_again height;
}
