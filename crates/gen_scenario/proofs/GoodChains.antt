-- The chains that a scenario's generals make are chains, and verify.
use Rattle.std.proofs.Common.{◌≡◌, ◌≢◌, ◌<◌, ◌*◌, ℕ, suc, List, [], ◌∷◌, ◌++◌, length, Contains, All, AllPairs, refl, sym, ap, subst, ◌∙◌, append_assoc, arith, inl, inr, ◌+◌, ◌≤◌}
use Rattle.std.proofs.lemmas.List.{map-append, append-nil}
use Rattle.std.proofs.lemmas.List.Elements.{All-contains, Contains-append_cases}
use Rattle.std.proofs.lemmas.List.FromFn.{get_or-map-range_with_len}
use Rattle.gen_types.proofs.Lists.{Contains_here, Contains_there, Contains_cases, Contains_nil, AllPairs_head, AllPairs_tail}
use Rattle.gen_tree.specs.Sizes.{signature_length}
use Rattle.gen_chain.specs.Chain.{AreSignatures, Chain, IsSignedChain, signed_path}
use Rattle.gen_chain.specs.Verifying.{EachHasSigned, ChainVerifies, HasSigned}
use Rattle.gen_types.specs.Ends.{BeginsWith}
use Rattle.gen_scenario.specs.Scenario.{IsScenario, Scenario, header_of}
use Rattle.gen_net.specs.Header.{height_of, root_of, slot_of}
use Rattle.gen_chain.specs.declared.chains.Signer.{Signer}
use Rattle.gen_scenario.specs.Signing.{bent, bent_signature, bent_signers, lengthened, made, signer_behind, signers_along, Keys, order_key}
use Rattle.gen_chain.proofs.LongerChains.{chain-push, chain_of_one}
use Rattle.gen_scenario.specs.SignedWorld.{keys_of}
use Rattle.gen_tree.specs.Rings.{ring_root, seed_of}
use Rattle.gen_tree.proofs.Folding.{length-tree_signature, verifies-signature}
use Rattle.gen_chain.proofs.SignedSoFar.{none_signed, signed-push}
use Rattle.gen_chain.specs.Leaves.{leaf_of_order, leaves_per_run}
use Rattle.gen_types.specs.Heights.{leaves_of}
use Rattle.gen_types.specs.declared.heights.TreeHeight.{TreeHeight}
use Rattle.gen_net.specs.declared.version.Version.{Version}
use Rattle.gen_net.specs.declared.version.Version.TheVariants.{One, Two}
use Rattle.gen_net.specs.Version.{height_in, slot_in, greatest_slot}

-- ---- signatures

pub root_is : (s : Scenario) (g : ℕ) → g < s.net.generals → root_of (header_of s) g ≡ ring_root (seed_of s.master g) (height_in s.version)
root_is s g low = get_or-map-range_with_len (λ (x : ℕ). ring_root (seed_of s.master x) (height_in s.version)) 0 s.net.generals g g [] low (omega arith)

-- the leaves of a run are leaves of its trees
pub leaf_in : (version : Version) (n : ℕ) → slot_in version ≤ greatest_slot → n ≤ 15 → leaves_per_run * slot_in version + n < leaves_of (height_in version)
leaf_in One n low few = omega (arith, few)
leaf_in (Two slot) n low few = omega (arith, low, few)

pub leaf_low : (s : Scenario) → IsScenario s → (n : ℕ) → n ≤ 15 → leaves_per_run * slot_of (header_of s) + n < leaves_of (height_of (header_of s))
leaf_low s ok n few = leaf_in s.version n ok.slot few

order_leaf : (s : Scenario) → IsScenario s → (order : ℕ) → order < s.net.orders → leaf_of_order (header_of s) order < leaves_of (height_of (header_of s))
order_leaf s ok order low = leaf_low s ok order (omega (arith, low, ok.network.ranges.few_orders))

-- ---- one signer more

pub signed_behind : (s : Scenario) → IsScenario s → (order : ℕ) (path : List ℕ) (g : ℕ) → order < s.net.orders → g < s.net.generals → HasSigned (header_of s) g (record { order = order; path = path ++ g ∷ [] }) (signer_behind (keys_of s) order path g).signature
signed_behind s ok order path g low known = (known, rw (root_is s g known) (verifies-signature (order_key (keys_of s) g order) _ (order_leaf s ok order low)))

wide_behind : (s : Scenario) → IsScenario s → (order : ℕ) (path : List ℕ) (g : ℕ) → order < s.net.orders → length (signer_behind (keys_of s) order path g).signature ≡ signature_length (height_of (header_of s))
wide_behind s ok order path g low = length-tree_signature (order_key (keys_of s) g order) _ (order_leaf s ok order low)

-- signers who make a chain that verifies
pub record AreGood (s : Scenario) (order : ℕ) (signers : List Signer) : Type 0 where
  pub is_chain : IsSignedChain (height_of (header_of s)) (record { order = order; signers = signers })
  pub signed : EachHasSigned (header_of s) order signers

one_more : (s : Scenario) → IsScenario s → (order : ℕ) (signers : List Signer) (g : ℕ) → order < s.net.orders → g < s.net.generals → (Contains (signed_path signers) g → ⊥) → AreGood s order signers → AreGood s order (signers ++ signer_behind (keys_of s) order (signed_path signers) g ∷ [])
one_more s ok order signers g low known new good = record {
  is_chain = chain-push (height_of (header_of s)) order signers (signer_behind (keys_of s) order (signed_path signers) g) good.is_chain (omega (arith, known, ok.network.ranges.few_generals)) new (wide_behind s ok order (signed_path signers) g low);
  signed = signed-push (header_of s) order signers (signer_behind (keys_of s) order (signed_path signers) g) good.signed (signed_behind s ok order (signed_path signers) g low known);
}

-- ---- a path of signers more

-- the generals of a path are the network's, distinct, and none of another path
pub record MayFollow (n : ℕ) (before path : List ℕ) : Type 0 where
  pub known : (g : ℕ) → Contains path g → g < n
  pub distinct : AllPairs (λ g h. g ≢ h) path
  pub new : (g : ℕ) → Contains path g → Contains before g → ⊥

pub along_path : (k : Keys) (order : ℕ) (before path : List ℕ) → signed_path (signers_along k order before path) ≡ path
unfolding signers_along
along_path k order before [] = refl
along_path k order before (g ∷ path) = ap (λ (p : List ℕ). g ∷ p) (along_path k order (before ++ g ∷ []) path)

pub lengthened_path : (k : Keys) (c : Chain) (path : List ℕ) → signed_path (lengthened k c path).signers ≡ signed_path c.signers ++ path
lengthened_path k c path = map-append (λ (t : Signer). t.general) c.signers (signers_along k c.order (signed_path c.signers) path) ∙ ap (λ (p : List ℕ). signed_path c.signers ++ p) (along_path k c.order (signed_path c.signers) path)

pub follow_tail : (n : ℕ) (before : List ℕ) (g : ℕ) (path : List ℕ) → MayFollow n before (g ∷ path) → MayFollow n (before ++ g ∷ []) path
follow_tail n before g path may = record {
  known = λ h k. may.known h (Contains_there g h path k);
  distinct = AllPairs_tail (λ a b. a ≢ b) g path may.distinct;
  new = λ h k old. elim (Contains-append_cases before (g ∷ []) h old) [
    | inl early ↦ may.new h (Contains_there g h path k) early
    | inr last ↦ elim (Contains_cases g h [] last) [
      | inl e ↦ All-contains (λ b. g ≢ b) path h (AllPairs_head (λ a b. a ≢ b) g path may.distinct) k e
      | inr none ↦ absurd (Contains_nil h none)
    ]
  ];
}

all_more : (s : Scenario) → IsScenario s → (order : ℕ) → order < s.net.orders → (path : List ℕ) (signers : List Signer) → MayFollow s.net.generals (signed_path signers) path → AreGood s order signers → AreGood s order (signers ++ signers_along (keys_of s) order (signed_path signers) path)
unfolding signers_along
all_more s ok order low [] signers may good = subst (AreGood s order) (sym (append-nil signers)) good
all_more s ok order low (g ∷ path) signers may good =
    let last : Signer = signer_behind (keys_of s) order (signed_path signers) g in
    let path-is : signed_path (signers ++ last ∷ []) ≡ signed_path signers ++ g ∷ [] = map-append (λ (t : Signer). t.general) signers (last ∷ []) in
    let longer = one_more s ok order signers g low (may.known g (Contains_here g path)) (may.new g (Contains_here g path)) good in
    let tail : MayFollow s.net.generals (signed_path (signers ++ last ∷ [])) path = subst (λ p. MayFollow s.net.generals p path) (sym path-is) (follow_tail s.net.generals (signed_path signers) g path may) in
    let rest = all_more s ok order low path (signers ++ last ∷ []) tail longer in
    let regrouped : (signers ++ last ∷ []) ++ signers_along (keys_of s) order (signed_path (signers ++ last ∷ [])) path ≡ signers ++ (last ∷ signers_along (keys_of s) order (signed_path signers ++ g ∷ []) path) =
    append_assoc signers (last ∷ []) (signers_along (keys_of s) order (signed_path (signers ++ last ∷ [])) path) ∙ ap (λ (p : List ℕ). signers ++ (last ∷ signers_along (keys_of s) order p path)) path-is in
    subst (AreGood s order) regrouped rest

-- the chain is one that verifies
pub record IsGood (s : Scenario) (c : Chain) : Type 0 where
  pub is_chain : IsSignedChain (height_of (header_of s)) c
  pub verifies : ChainVerifies (header_of s) c

pub lengthened_good : (s : Scenario) → IsScenario s → (c : Chain) (path : List ℕ) → IsGood s c → MayFollow s.net.generals (signed_path c.signers) path → IsGood s (lengthened (keys_of s) c path)
lengthened_good s ok c path good may =
    let all = all_more s ok c.order good.verifies.0 path c.signers may (record { is_chain = good.is_chain; signed = good.verifies.1 }) in
    record { is_chain = all.is_chain; verifies = (good.verifies.0, all.signed) }

-- the commander alone
pub first_good : (s : Scenario) → IsScenario s → (order : ℕ) → order < s.net.orders → AreGood s order (signer_behind (keys_of s) order [] 0 ∷ [])
first_good s ok order low = record {
  is_chain = chain_of_one (height_of (header_of s)) order (signer_behind (keys_of s) order [] 0) (omega (arith, ok.network.ranges.few_orders)) refl (wide_behind s ok order [] 0 low);
  signed = signed-push (header_of s) order [] (signer_behind (keys_of s) order [] 0) (none_signed (header_of s) order) (signed_behind s ok order [] 0 low (omega (arith, ok.network.ranges.some_generals)));
}

-- all of a path that begins with the commander
pub made_good : (s : Scenario) → IsScenario s → (order : ℕ) (path : List ℕ) → order < s.net.orders → MayFollow s.net.generals (0 ∷ []) path → IsGood s (made (keys_of s) order (0 ∷ path))
unfolding signers_along
made_good s ok order path low may =
    let all = all_more s ok order low path (signer_behind (keys_of s) order [] 0 ∷ []) may (first_good s ok order low) in
    record { is_chain = all.is_chain; verifies = (low, all.signed) }

pub made_path : (k : Keys) (order : ℕ) (path : List ℕ) → signed_path (made k order path).signers ≡ path
made_path k order path = along_path k order [] path

-- ---- bent chains

pub bent_path : (signers : List Signer) → signed_path (bent_signers signers) ≡ signed_path signers
bent_path [] = refl
bent_path (t ∷ []) = refl
bent_path (t ∷ u ∷ signers) = ap (λ (p : List ℕ). t.general ∷ p) (bent_path (u ∷ signers))

bent_length : (signature : List ℕ) → length (bent_signature signature) ≡ length signature
bent_length [] = refl
bent_length (b ∷ others) = refl

pub bent_count : (signers : List Signer) → length (bent_signers signers) ≡ length signers
bent_count [] = refl
bent_count (t ∷ []) = refl
bent_count (t ∷ u ∷ signers) = ap suc (bent_count (u ∷ signers))

bent_wide : (height : TreeHeight) (signers : List Signer) → AreSignatures height signers → AreSignatures height (bent_signers signers)
bent_wide height [] all = tt
bent_wide height (t ∷ []) all = (bent_length t.signature ∙ all.0, tt)
bent_wide height (t ∷ u ∷ signers) all = (all.0, bent_wide height (u ∷ signers) all.1)

-- a bent chain is a chain with the same path; nothing is said of whether it verifies
pub bent_chain : (height : TreeHeight) (c : Chain) → IsSignedChain height c → IsSignedChain height (bent c)
bent_chain height c is =
    let same = sym (bent_path c.signers) in
    record {
      order = is.order;
      some = omega (arith, bent_count c.signers, is.some);
      few = omega (arith, bent_count c.signers, is.few);
      below = subst (All (λ g. g < 16)) same is.below;
      distinct = subst (AllPairs (λ g h. g ≢ h)) same is.distinct;
      from_commander = subst (λ p. BeginsWith p (0 ∷ [])) same is.from_commander;
      wide = bent_wide height c.signers is.wide;
    }
