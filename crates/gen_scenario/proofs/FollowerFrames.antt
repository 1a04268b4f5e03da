-- Who has no script sends exactly the chains that he signs, and they count.
use Rattle.std.proofs.Common.{◌≡◌, ◌≢◌, ◌<◌, ◌≤◌, inl, inr, ℕ, suc, ◌+◌, Bool, true, not, List, [], ◌∷◌, ◌++◌, map, filter, length, Contains, refl, sym, ap, subst, ◌∙◌, arith, eqb, Option, Some, None, length-append, zero}
use Rattle.std.specs.List.{flat_map, range_with_len}
use Rattle.std.proofs.lemmas.Bool.{eqb-true, eq-eqb}
use Rattle.std.proofs.lemmas.Bool as bools
use Rattle.std.proofs.lemmas.List.{length-map}
use Rattle.std.proofs.lemmas.List.Concat.{flat_map-cons}
use Rattle.std.proofs.lemmas.List.FromFn.{length-range_with_len}
use Rattle.gen_types.proofs.Lists.{Contains_here, Contains_cases, Contains_nil, Contains_mapped, Contains_flat_mapped, Contains_filtered, Contains_range, Contains_in_range, bool_cases}
use Rattle.gen_scenario.specs.Counting.{Carries}
use Rattle.gen_chain.specs.Chain.{Chain, IsSignedChain, chain_spelling, signed_path}
use Rattle.gen_scenario.proofs.HeardBy.{CountsAfter, by_has, counted_facts}
use Rattle.gen_types.specs.Ends.{EndsWith, is_among}
use Rattle.gen_scenario.specs.declared.heard.Heard.{Heard}
use Rattle.gen_scenario.proofs.GoodChains.{IsGood, MayFollow, lengthened_good, lengthened_path, made_good, made_path}
use Rattle.gen_scenario.specs.Scenario.{IsScenario, Scenario, header_of, script_of}
use Rattle.gen_scenario.proofs.CountedChains.{counted_gives, counted_has}
use Rattle.gen_scenario.specs.Counted.{counted_of}
use Rattle.gen_scenario.specs.SignedWorld.{delivery, heard_by, keys_of, own_order, sender_of}
use Rattle.gen_scenario.proofs.FirstHeard.{first_is, heard_in_order}
use Rattle.gen_scenario.specs.Heard.{first_of, round_of}
use Rattle.gen_scenario.specs.Frames.{followers_frame, frame_of, outside_of, relayed, signed_in, relays_in}
use Rattle.gen_net.specs.Header.{height_of}
use Rattle.gen_scenario.proofs.Having.{in_filtered, in_flat, in_mapped, not_among}
use Rattle.gen_scenario.specs.Signing.{lengthened, made}
use Rattle.gen_chain.proofs.ChainLaws.{chains_read}
use Rattle.gen_chain.specs.ChainReading.{chain_at}
use Rattle.gen_types.proofs.Front.{one_spelling_by}
use Rattle.gen_types.specs.declared.heights.TreeHeight.{TreeHeight}

-- two spellings of one text are of one chain
pub one_chain : (height : TreeHeight) (c k : Chain) → IsSignedChain height c → IsSignedChain height k → chain_spelling c ≡ chain_spelling k → c ≡ k
one_chain height c k is_c is_k e = (one_spelling_by (chain_at height) chain_spelling (IsSignedChain height) (chains_read height) c k [] [] is_c is_k (ap (λ (t : List ℕ). t ++ []) e)).0

-- ---- what a lieutenant signs

-- what a general without a script signs in the round after the first l
abbrev pub signs_of : Scenario → ℕ → ℕ → List Chain
signs_of s g l = signed_in (keys_of s) g (own_order s g) (heard_by s l g) (suc l)

-- the chain that g signs in the round after the first l, and the one that he heard first of its order
pub record SignedAfter (s : Scenario) (g l : ℕ) (k : Chain) : Type 0 where
  pub x : Heard
  pub first : first_of k.order (heard_by s l g) ≡ Some x
  pub now : round_of x ≡ l
  pub is : k ≡ lengthened (keys_of s) x.chain (g ∷ [])
  pub order_low : k.order < s.net.orders

relayed_has : (s : Scenario) (g l v : ℕ) (r : Option Heard) (k : Chain) → Contains (relayed (keys_of s) g (suc l) r) k → (x : Heard) × (r ≡ Some x) × (round_of x ≡ l) × (k ≡ lengthened (keys_of s) x.chain (g ∷ []))
relayed_has s g l v None k h = absurd (Contains_nil k h)
relayed_has s g l v (Some x) k h = elim (bool_cases (eqb (round_of x + 1) (suc l))) [
  | inr out ↦ absurd (Contains_nil k (rw out at h))
  | inl now ↦
      let one : Contains (lengthened (keys_of s) x.chain (g ∷ []) ∷ []) k = rw now at h in
      let e : round_of x + 1 ≡ suc l = eqb-true _ _ now in
      (x, refl, omega (arith, e), elim (Contains_cases (lengthened (keys_of s) x.chain (g ∷ [])) k [] one) [ inl same ↦ sym same | inr none ↦ absurd (Contains_nil k none) ])
]

pub lieutenants_sign : (s : Scenario) (g : ℕ) (heard : List Heard) (round : ℕ) → g ≢ 0 → signed_in (keys_of s) g (own_order s g) heard round ≡ relays_in (keys_of s) g heard round
lieutenants_sign s zero heard round ne = absurd (ne refl)
lieutenants_sign s (suc g) heard round ne = refl

pub signed_has : (s : Scenario) (g l : ℕ) (k : Chain) → g ≢ 0 → Contains (signs_of s g l) k → SignedAfter s g l k
unfolding relays_in
signed_has s g l k ne h =
    let all : Contains (relays_in (keys_of s) g (heard_by s l g) (suc l)) k = subst (λ (cs : List Chain). Contains cs k) (lieutenants_sign s g (heard_by s l g) (suc l) ne) h in
    let r = Contains_flat_mapped (λ order. relayed (keys_of s) g (suc l) (first_of order (heard_by s l g))) (range_with_len 0 s.net.orders) k all in
    let p = relayed_has s g l r.0 (first_of r.0 (heard_by s l g)) k r.2 in
    let f = first_is r.0 (heard_by s l g) p.0 (heard_in_order s l g) p.1 in
    let same : k.order ≡ r.0 = ap (λ (c : Chain). c.order) p.3 ∙ f.order_is in
    record {
      x = p.0;
      first = ap (λ v. first_of v (heard_by s l g)) same ∙ p.1;
      now = p.2;
      is = p.3;
      order_low = omega (arith, same, (Contains_range 0 s.net.orders r.0 r.1).1);
    }

pub signed_gives : (s : Scenario) (g l v : ℕ) (x : Heard) → g ≢ 0 → v < s.net.orders → first_of v (heard_by s l g) ≡ Some x → round_of x ≡ l → Contains (signs_of s g l) (lengthened (keys_of s) x.chain (g ∷ []))
unfolding relays_in
signed_gives s g l v x ne low first now =
    let test : eqb (round_of x + 1) (suc l) ≡ true = eq-eqb _ _ (omega (arith, now)) in
    let here : Contains (relayed (keys_of s) g (suc l) (first_of v (heard_by s l g))) (lengthened (keys_of s) x.chain (g ∷ [])) = rw (first, test) (Contains_here (lengthened (keys_of s) x.chain (g ∷ [])) []) in
    let all : Contains (relays_in (keys_of s) g (heard_by s l g) (suc l)) (lengthened (keys_of s) x.chain (g ∷ [])) = in_flat (λ order. relayed (keys_of s) g (suc l) (first_of order (heard_by s l g))) (range_with_len 0 s.net.orders) v (lengthened (keys_of s) x.chain (g ∷ [])) (Contains_in_range 0 s.net.orders v (omega arith) (omega arith)) here in
    subst (λ (cs : List Chain). Contains cs (lengthened (keys_of s) x.chain (g ∷ []))) (sym (lieutenants_sign s g (heard_by s l g) (suc l) ne)) all

-- ---- what anybody without a script signs

-- the chains that he signs are good ones of this round, of which he is the last signer, and no two are of one order
pub record EachHasSigned (s : Scenario) (g l : ℕ) (ks : List Chain) : Type 0 where
  pub few : length ks ≤ s.net.orders
  pub good : (k : Chain) → Contains ks k → IsGood s k
  pub long : (k : Chain) → Contains ks k → length (signed_path k.signers) ≡ suc l
  pub last : (k : Chain) → Contains ks k → EndsWith (signed_path k.signers) g
  pub once : (a b : Chain) → Contains ks a → Contains ks b → a.order ≡ b.order → a ≡ b

relayed_few : (s : Scenario) (g l : ℕ) (r : Option Heard) → length (relayed (keys_of s) g l r) ≤ 1
relayed_few s g l None = omega arith
relayed_few s g l (Some x) = elim (bool_cases (eqb (round_of x + 1) l)) [
  | inl now ↦ rw now (omega arith)
  | inr out ↦ rw out (omega arith)
]

flat_few : (f : ℕ → List Chain) → ((v : ℕ) → length (f v) ≤ 1) → (xs : List ℕ) → length (flat_map f xs) ≤ length xs
flat_few f one [] = omega arith
flat_few f one (x ∷ xs) = rw flat_map-cons (omega (arith, length-append (f x) (flat_map f xs), one x, flat_few f one xs))

pub length-range : (n : ℕ) → length (range_with_len 0 n) ≡ n
length-range n = rw length-range_with_len refl

relays_few : (s : Scenario) (g l : ℕ) → length (relays_in (keys_of s) g (heard_by s l g) (suc l)) ≤ s.net.orders
unfolding relays_in
relays_few s g l = omega (arith, flat_few (λ order. relayed (keys_of s) g (suc l) (first_of order (heard_by s l g))) (λ v. relayed_few s g (suc l) (first_of v (heard_by s l g))) (range_with_len 0 s.net.orders), length-range s.net.orders)

lieutenants_few : (s : Scenario) (g l : ℕ) → g ≢ 0 → length (signs_of s g l) ≤ s.net.orders
lieutenants_few s g l ne = subst (λ (cs : List Chain). length cs ≤ s.net.orders) (sym (lieutenants_sign s g (heard_by s l g) (suc l) ne)) (relays_few s g l)

one_follows : (n : ℕ) (before : List ℕ) (g : ℕ) → g < n → (Contains before g → ⊥) → MayFollow n before (g ∷ [])
one_follows n before g low new = record {
  known = λ h k. elim (Contains_cases g h [] k) [ inl e ↦ subst (λ x. x < n) e low | inr none ↦ absurd (Contains_nil h none) ];
  distinct = λ i j d l m. absurd (omega arith);
  new = λ h k old. elim (Contains_cases g h [] k) [ inl e ↦ new (subst (λ x. Contains before x) (sym e) old) | inr none ↦ absurd (Contains_nil h none) ];
}

-- what was heard first, lengthened
pub longer_is : (s : Scenario) → IsScenario s → (g l v : ℕ) (x : Heard) → g < s.net.generals → first_of v (heard_by s l g) ≡ Some x → IsGood s (lengthened (keys_of s) x.chain (g ∷ []))
longer_is s ok g l v x known first =
    let f = first_is v (heard_by s l g) x (heard_in_order s l g) first in
    let b = by_has s l g x f.stands in
    let facts = counted_facts s b.0 x.from g x.chain b.2.counts in
    lengthened_good s ok x.chain (g ∷ []) (record { is_chain = facts.is_chain; verifies = facts.verifies }) (one_follows s.net.generals (signed_path x.chain.signers) g known facts.outside)

lieutenants_signed : (s : Scenario) → IsScenario s → (g l : ℕ) → g ≢ 0 → g < s.net.generals → EachHasSigned s g l (signs_of s g l)
lieutenants_signed s ok g l ne known = record {
  few = lieutenants_few s g l ne;
  good = λ k h. let p = signed_has s g l k ne h in subst (IsGood s) (sym p.is) (longer_is s ok g l k.order p.x known p.first);
  long = λ k h.
      let p = signed_has s g l k ne h in
      let path : signed_path k.signers ≡ signed_path p.x.chain.signers ++ g ∷ [] = ap (λ (c : Chain). signed_path c.signers) p.is ∙ lengthened_path (keys_of s) p.x.chain (g ∷ []) in
      omega (arith, ap length path, length-append (signed_path p.x.chain.signers) (g ∷ []), p.now);
  last = λ k h.
      let p = signed_has s g l k ne h in
      (signed_path p.x.chain.signers, ap (λ (c : Chain). signed_path c.signers) p.is ∙ lengthened_path (keys_of s) p.x.chain (g ∷ []));
  once = λ a b ha hb e.
      let p = signed_has s g l a ne ha in
      let q = signed_has s g l b ne hb in
      let both : Some p.x ≡ Some q.x = sym p.first ∙ ap (λ v. first_of v (heard_by s l g)) e ∙ q.first in
      let same : p.x ≡ q.x = cc in
      p.is ∙ ap (λ (y : Heard). lengthened (keys_of s) y.chain (g ∷ [])) same ∙ sym q.is;
}

pub commanders_has : (s : Scenario) (heard : List Heard) (l : ℕ) (k : Chain) → Contains (signed_in (keys_of s) 0 (own_order s 0) heard (suc l)) k → (l ≡ 0) × (k ≡ made (keys_of s) s.order (0 ∷ []))
commanders_has s heard l k h = elim (bool_cases (eqb (suc l) 1)) [
  | inr out ↦ absurd (Contains_nil k (rw out at h))
  | inl now ↦
      let one : Contains (made (keys_of s) s.order (0 ∷ []) ∷ []) k = rw now at h in
      let e : suc l ≡ 1 = eqb-true _ _ now in
      (omega (arith, e), elim (Contains_cases (made (keys_of s) s.order (0 ∷ [])) k [] one) [ inl same ↦ sym same | inr none ↦ absurd (Contains_nil k none) ])
]

pub commanders_gives : (s : Scenario) (heard : List Heard) → Contains (signed_in (keys_of s) 0 (own_order s 0) heard 1) (made (keys_of s) s.order (0 ∷ []))
commanders_gives s heard = Contains_here (made (keys_of s) s.order (0 ∷ [])) []

commanders_few : (s : Scenario) (heard : List Heard) (l : ℕ) → length (signed_in (keys_of s) 0 (own_order s 0) heard (suc l)) ≤ 1
commanders_few s heard l = elim (bool_cases (eqb (suc l) 1)) [
  | inl now ↦ rw now (omega arith)
  | inr out ↦ rw out (omega arith)
]

commanders_good : (s : Scenario) → IsScenario s → IsGood s (made (keys_of s) s.order (0 ∷ []))
commanders_good s ok = made_good s ok s.order [] ok.order_known (record { known = λ h k. absurd (Contains_nil h k); distinct = λ i j d l m. absurd (omega arith); new = λ h k old. absurd (Contains_nil h k) })

commanders_signed : (s : Scenario) → IsScenario s → (l : ℕ) → EachHasSigned s 0 l (signs_of s 0 l)
commanders_signed s ok l = record {
  few = omega (arith, commanders_few s (heard_by s l 0) l, ok.network.ranges.some_orders);
  good = λ k h. subst (IsGood s) (sym (commanders_has s (heard_by s l 0) l k h).1) (commanders_good s ok);
  long = λ k h.
      let p = commanders_has s (heard_by s l 0) l k h in
      let path : signed_path k.signers ≡ 0 ∷ [] = ap (λ (c : Chain). signed_path c.signers) p.1 ∙ made_path (keys_of s) s.order (0 ∷ []) in
      omega (arith, ap length path, p.0);
  last = λ k h. ([], ap (λ (c : Chain). signed_path c.signers) (commanders_has s (heard_by s l 0) l k h).1 ∙ made_path (keys_of s) s.order (0 ∷ []));
  once = λ a b ha hb e. (commanders_has s (heard_by s l 0) l a ha).1 ∙ sym (commanders_has s (heard_by s l 0) l b hb).1;
}

pub are_signed : (s : Scenario) → IsScenario s → (g l : ℕ) → g < s.net.generals → EachHasSigned s g l (signs_of s g l)
are_signed s ok g l known = elim (bools.cases_eq g 0) [
  | inl e ↦ subst (λ x. EachHasSigned s x l (signs_of s x l)) (sym e) (commanders_signed s ok l)
  | inr ne ↦ lieutenants_signed s ok g l ne known
]

-- ---- his frames

filter_few : (p : Chain → Bool) (ks : List Chain) → length (filter p ks) ≤ length ks
filter_few p [] = omega arith
filter_few p (k ∷ ks) = elim (bool_cases (p k)) [
  | inl here ↦ rw here (omega (arith, filter_few p ks))
  | inr out ↦ rw out (omega (arith, filter_few p ks))
]

pub followers : (s : Scenario) (g : ℕ) (heard : List Heard) (round to : ℕ) → script_of s.scripts g ≡ None → frame_of (sender_of s g) heard round to ≡ followers_frame (sender_of s g) heard round to
unfolding frame_of
followers s g heard round to none = rw none refl

-- what counts of his frame is what he signs and the receiver isn't in
pub follower_counts_has : (s : Scenario) → IsScenario s → (g l to : ℕ) (c : Chain) → script_of s.scripts g ≡ None → g < s.net.generals → CountsAfter s l g to c → Contains (signs_of s g l) c
unfolding followers_frame
follower_counts_has s ok g l to c none known h =
    let r = counted_has (header_of s) (delivery (suc l) g to) (frame_of (sender_of s g) (heard_by s l g) (suc l) to) c h in
    let there : Contains (followers_frame (sender_of s g) (heard_by s l g) (suc l) to) r.parcel = subst (λ (f : List (List ℕ)). Contains f r.parcel) (followers s g (heard_by s l g) (suc l) to none) r.stands in
    let k = Contains_mapped chain_spelling (outside_of to (signs_of s g l)) r.parcel there in
    let kept = Contains_filtered (λ (c : Chain). not (is_among (signed_path c.signers) to)) (signs_of s g l) k.0 k.1 in
    let good = (are_signed s ok g l known).good k.0 kept.0 in
    subst (λ x. Contains (signs_of s g l) x) (one_chain (height_of (header_of s)) k.0 c good.is_chain r.carried.is_chain (k.2 ∙ r.carried.spelled)) kept.0

pub follower_counts_gives : (s : Scenario) → IsScenario s → (g l to : ℕ) (c : Chain) → script_of s.scripts g ≡ None → g < s.net.generals → Contains (signs_of s g l) c → (Contains (signed_path c.signers) to → ⊥) → CountsAfter s l g to c
unfolding followers_frame
follower_counts_gives s ok g l to c none known h out =
    let ks = signs_of s g l in
    let all = are_signed s ok g l known in
    let frame-is = followers s g (heard_by s l g) (suc l) to none in
    let passes = not_among (signed_path c.signers) to out in
    let here : Contains (outside_of to ks) c = in_filtered (λ (k : Chain). not (is_among (signed_path k.signers) to)) ks c h passes in
    let parcel : Contains (map chain_spelling (outside_of to ks)) (chain_spelling c) = in_mapped chain_spelling (outside_of to ks) c here in
    let carried : Carries (header_of s) (delivery (suc l) g to) (chain_spelling c) c = record {
      spelled = refl;
      is_chain = (all.good c h).is_chain;
      may_count = record { verifies = (all.good c h).verifies; in_time = all.long c h; from_sender = all.last c h; outside = out };
    } in
    let counts : Contains (counted_of (header_of s) (delivery (suc l) g to) (map chain_spelling (outside_of to ks))) c =
    counted_gives (header_of s) (delivery (suc l) g to) (map chain_spelling (outside_of to ks))
    (omega (arith, length-map (outside_of to ks) chain_spelling, filter_few (λ (k : Chain). not (is_among (signed_path k.signers) to)) ks, all.few))
    (λ p q a b hp hq ca cb e.
    let ka = Contains_mapped chain_spelling (outside_of to ks) p hp in
    let kb = Contains_mapped chain_spelling (outside_of to ks) q hq in
    let ma = (Contains_filtered (λ (k : Chain). not (is_among (signed_path k.signers) to)) ks ka.0 ka.1).0 in
    let mb = (Contains_filtered (λ (k : Chain). not (is_among (signed_path k.signers) to)) ks kb.0 kb.1).0 in
    let ea : ka.0 ≡ a = one_chain (height_of (header_of s)) ka.0 a (all.good ka.0 ma).is_chain ca.is_chain (ka.2 ∙ ca.spelled) in
    let eb : kb.0 ≡ b = one_chain (height_of (header_of s)) kb.0 b (all.good kb.0 mb).is_chain cb.is_chain (kb.2 ∙ cb.spelled) in
    sym ea ∙ all.once ka.0 kb.0 ma mb (ap (λ (k : Chain). k.order) ea ∙ e ∙ ap (λ (k : Chain). k.order) (sym eb)) ∙ eb)
    c (record { parcel = chain_spelling c; stands = parcel; carried = carried }) in
    subst (λ (f : List (List ℕ)). Contains (counted_of (header_of s) (delivery (suc l) g to) f) c) (sym frame-is) counts
