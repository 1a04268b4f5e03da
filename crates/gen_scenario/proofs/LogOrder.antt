-- The entries of every log stand in order.
use Rattle.std.proofs.Common.{◌≡◌, ◌<◌, inl, inr, ℕ, zero, suc, ◌+◌, true, not, List, [], ◌∷◌, ◌++◌, map, Contains, AllPairs, refl, sym, ap, subst, ◌∙◌, arith, length, None}
use Rattle.std.specs.List.{range_with_len, list_any}
use Rattle.std.proofs.lemmas.List.Kept.{AllPairs-cons, AllPairs-filter}
use Rattle.std.proofs.lemmas.List.Elements.{Contains-append_cases}
use Rattle.gen_types.specs.Members.{range_ascending}
use Rattle.gen_types.proofs.Lists.{Contains_cases, Contains_nil, Contains_mapped, Contains_flat_mapped, Contains_filtered, Contains_range, AllPairs-append, All_of}
use Rattle.gen_net.specs.Network.{Network, rounds}
use Rattle.gen_net.specs.Log.{place, Precedes, IsInOrder}
use Rattle.gen_log.specs.declared.entries.Entry.{Entry}
use Rattle.gen_log.specs.declared.entries.Entry.TheVariants.{Start, Recv}
use Rattle.gen_chain.specs.Chain.{Chain, signed_path}
use Rattle.gen_scenario.proofs.HeardBy.{CountsAfter, counted_facts, neighbours_ascend}
use Rattle.gen_scenario.specs.declared.heard.Heard.{Heard}
use Rattle.gen_scenario.specs.Scenario.{IsScenario, Scenario, header_of, script_of}
use Rattle.gen_scenario.proofs.Sorting.{in_order_has, in_order_up, pairs_flat, pairs_map, pairs_with, sorted_has, sorted_up}
use Rattle.gen_scenario.specs.Counted.{counted_of}
use Rattle.gen_scenario.specs.SignedWorld.{delivery, heard_by, neighbours_of, own_order, sender_of}
use Rattle.gen_scenario.specs.WorldLogs.{entries_over, decide_entry}
use Rattle.gen_log.specs.Entry.{erase}
use Rattle.gen_scenario.specs.Frames.{frame_of, outside_of}
use Rattle.gen_scenario.specs.RoundEntries.{hides, in_order, recv_of, send_of, sign_of, sorted_by}
use Rattle.gen_types.specs.Ends.{is_among}
use Rattle.gen_scenario.proofs.SaidChains.{sends_facts, signs_facts}
use Rattle.gen_scenario.proofs.LogParts.{signs_in, sends_in, kept_from, signs_after, sends_after, recvs_after, entries_in, middle_in}
use Rattle.gen_scenario.proofs.ScriptsOf.{lines_of}
use Rattle.gen_scenario.proofs.FollowerFrames.{signs_of}
use Rattle.gen_scenario.proofs.FirstChains.{counted_apart}

abbrev pub Before : Network → Entry → Entry → Type 0
Before net e f = Precedes (place net (erase e)) (place net (erase f))

-- what stands first is less
pub less_first : (x y : List ℕ) (a b : ℕ) (p q : List ℕ) → x ≡ a ∷ p → y ≡ b ∷ q → a < b → Precedes x y
less_first x y a b p q ex ey less = rw (ex, ey) (inl less)

pub less_second : (x y : List ℕ) (a b k m : ℕ) (p q : List ℕ) → x ≡ a ∷ k ∷ p → y ≡ b ∷ m ∷ q → a ≡ b → k < m → Precedes x y
less_second x y a b k m p q ex ey same less = rw (ex, ey) (inr (same, inl less))

-- ---- who has no script

pub signs_loyal : (s : Scenario) (g j : ℕ) → script_of s.scripts g ≡ None → signs_in s g j ≡ signs_of s g j
unfolding signs_in
signs_loyal s g j none = rw none refl

pub sends_loyal : (s : Scenario) (g j to : ℕ) → script_of s.scripts g ≡ None → sends_in s g j to ≡ outside_of to (signs_of s g j)
unfolding sends_in
sends_loyal s g j to none = rw none refl

-- ---- the entries of a round

pub sign_has : (s : Scenario) (g j : ℕ) (e : Entry) → script_of s.scripts g ≡ None → Contains (signs_after s g j) e → (c : Chain) × Contains (signs_of s g j) c × (sign_of c ≡ e)
unfolding signs_after
sign_has s g j e none h =
    let k = Contains_mapped sign_of (in_order s.net.orders (signs_in s g j)) e h in
    (k.0, subst (λ (cs : List Chain). Contains cs k.0) (signs_loyal s g j none) (in_order_has s.net.orders (signs_in s g j) k.0 k.1), k.2)

-- the chain goes to a neighbour
pub record IsSend (s : Scenario) (g j : ℕ) (e : Entry) : Type 0 where
  pub to : ℕ
  pub near : Contains (neighbours_of s.net g) to
  pub chain : Chain
  pub signed : Contains (signs_of s g j) chain
  pub outside : not (is_among (signed_path chain.signers) to) ≡ true
  pub is : send_of to chain ≡ e

sent_chain : (s : Scenario) (g j to : ℕ) (c : Chain) → script_of s.scripts g ≡ None → Contains (in_order s.net.orders (sends_in s g j to)) c → Contains (signs_of s g j) c × (not (is_among (signed_path c.signers) to) ≡ true)
sent_chain s g j to c none h =
    let there : Contains (outside_of to (signs_of s g j)) c = subst (λ (cs : List Chain). Contains cs c) (sends_loyal s g j to none) (in_order_has s.net.orders (sends_in s g j to) c h) in
    Contains_filtered (λ (k : Chain). not (is_among (signed_path k.signers) to)) (signs_of s g j) c there

pub send_has : (s : Scenario) (g j : ℕ) (e : Entry) → script_of s.scripts g ≡ None → Contains (sends_after s g j) e → IsSend s g j e
unfolding sends_after
send_has s g j e none h =
    let t = Contains_flat_mapped (λ to. map (send_of to) (in_order s.net.orders (sends_in s g j to))) (neighbours_of s.net g) e h in
    let k = Contains_mapped (send_of t.0) (in_order s.net.orders (sends_in s g j t.0)) e t.2 in
    let c = sent_chain s g j t.0 k.0 none k.1 in
    record { to = t.0; near = t.1; chain = k.0; signed = c.0; outside = c.1; is = k.2 }

pub kept_has : (s : Scenario) (g j from : ℕ) (c : Chain) → Contains (kept_from s g j from) c → CountsAfter s j from g c × (c.order < s.net.orders)
unfolding kept_from
kept_has s g j from c h =
    let counted : List Chain = counted_of (header_of s) (delivery (suc j) from g) (frame_of (sender_of s from) (heard_by s j from) (suc j) g) in
    let k = Contains_filtered (λ (x : Chain). not (list_any (hides (suc j) from x.order) (lines_of s.scripts g))) (sorted_by (λ (x : Chain). x.order) s.net.orders counted) c h in
    sorted_has (λ (x : Chain). x.order) s.net.orders counted c k.0

-- it came from a neighbour
pub record IsRecv (s : Scenario) (g j : ℕ) (e : Entry) : Type 0 where
  pub x : Heard
  pub near : Contains (neighbours_of s.net g) x.from
  pub counts : CountsAfter s j x.from g x.chain
  pub is : recv_of x ≡ e

pub recv_has : (s : Scenario) (g j : ℕ) (e : Entry) → Contains (recvs_after s g j) e → IsRecv s g j e
unfolding recvs_after
recv_has s g j e h =
    let f = Contains_flat_mapped (λ from. map (Recv from) (kept_from s g j from)) (neighbours_of s.net g) e h in
    let k = Contains_mapped (Recv f.0) (kept_from s g j f.0) e f.2 in
    record { x = record { from = f.0; chain = k.0 }; near = f.1; counts = (kept_has s g j f.0 k.0 k.1).0; is = k.2 }

decision_place : (s : Scenario) (g : ℕ) (entries : List Entry) → place s.net (erase (decide_entry s.net (own_order s g) entries)) ≡ (rounds s.net + 1) ∷ []
decision_place s zero entries = refl
decision_place s (suc g) entries = refl

-- ---- their places

-- the place begins with the round and the kind
abbrev pub StandsAt : Network → ℕ → ℕ → Entry → Type 0
StandsAt net round kind e = (rest : List ℕ) × (place net (erase e) ≡ round ∷ kind ∷ rest)

module _ (s : Scenario) (ok : IsScenario s) (g : ℕ) (known : g < s.net.generals) where
  pub sign_at : (j : ℕ) (e : Entry) → Contains (signs_after s g j) e → StandsAt s.net (suc j) 0 e
  unfolding signs_after
  sign_at j e h =
      let k = Contains_mapped sign_of (in_order s.net.orders (signs_in s g j)) e h in
      let long = (signs_facts s ok g j known k.0 (in_order_has s.net.orders (signs_in s g j) k.0 k.1)).long in
      subst (StandsAt s.net (suc j) 0) k.2 (k.0.order ∷ [], ap (λ n. n ∷ 0 ∷ k.0.order ∷ []) long)

  send_at : (j : ℕ) (e : Entry) → Contains (sends_after s g j) e → StandsAt s.net (suc j) 1 e
  unfolding sends_after
  send_at j e h =
      let t = Contains_flat_mapped (λ to. map (send_of to) (in_order s.net.orders (sends_in s g j to))) (neighbours_of s.net g) e h in
      let k = Contains_mapped (send_of t.0) (in_order s.net.orders (sends_in s g j t.0)) e t.2 in
      let long = (sends_facts s ok g j t.0 known k.0 (in_order_has s.net.orders (sends_in s g j t.0) k.0 k.1)).long in
      subst (StandsAt s.net (suc j) 1) k.2 (t.0 ∷ k.0.order ∷ [], ap (λ n. n ∷ 1 ∷ t.0 ∷ k.0.order ∷ []) long)

  recv_at : (j : ℕ) (e : Entry) → Contains (recvs_after s g j) e → StandsAt s.net (suc j) 2 e
  recv_at j e h =
      let k = recv_has s g j e h in
      let long = (counted_facts s j k.x.from g k.x.chain k.counts).long in
      subst (StandsAt s.net (suc j) 2) k.is (k.x.from ∷ k.x.chain.order ∷ [], ap (λ n. n ∷ 2 ∷ k.x.from ∷ k.x.chain.order ∷ []) long)

  -- the round of an entry
  pub round_at : (j : ℕ) (e : Entry) → Contains (entries_in s g j) e → (rest : List ℕ) × (place s.net (erase e) ≡ suc j ∷ rest)
  round_at j e h = elim (Contains-append_cases (signs_after s g j) (sends_after s g j ++ recvs_after s g j) e h) [
    | inl sign ↦ let p = sign_at j e sign in (0 ∷ p.0, p.1)
    | inr other ↦ elim (Contains-append_cases (sends_after s g j) (recvs_after s g j) e other) [
      | inl send ↦ let p = send_at j e send in (1 ∷ p.0, p.1)
      | inr recv ↦ let p = recv_at j e recv in (2 ∷ p.0, p.1)
    ]
  ]

  signs_up : (j : ℕ) → AllPairs (Before s.net) (signs_after s g j)
  unfolding signs_after
  signs_up j = pairs_map (Before s.net) sign_of (in_order s.net.orders (signs_in s g j))
      (pairs_with (λ a b. a.order < b.order) (λ a b. Before s.net (sign_of a) (sign_of b)) (in_order s.net.orders (signs_in s g j)) (in_order_up s.net.orders (signs_in s g j)) (λ a b ha hb less.
      let la = (signs_facts s ok g j known a (in_order_has s.net.orders (signs_in s g j) a ha)).long in
      let lb = (signs_facts s ok g j known b (in_order_has s.net.orders (signs_in s g j) b hb)).long in
      inr (la ∙ sym lb, inr (refl, inl less))))

  sends_to_up : (j to : ℕ) → AllPairs (Before s.net) (map (send_of to) (in_order s.net.orders (sends_in s g j to)))
  sends_to_up j to = pairs_map (Before s.net) (send_of to) (in_order s.net.orders (sends_in s g j to))
      (pairs_with (λ a b. a.order < b.order) (λ a b. Before s.net (send_of to a) (send_of to b)) (in_order s.net.orders (sends_in s g j to)) (in_order_up s.net.orders (sends_in s g j to)) (λ a b ha hb less.
      let la = (sends_facts s ok g j to known a (in_order_has s.net.orders (sends_in s g j to) a ha)).long in
      let lb = (sends_facts s ok g j to known b (in_order_has s.net.orders (sends_in s g j to) b hb)).long in
      inr (la ∙ sym lb, inr (refl, inr (refl, inl less)))))

  sends_up : (j : ℕ) → AllPairs (Before s.net) (sends_after s g j)
  unfolding sends_after
  sends_up j = pairs_flat (λ v w. v < w) (Before s.net) (λ to. map (send_of to) (in_order s.net.orders (sends_in s g j to))) (neighbours_of s.net g) (neighbours_ascend s.net g)
      (λ to h. sends_to_up j to)
      (λ t u e f less he hf.
      let a = Contains_mapped (send_of t) (in_order s.net.orders (sends_in s g j t)) e he in
      let b = Contains_mapped (send_of u) (in_order s.net.orders (sends_in s g j u)) f hf in
      let la = (sends_facts s ok g j t known a.0 (in_order_has s.net.orders (sends_in s g j t) a.0 a.1)).long in
      let lb = (sends_facts s ok g j u known b.0 (in_order_has s.net.orders (sends_in s g j u) b.0 b.1)).long in
      let made : Before s.net (send_of t a.0) (send_of u b.0) = inr (la ∙ sym lb, inr (refl, inl less)) in
      subst (λ x. Before s.net x f) a.2 (subst (λ y. Before s.net (send_of t a.0) y) b.2 made))

  pub kept_up : (j from : ℕ) → AllPairs (λ x y. x.order < y.order) (kept_from s g j from)
  unfolding kept_from
  kept_up j from =
      let counted : List Chain = counted_of (header_of s) (delivery (suc j) from g) (frame_of (sender_of s from) (heard_by s j from) (suc j) g) in
      AllPairs-filter (λ (x y : Chain). x.order < y.order) (λ (x : Chain). not (list_any (hides (suc j) from x.order) (lines_of s.scripts g))) (sorted_by (λ (x : Chain). x.order) s.net.orders counted)
      (sorted_up (λ (x : Chain). x.order) s.net.orders counted (counted_apart (header_of s) (delivery (suc j) from g) (frame_of (sender_of s from) (heard_by s j from) (suc j) g)))

  kept_long : (j from : ℕ) (c : Chain) → Contains (kept_from s g j from) c → length (signed_path c.signers) ≡ suc j
  kept_long j from c h = (counted_facts s j from g c (kept_has s g j from c h).0).long

  recvs_up : (j : ℕ) → AllPairs (Before s.net) (recvs_after s g j)
  unfolding recvs_after
  recvs_up j = pairs_flat (λ v w. v < w) (Before s.net) (λ from. map (Recv from) (kept_from s g j from)) (neighbours_of s.net g) (neighbours_ascend s.net g)
      (λ from h. pairs_map (Before s.net) (Recv from) (kept_from s g j from) (pairs_with (λ x y. x.order < y.order) (λ x y. Before s.net (Recv from x) (Recv from y)) (kept_from s g j from) (kept_up j from) (λ x y hx hy less.
      inr (kept_long j from x hx ∙ sym (kept_long j from y hy), inr (refl, inr (refl, inl less))))))
      (λ t u e f less he hf.
      let a = Contains_mapped (Recv t) (kept_from s g j t) e he in
      let b = Contains_mapped (Recv u) (kept_from s g j u) f hf in
      let made : Before s.net (Recv t a.0) (Recv u b.0) = inr (kept_long j t a.0 a.1 ∙ sym (kept_long j u b.0 b.1), inr (refl, inl less)) in
      subst (λ x. Before s.net x f) a.2 (subst (λ y. Before s.net (Recv t a.0) y) b.2 made))

  round_up : (j : ℕ) → AllPairs (Before s.net) (entries_in s g j)
  round_up j = AllPairs-append (Before s.net) (signs_after s g j) (sends_after s g j ++ recvs_after s g j) (signs_up j)
      (AllPairs-append (Before s.net) (sends_after s g j) (recvs_after s g j) (sends_up j) (recvs_up j) (λ e f he hf.
      let p = send_at j e he in
      let q = recv_at j f hf in
      less_second (place s.net (erase e)) (place s.net (erase f)) (suc j) (suc j) 1 2 p.0 q.0 p.1 q.1 refl (omega arith)))
      (λ e f he hf.
      let p = sign_at j e he in
      elim (Contains-append_cases (sends_after s g j) (recvs_after s g j) f hf) [
        | inl send ↦ let q = send_at j f send in less_second (place s.net (erase e)) (place s.net (erase f)) (suc j) (suc j) 0 1 p.0 q.0 p.1 q.1 refl (omega arith)
        | inr recv ↦ let q = recv_at j f recv in less_second (place s.net (erase e)) (place s.net (erase f)) (suc j) (suc j) 0 2 p.0 q.0 p.1 q.1 refl (omega arith)
      ])

  middle_up : AllPairs (Before s.net) (middle_in s g)
  unfolding middle_in
  middle_up = pairs_flat (λ v w. v < w) (Before s.net) (entries_in s g) (range_with_len 0 (rounds s.net)) (range_ascending 0 (rounds s.net))
      (λ j h. round_up j)
      (λ i j e f less he hf.
      let p = round_at i e he in
      let q = round_at j f hf in
      less_first (place s.net (erase e)) (place s.net (erase f)) (suc i) (suc j) p.0 q.0 p.1 q.1 (omega (arith, less)))

  -- the round of an entry of the middle
  middle_at : (e : Entry) → Contains (middle_in s g) e → (j : ℕ) × (j < rounds s.net) × ((rest : List ℕ) × (place s.net (erase e) ≡ suc j ∷ rest))
  unfolding middle_in
  middle_at e h =
      let r = Contains_flat_mapped (entries_in s g) (range_with_len 0 (rounds s.net)) e h in
      (r.0, omega (arith, (Contains_range 0 (rounds s.net) r.0 r.1).1), round_at r.0 e r.2)

  -- a log of some of these entries, in order
  pub entries_up : (mid : List Entry) → AllPairs (Before s.net) mid → ((e : Entry) → Contains mid e → Contains (middle_in s g) e) → AllPairs (Before s.net) (entries_over (sender_of s g) mid)
  entries_up mid up inside =
      let last = decide_entry s.net (own_order s g) mid in
      let ends = decision_place s g mid in
      let tail : AllPairs (Before s.net) (mid ++ last ∷ []) = AllPairs-append (Before s.net) mid (last ∷ []) up (λ i j d l m. absurd (omega arith)) (λ e f he hf.
      let p = middle_at e (inside e he) in
      let at : place s.net (erase f) ≡ (rounds s.net + 1) ∷ [] = elim (Contains_cases last f [] hf) [ inl same ↦ ap (λ (x : Entry). place s.net (erase x)) (sym same) ∙ ends | inr none ↦ absurd (Contains_nil f none) ] in
      less_first (place s.net (erase e)) (place s.net (erase f)) (suc p.0) (rounds s.net + 1) p.2.0 [] p.2.1 at (omega (arith, p.1))) in
      AllPairs-cons (Before s.net) (Start g (own_order s g)) (mid ++ last ∷ []) (All_of (Before s.net (Start g (own_order s g))) (mid ++ last ∷ []) (λ f hf. elim (Contains-append_cases mid (last ∷ []) f hf) [
        | inl early ↦ let p = middle_at f (inside f early) in less_first (0 ∷ []) (place s.net (erase f)) 0 (suc p.0) [] p.2.0 refl p.2.1 (omega arith)
        | inr end ↦
            let at : place s.net (erase f) ≡ (rounds s.net + 1) ∷ [] = elim (Contains_cases last f [] end) [ inl same ↦ ap (λ (x : Entry). place s.net (erase x)) (sym same) ∙ ends | inr none ↦ absurd (Contains_nil f none) ] in
            less_first (0 ∷ []) (place s.net (erase f)) 0 (rounds s.net + 1) [] [] refl at (omega arith)
      ])) tail

pub middle_in_order : (s : Scenario) → IsScenario s → (g : ℕ) → g < s.net.generals → AllPairs (Before s.net) (middle_in s g)
middle_in_order s ok g known = middle_up s ok g known

pub entries_in_order : (s : Scenario) → IsScenario s → (g : ℕ) → g < s.net.generals → (mid : List Entry) → AllPairs (Before s.net) mid → ((e : Entry) → Contains mid e → Contains (middle_in s g) e) → IsInOrder s.net (map erase (entries_over (sender_of s g) mid))
entries_in_order s ok g known mid up inside = pairs_map (λ e f. Precedes (place s.net e) (place s.net f)) erase (entries_over (sender_of s g) mid) (entries_up s ok g known mid up inside)
