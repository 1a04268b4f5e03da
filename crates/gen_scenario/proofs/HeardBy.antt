-- What a general heard, round by round, and the messages of the run.
use Rattle.std.proofs.Common.{◌≡◌, ◌≢◌, ◌<◌, inl, inr, ℕ, zero, suc, List, [], ◌∷◌, ◌++◌, map, length, Contains, All, AllPairs, refl, sym, ap, subst, ◌∙◌, arith}
use Rattle.std.specs.List.{range_with_len, list_any}
use Rattle.std.proofs.lemmas.Bool.{eqb-true, eq-eqb}
use Rattle.std.proofs.lemmas.Bool as bools
use Rattle.std.proofs.lemmas.List.Elements.{Contains-append_left, Contains-append_right, Contains-append_cases}
use Rattle.gen_types.specs.Members.{filter_range_has, filter_range_gives, filter_range_ascending}
use Rattle.gen_types.proofs.Lists.{Contains_nil, Contains_mapped, Contains_flat_mapped, Contains_range, Contains_in_range, All_of, split}
use Rattle.gen_net.specs.Network.{Network, IsNetwork, rounds, AreNeighbours}
use Rattle.gen_net.specs.declared.message.Message.{Message}
use Rattle.gen_net.specs.Run.{IsWellFormed, IsRun}
use Rattle.gen_net.proofs.Neighbours.{joined_below}
use Rattle.gen_chain.specs.Verifying.{EachHasSigned, ChainVerifies}
use Rattle.gen_chain.specs.Chain.{Chain, IsSignedChain, signed_path}
use Rattle.gen_types.specs.Ends.{EndsWith}
use Rattle.gen_scenario.specs.declared.heard.Heard.{Heard}
use Rattle.gen_net.specs.Header.{RunHeader, height_of}
use Rattle.gen_scenario.specs.Scenario.{Scenario, header_of}
use Rattle.gen_chain.specs.declared.chains.Signer.{Signer}
use Rattle.gen_scenario.proofs.Having.{in_flat, in_mapped}
use Rattle.gen_scenario.proofs.CountedChains.{counted_has, counted_once}
use Rattle.gen_scenario.specs.Counted.{counted_of}
use Rattle.gen_scenario.specs.SignedWorld.{delivery, heard_by, heard_in, heard_of, message_to, messages_of, neighbours_of, sender_of}
use Rattle.gen_scenario.specs.Frames.{frame_of}
use Rattle.gen_net.specs.Edges.{joins}
use Rattle.gen_script.proofs.Joining.{joined_found, joined_again}

-- ---- neighbours

pub turned : (net : Network) (a b : ℕ) → AreNeighbours net a b → AreNeighbours net b a
turned net a b near = elim near [ inl h ↦ inr h | inr h ↦ inl h ]

pub near_has : (net : Network) (g h : ℕ) → Contains (neighbours_of net g) h → AreNeighbours net g h
near_has net g h k = joined_found g h net.edges (filter_range_has (λ x. list_any (joins g x) net.edges) 0 net.generals h k).2

pub near_gives : (net : Network) → IsNetwork net → (g h : ℕ) → AreNeighbours net g h → Contains (neighbours_of net g) h
near_gives net ok g h near = filter_range_gives (λ x. list_any (joins g x) net.edges) 0 net.generals h (omega arith) (omega (arith, joined_below net ok g h near)) (joined_again g h net.edges near)

pub neighbours_ascend : (net : Network) (g : ℕ) → AllPairs (λ v w. v < w) (neighbours_of net g)
neighbours_ascend net g = filter_range_ascending (λ x. list_any (joins g x) net.edges) 0 net.generals

-- ---- rounds

-- the chain counts at the receiver of the frame of the round after the first j
abbrev pub CountsAfter : Scenario → ℕ → ℕ → ℕ → Chain → Type 0
CountsAfter s j from to c = Contains (counted_of (header_of s) (delivery (suc j) from to) (frame_of (sender_of s from) (heard_by s j from) (suc j) to)) c

pub record HeardAfter (s : Scenario) (j g : ℕ) (x : Heard) : Type 0 where
  pub near : Contains (neighbours_of s.net g) x.from
  pub counts : CountsAfter s j x.from g x.chain

pub in_has : (s : Scenario) (j g : ℕ) (x : Heard) → Contains (heard_in s (heard_by s j) (suc j) g) x → HeardAfter s j g x
unfolding heard_in
in_has s j g x k =
    let r = Contains_flat_mapped (heard_of s (heard_by s j) (suc j) g) (neighbours_of s.net g) x k in
    let f = r.0 in
    let c = Contains_mapped (λ (c : Chain). record { from = f; chain = c }) (counted_of (header_of s) (delivery (suc j) f g) (frame_of (sender_of s f) (heard_by s j f) (suc j) g)) x r.2 in
    let made : Heard = record { from = f; chain = c.0 } in
    let there : HeardAfter s j g made = record { near = r.1; counts = c.1 } in
    subst (HeardAfter s j g) c.2 there

in_gives : (s : Scenario) (j g : ℕ) (x : Heard) → HeardAfter s j g x → Contains (heard_in s (heard_by s j) (suc j) g) x
unfolding heard_in
in_gives s j g x k =
    in_flat (heard_of s (heard_by s j) (suc j) g) (neighbours_of s.net g) x.from x k.near
    (in_mapped (λ (c : Chain). record { from = x.from; chain = c }) (counted_of (header_of s) (delivery (suc j) x.from g) (frame_of (sender_of s x.from) (heard_by s j x.from) (suc j) g)) x.chain k.counts)

pub by_has : (s : Scenario) (k g : ℕ) (x : Heard) → Contains (heard_by s k g) x → (j : ℕ) × (j < k) × HeardAfter s j g x
unfolding heard_by
by_has s zero g x h = absurd (Contains_nil x h)
by_has s (suc k) g x h = elim (Contains-append_cases (heard_by s k g) (heard_in s (heard_by s k) (suc k) g) x h) [
  | inl old ↦ let r = by_has s k g x old in (r.0, omega (arith, r.1), r.2)
  | inr new ↦ (k, omega arith, in_has s k g x new)
]

pub by_gives : (s : Scenario) (k j g : ℕ) (x : Heard) → j < k → HeardAfter s j g x → Contains (heard_by s k g) x
unfolding heard_by
by_gives s zero j g x low h = absurd (omega arith)
by_gives s (suc k) j g x low h = elim (bools.cases_eq j k) [
  | inl e ↦ Contains-append_right (heard_by s k g) (heard_in s (heard_by s k) (suc k) g) x (in_gives s k g x (subst (λ i. HeardAfter s i g x) e h))
  | inr ne ↦ Contains-append_left (heard_by s k g) (heard_in s (heard_by s k) (suc k) g) x (by_gives s k j g x (omega arith) h)
]

-- what is known of a chain that counts
pub record CountedFacts (s : Scenario) (j from to : ℕ) (c : Chain) : Type 0 where
  pub is_chain : IsSignedChain (height_of (header_of s)) c
  pub verifies : ChainVerifies (header_of s) c
  pub long : length (signed_path c.signers) ≡ suc j
  pub last : EndsWith (signed_path c.signers) from
  pub outside : Contains (signed_path c.signers) to → ⊥

pub counted_facts : (s : Scenario) (j from to : ℕ) (c : Chain) → CountsAfter s j from to c → CountedFacts s j from to c
counted_facts s j from to c h =
    let r = (counted_has (header_of s) (delivery (suc j) from to) (frame_of (sender_of s from) (heard_by s j from) (suc j) to) c h).carried in
    record { is_chain = r.is_chain; verifies = r.may_count.verifies; long = r.may_count.in_time; last = r.may_count.from_sender; outside = r.may_count.outside }

-- ---- the messages

-- the message is one that counts
pub record Said (s : Scenario) (m : Message) : Type 0 where
  pub before : ℕ
  pub in_time : before < rounds s.net
  pub to_known : m.to < s.net.generals
  pub chain : Chain
  pub near : Contains (neighbours_of s.net m.to) m.from
  pub counts : CountsAfter s before m.from m.to chain
  pub order_is : chain.order ≡ m.order
  pub path_is : signed_path chain.signers ≡ m.path

pub said_of : (s : Scenario) (m : Message) → Contains (messages_of s) m → Said s m
unfolding messages_of
said_of s m h =
    let r = Contains_flat_mapped (λ g. map (message_to g) (heard_by s (rounds s.net) g)) (range_with_len 0 s.net.generals) m h in
    let g = r.0 in
    let x = Contains_mapped (message_to g) (heard_by s (rounds s.net) g) m r.2 in
    let b = by_has s (rounds s.net) g x.0 x.1 in
    let made : Said s (message_to g x.0) = record { before = b.0; in_time = b.1; to_known = omega (arith, (Contains_range 0 s.net.generals g r.1).1); chain = x.0.chain; near = b.2.near; counts = b.2.counts; order_is = refl; path_is = refl } in
    subst (Said s) x.2 made

pub heard_said : (s : Scenario) (g : ℕ) (x : Heard) → g < s.net.generals → Contains (heard_by s (rounds s.net) g) x → Contains (messages_of s) (message_to g x)
unfolding messages_of
heard_said s g x low h = in_flat (λ g. map (message_to g) (heard_by s (rounds s.net) g)) (range_with_len 0 s.net.generals) g (message_to g x) (Contains_in_range 0 s.net.generals g (omega arith) (omega arith)) (in_mapped (message_to g) (heard_by s (rounds s.net) g) x h)

pub of_said : (s : Scenario) (m : Message) → Said s m → Contains (messages_of s) m
of_said s m said =
    let x : Heard = record { from = m.from; chain = said.chain } in
    let h : Contains (heard_by s (rounds s.net) m.to) x = by_gives s (rounds s.net) said.before m.to x said.in_time (record { near = said.near; counts = said.counts }) in
    let same : message_to m.to x ≡ m = (λ i. record { from = m.from; to = m.to; order = said.order_is i; path = said.path_is i }) in
    subst (λ t. Contains (messages_of s) t) same (heard_said s m.to x said.to_known h)

pub round_is : (s : Scenario) (m : Message) (said : Said s m) → length m.path ≡ suc said.before
round_is s m said = ap length (sym said.path_is) ∙ (counted_facts s said.before m.from m.to said.chain said.counts).long

-- ---- they are a run

pub signers_below : (h : RunHeader) (order : ℕ) (signers : List Signer) → EachHasSigned h order signers → (g : ℕ) → Contains (signed_path signers) g → g < h.network.generals
signers_below h order signers all g k =
    let r = Contains_mapped (λ (t : Signer). t.general) signers g k in
    let p = split signers r.0 r.1 in
    subst (λ x. x < h.network.generals) r.2 (all p.0 p.1 r.0 p.2).0

well_formed : (s : Scenario) (m : Message) → Said s m → IsWellFormed s.net m
well_formed s m said =
    let f = counted_facts s said.before m.from m.to said.chain said.counts in
    record {
      on_edge = turned s.net m.to m.from (near_has s.net m.to m.from said.near);
      chain = record {
        order_known = subst (λ v. v < s.net.orders) said.order_is f.verifies.0;
        generals_known = subst (All (λ g. g < s.net.generals)) said.path_is (All_of (λ g. g < s.net.generals) (signed_path said.chain.signers) (signers_below (header_of s) said.chain.order said.chain.signers f.verifies.1));
        distinct = subst (AllPairs (λ g h. g ≢ h)) said.path_is f.is_chain.distinct;
        from_commander = subst (λ p. (rest : List ℕ) × (p ≡ (0 ∷ []) ++ rest)) said.path_is f.is_chain.from_commander;
      };
      in_time = omega (arith, round_is s m said, said.in_time);
      signer = subst (λ p. EndsWith p m.from) said.path_is f.last;
      outside = λ h. f.outside (subst (λ p. Contains p m.to) (sym said.path_is) h);
    }

same_chain : (s : Scenario) (j k from to from2 to2 : ℕ) (c e : Chain) → j ≡ k → from ≡ from2 → to ≡ to2 → c.order ≡ e.order → CountsAfter s j from to c → CountsAfter s k from2 to2 e → c ≡ e
same_chain s j k from to from2 to2 c e round sender receiver order hc he =
    let moved : CountsAfter s j from to e = subst (λ (i : ℕ). CountsAfter s i from to e) (sym round) (subst (λ f. CountsAfter s k f to e) (sym sender) (subst (λ t. CountsAfter s k from2 t e) (sym receiver) he)) in
    counted_once (header_of s) (delivery (suc j) from to) (frame_of (sender_of s from) (heard_by s j from) (suc j) to) c e hc moved order

one_message : (s : Scenario) (x y : Message) → length x.path ≡ length y.path → Said s x → Said s y → x.from ≡ y.from → x.to ≡ y.to → x.order ≡ y.order → x ≡ y
one_message s x y long sx sy from to order =
    let rounds_same : sx.before ≡ sy.before = omega (arith, round_is s x sx, round_is s y sy, long) in
    let same = same_chain s sx.before sy.before x.from x.to y.from y.to sx.chain sy.chain rounds_same from to (sx.order_is ∙ order ∙ sym sy.order_is) sx.counts sy.counts in
    let path : x.path ≡ y.path = sym sx.path_is ∙ ap (λ (c : Chain). signed_path c.signers) same ∙ sy.path_is in
    (λ i. record { from = from i; to = to i; order = order i; path = path i })

pub is_run : (s : Scenario) → IsRun s.net (messages_of s)
is_run s = record {
  messages = λ m h. well_formed s m (said_of s m h);
  once = λ l x y sx sy from to order. one_message s x y (sx.1 ∙ sym sy.1) (said_of s x sx.0) (said_of s y sy.0) from to order;
}
