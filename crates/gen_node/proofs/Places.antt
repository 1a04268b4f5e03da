-- Where a general without a script writes the entries of a round.
use Rattle.std.proofs.Common.{◌≡◌, ◌+◌, ℕ, not, List, [], ◌∷◌, ◌++◌, filter, length, Contains, sym, ap, subst, ◌∙◌, arith, eqb, length-append, Option, Some, None, inl, inr}
use Rattle.std.specs.List.{range_with_len, list_any}
use Rattle.std.proofs.lemmas.Bool.{eqb-true}
use Rattle.std.proofs.lemmas.List.Elements.{Contains-append_cases}
use Rattle.gen_types.proofs.Lists.{Contains_cases, Contains_nil, Contains_mapped, Contains_flat_mapped, Contains_filtered, bool_cases}
use Rattle.gen_types.specs.Ends.{is_among}
use Rattle.gen_net.specs.Log.{Precedes}
use Rattle.gen_net.specs.Network.{Network}
use Rattle.gen_chain.specs.Chain.{Chain, signed_path}
use Rattle.gen_log.specs.declared.entries.Entry.{Entry}
use Rattle.gen_log.specs.declared.entries.Entry.TheVariants.{Recv}
use Rattle.gen_log.specs.Place.{place_of}
use Rattle.gen_scenario.specs.declared.heard.Heard.{Heard}
use Rattle.gen_scenario.specs.declared.delivery.Delivery.{Delivery}
use Rattle.gen_scenario.specs.Counted.{counted_of}
use Rattle.gen_scenario.specs.Frames.{Sender, relayed, relays_in, signed_in, outside_of}
use Rattle.gen_scenario.specs.Heard.{first_of, round_of}
use Rattle.gen_scenario.specs.RoundEntries.{hides, in_order, lines_in, recv_entries, send_entries, send_of, sends_by, sign_entries, sign_of, signs_by, sorted_by}
use Rattle.gen_scenario.specs.Signing.{Keys, lengthened, made}
use Rattle.gen_scenario.proofs.GoodChains.{lengthened_path, made_path}
use Rattle.gen_scenario.proofs.HeardKnown.{counted_are_chains}
use Rattle.gen_scenario.proofs.Sorting.{in_order_has}
use Rattle.gen_net.specs.Header.{RunHeader}
use Rattle.gen_general.specs.Recording.{StandBefore}

-- ---- chains of a round have as many signers as its number

abbrev AreLong : ℕ → List Chain → Type 0
AreLong round cs = (c : Chain) → Contains cs c → length (signed_path c.signers) ≡ round

one_of : {X : Type 0} (a b : X) → Contains (a ∷ []) b → a ≡ b
one_of a b h = elim (Contains_cases a b [] h) [ inl e ↦ e | inr none ↦ absurd (Contains_nil b none) ]

relayed_long : (k : Keys) (me round : ℕ) (r : Option Heard) → AreLong round (relayed k me round r)
relayed_long k me round None c h = absurd (Contains_nil c h)
relayed_long k me round (Some x) c h = elim (bool_cases (eqb (round_of x + 1) round)) [
  | inr other ↦ absurd (Contains_nil c (rw other at h))
  | inl now ↦
      let one : Contains (lengthened k x.chain (me ∷ []) ∷ []) c = rw now at h in
      let same = one_of (lengthened k x.chain (me ∷ [])) c one in
      let long : length (signed_path (lengthened k x.chain (me ∷ [])).signers) ≡ round = omega (arith, ap length (lengthened_path k x.chain (me ∷ [])), length-append (signed_path x.chain.signers) (me ∷ []), eqb-true _ _ now) in
      subst (λ (d : Chain). length (signed_path d.signers) ≡ round) same long
]

signed_long : (k : Keys) (me : ℕ) (own : Option ℕ) (heard : List Heard) (round : ℕ) → AreLong round (signed_in k me own heard round)
unfolding relays_in
signed_long k me None heard round c h =
    let r = Contains_flat_mapped (λ order. relayed k me round (first_of order heard)) (range_with_len 0 k.header.network.orders) c h in
    relayed_long k me round (first_of r.0 heard) c r.2
signed_long k me (Some order) heard round c h = elim (bool_cases (eqb round 1)) [
  | inr other ↦ absurd (Contains_nil c (rw other at h))
  | inl first ↦
      let one : Contains (made k order (0 ∷ []) ∷ []) c = rw first at h in
      let same = one_of (made k order (0 ∷ [])) c one in
      let at : round ≡ 1 = eqb-true _ _ first in
      let long : length (signed_path (made k order (0 ∷ [])).signers) ≡ round = ap length (made_path k order (0 ∷ [])) ∙ sym at in
      subst (λ (d : Chain). length (signed_path d.signers) ≡ round) same long
]

signs_long : (p : Sender) (heard : List Heard) (round : ℕ) → p.script ≡ None → AreLong round (signs_by p p.script heard round)
signs_long p heard round none c h = signed_long p.keys p.me p.own heard round c (subst (λ o. Contains (signs_by p o heard round) c) none h)

sends_long : (p : Sender) (heard : List Heard) (round to : ℕ) → p.script ≡ None → AreLong round (sends_by p p.script heard round to)
sends_long p heard round to none c h =
    let there : Contains (outside_of to (signed_in p.keys p.me p.own heard round)) c = subst (λ o. Contains (sends_by p o heard round to) c) none h in
    signed_long p.keys p.me p.own heard round c (Contains_filtered (λ (d : Chain). not (is_among (signed_path d.signers) to)) (signed_in p.keys p.me p.own heard round) c there).0

counted_long : (h : RunHeader) (d : Delivery) (frame : List (List ℕ)) → AreLong d.round (counted_of h d frame)
counted_long h d frame c k = (counted_are_chains h d frame c k).1.in_time

-- ---- places

-- it stands in the round, behind this act
abbrev pub StandsAt : Network → ℕ → List ℕ → Entry → Type 0
StandsAt net round act e = (rest : List ℕ) × (place_of net e ≡ round ∷ (act ++ rest))

pub sign_place : (net : Network) (p : Sender) (heard : List Heard) (round : ℕ) → p.script ≡ None → (e : Entry) → Contains (sign_entries p heard round) e → StandsAt net round (0 ∷ []) e
unfolding sign_entries
sign_place net p heard round none e h =
    let cs = signs_by p p.script heard round in
    let m = Contains_mapped sign_of (in_order p.keys.header.network.orders cs) e h in
    let long = signs_long p heard round none m.0 (in_order_has p.keys.header.network.orders cs m.0 m.1) in
    subst (StandsAt net round (0 ∷ [])) m.2 (m.0.order ∷ [], ap (λ l. l ∷ 0 ∷ m.0.order ∷ []) long)

pub send_place : (net : Network) (p : Sender) (heard : List Heard) (round to : ℕ) → p.script ≡ None → (e : Entry) → Contains (send_entries p heard round to) e → StandsAt net round (1 ∷ to ∷ []) e
unfolding send_entries
send_place net p heard round to none e h =
    let cs = sends_by p p.script heard round to in
    let m = Contains_mapped (send_of to) (in_order p.keys.header.network.orders cs) e h in
    let long = sends_long p heard round to none m.0 (in_order_has p.keys.header.network.orders cs m.0 m.1) in
    subst (StandsAt net round (1 ∷ to ∷ [])) m.2 (m.0.order ∷ [], ap (λ l. l ∷ 1 ∷ to ∷ m.0.order ∷ []) long)

sorted_has : (n : ℕ) (cs : List Chain) (c : Chain) → Contains (sorted_by (λ x. x.order) n cs) c → Contains cs c
unfolding sorted_by
sorted_has n cs c h =
    let r = Contains_flat_mapped (λ v. filter (λ (x : Chain). eqb x.order v) cs) (range_with_len 0 n) c h in
    (Contains_filtered (λ (x : Chain). eqb x.order r.0) cs c r.2).0

pub recv_place : (net : Network) (p : Sender) (h : RunHeader) (d : Delivery) (frame : List (List ℕ)) (e : Entry) → Contains (recv_entries p d.round d.from (counted_of h d frame)) e → StandsAt net d.round (2 ∷ d.from ∷ []) e
unfolding recv_entries
recv_place net p h d frame e k =
    let q = λ (c : Chain). not (list_any (hides d.round d.from c.order) (lines_in p.script)) in
    let sorted = sorted_by (λ x. x.order) p.keys.header.network.orders (counted_of h d frame) in
    let m = Contains_mapped (Recv d.from) (filter q sorted) e k in
    let c = Contains_filtered q sorted m.0 m.1 in
    let long = counted_long h d frame m.0 (sorted_has p.keys.header.network.orders (counted_of h d frame) m.0 c.0) in
    subst (StandsAt net d.round (2 ∷ d.from ∷ [])) m.2 (m.0.order ∷ [], ap (λ l. l ∷ 2 ∷ d.from ∷ m.0.order ∷ []) long)

-- ---- what stands before a place

precedes_then : (x y z : List ℕ) → Precedes x y → Precedes y z → Precedes x z
precedes_then [] [] z h k = absurd h
precedes_then [] (b ∷ ys) [] h k = absurd k
precedes_then [] (b ∷ ys) (d ∷ zs) h k = tt
precedes_then (a ∷ xs) [] z h k = absurd h
precedes_then (a ∷ xs) (b ∷ ys) [] h k = absurd k
precedes_then (a ∷ xs) (b ∷ ys) (d ∷ zs) h k = elim h [
  | inl less ↦ elim k [
    | inl more ↦ inl (omega (arith, less, more))
    | inr same ↦ inl (omega (arith, less, same.0))
  ]
  | inr alike ↦ elim k [
    | inl more ↦ inl (omega (arith, alike.0, more))
    | inr same ↦ inr (alike.0 ∙ same.0, precedes_then xs ys zs alike.1 same.1)
  ]
]

pub stand_later : (net : Network) (es : List Entry) (at later : List ℕ) → StandBefore net es at → Precedes at later → StandBefore net es later
stand_later net es at later stand less e h = precedes_then (place_of net e) at later (stand e h) less

pub stand_both : (net : Network) (es more : List Entry) (at : List ℕ) → StandBefore net es at → StandBefore net more at → StandBefore net (es ++ more) at
stand_both net es more at one two e h = elim (Contains-append_cases es more e h) [ inl a ↦ one e a | inr b ↦ two e b ]

-- entries at a place stand before a later one
pub act_before : (net : Network) (round : ℕ) (act : List ℕ) (es : List Entry) (at : List ℕ) → ((e : Entry) → Contains es e → StandsAt net round act e) → ((rest : List ℕ) → Precedes (round ∷ (act ++ rest)) at) → StandBefore net es at
act_before net round act es at stands less e h =
    let p = stands e h in
    subst (λ (q : List ℕ). Precedes q at) (sym p.1) (less p.0)
