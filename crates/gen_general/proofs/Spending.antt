-- The leaves that are taken are those of the SIGNs that are written.
use Rattle.std.proofs.Common.{◌≡◌, ◌<◌, ◌≤◌, ◌+◌, ◌-◌, inl, inr, ℕ, true, zero, suc, List, [], ◌∷◌, ◌++◌, map, Contains, Option, Some, None, refl, sym, ap, subst, ◌∙◌, arith, eqb}
use Rattle.std.specs.Prelude.{if◌then◌else◌, ◌==◌, option_map}
use Rattle.std.specs.List.{flat_map, range_with_len}
use Rattle.std.proofs.lemmas.Bool.{eqb-true, eq-eqb, cases_lt}
use Rattle.std.proofs.lemmas.List.Elements.{Contains-append_left, Contains-append_cases}
use Rattle.gen_types.proofs.Lists.{Contains_here, Contains_cases, Contains_nil, Contains_mapped, Contains_flat_mapped, Contains_in_range, bool_cases}
use Rattle.gen_net.specs.Network.{Network, rounds}
use Rattle.gen_chain.specs.declared.statements.Statement.{Statement}
use Rattle.gen_chain.specs.Chain.{Chain, signed_path}
use Rattle.gen_chain.specs.Leaves.{leaf_of_order}
use Rattle.gen_log.specs.declared.entries.Entry.{Entry}
use Rattle.gen_log.specs.declared.entries.Entry.TheVariants.{Sign, Start, Recv}
use Rattle.gen_log.specs.Log.{RunLog}
use Rattle.gen_log.specs.Signing.{HasSign}
use Rattle.gen_scenario.specs.declared.heard.Heard.{Heard}
use Rattle.gen_scenario.specs.Heard.{round_of, first_of}
use Rattle.gen_scenario.specs.Signing.{Keys, made, lengthened}
use Rattle.gen_scenario.specs.Counted.{firsts}
use Rattle.gen_scenario.specs.Frames.{Sender, relayed, relays_in, signed_in}
use Rattle.gen_scenario.specs.Scenario.{Scenario, script_of}
use Rattle.gen_scenario.specs.SignedWorld.{keys_of, own_order, sender_of, neighbours_of, heard_by, heard_in, counted_at}
use Rattle.gen_scenario.specs.RoundEntries.{last_signature, sign_of, send_of, in_order, sign_entries, send_entries, recv_entries}
use Rattle.gen_scenario.specs.WorldLogs.{entries_after, middle_of, decide_entry, entries_over, log_with, logs_of}
use Rattle.gen_scenario.proofs.FirstChains.{firsts_from}
use Rattle.gen_scenario.proofs.Having.{in_flat, in_mapped}
use Rattle.gen_scenario.proofs.Sorting.{in_order_gives, sorted_has}
use Rattle.gen_general.specs.Following.{round_signed}
use Rattle.gen_general.specs.Spending.{SignsTakeLeaves, FollowersSignOnce}
use Rattle.gen_general.proofs.Relaying.{first_stands, first_front}

one_of : {X : Type 0} (a b : X) → Contains (a ∷ []) b → a ≡ b
one_of a b h = elim (Contains_cases a b [] h) [ inl e ↦ e | inr none ↦ absurd (Contains_nil b none) ]

-- ---- what one without a script signs

-- the chain of an order that he signs, if he does
abbrev chain_signed : Keys → ℕ → Option ℕ → List Heard → ℕ → Option Chain
chain_signed k me (Some own) heard order = if order == own then Some (made k own (0 ∷ [])) else None
chain_signed k me None heard order = option_map (λ x. lengthened k x.chain (me ∷ [])) (first_of order heard)

-- he signs the chain in this round
record IsSigned (k : Keys) (me : ℕ) (own : Option ℕ) (heard : List Heard) (round : ℕ) (c : Chain) : Type 0 where
  pub now : round_signed own heard c.order ≡ Some round
  pub is : chain_signed k me own heard c.order ≡ Some c

relayed_is : (k : Keys) (me round : ℕ) (f : Option Heard) (c : Chain) → Contains (relayed k me round f) c → (x : Heard) × (f ≡ Some x) × (round_of x + 1 ≡ round) × (lengthened k x.chain (me ∷ []) ≡ c)
relayed_is k me round None c h = absurd (Contains_nil c h)
relayed_is k me round (Some x) c h = elim (bool_cases (eqb (round_of x + 1) round)) [
  | inl now ↦ let one : Contains (lengthened k x.chain (me ∷ []) ∷ []) c = rw now at h in (x, refl, eqb-true _ _ now, one_of (lengthened k x.chain (me ∷ [])) c one)
  | inr other ↦ absurd (Contains_nil c (rw other at h))
]

relayed_gives : (k : Keys) (me round : ℕ) (x : Heard) → round_of x + 1 ≡ round → Contains (relayed k me round (Some x)) (lengthened k x.chain (me ∷ []))
relayed_gives k me round x e =
    let now : eqb (round_of x + 1) round ≡ true = eq-eqb (round_of x + 1) round e in
    rw now (Contains_here (lengthened k x.chain (me ∷ [])) [])

first_due : (round : ℕ) (f : Option Heard) → option_map (λ x. round_of x + 1) f ≡ Some round → (x : Heard) × (f ≡ Some x) × (round_of x + 1 ≡ round)
first_due round None e = absurd cc
first_due round (Some x) e = (x, refl, cc)

signed_has : (k : Keys) (me : ℕ) (own : Option ℕ) (heard : List Heard) (round : ℕ) (c : Chain) → Contains (signed_in k me own heard round) c → IsSigned k me own heard round c
unfolding relays_in
signed_has k me (Some v) heard round c h = elim (bool_cases (eqb round 1)) [
  | inl now ↦
      let one : Contains (made k v (0 ∷ []) ∷ []) c = rw now at h in
      let at : round ≡ 1 = eqb-true round 1 now in
      let same : eqb v v ≡ true = eq-eqb v v refl in
      let is : IsSigned k me (Some v) heard round (made k v (0 ∷ [])) = record { now = rw same (ap (λ n. Some n) (sym at)); is = rw same refl } in
      subst (IsSigned k me (Some v) heard round) (one_of (made k v (0 ∷ [])) c one) is
  | inr other ↦ absurd (Contains_nil c (rw other at h))
]
signed_has k me None heard round c h =
    let r = Contains_flat_mapped (λ order. relayed k me round (first_of order heard)) (range_with_len 0 k.header.network.orders) c h in
    let f = relayed_is k me round (first_of r.0 heard) c r.2 in
    let same : c.order ≡ r.0 = ap (λ (x : Chain). x.order) (sym f.3) ∙ (first_stands r.0 heard f.0 f.1).1 in
    let first : first_of c.order heard ≡ Some f.0 = ap (λ v. first_of v heard) same ∙ f.1 in
    record {
      now = ap (option_map (λ x. round_of x + 1)) first ∙ ap (λ n. Some n) f.2;
      is = ap (option_map (λ x. lengthened k x.chain (me ∷ []))) first ∙ ap (λ x. Some x) f.3;
    }

signed_gives : (k : Keys) (me : ℕ) (own : Option ℕ) (heard : List Heard) (round order : ℕ) → order < k.header.network.orders → round_signed own heard order ≡ Some round
    → (c : Chain) × Contains (signed_in k me own heard round) c × (c.order ≡ order)
unfolding relays_in
signed_gives k me (Some v) heard round order low e = elim (bool_cases (eqb order v)) [
  | inl same ↦
      let some : Some 1 ≡ Some round = rw same at e in
      let at : 1 ≡ round = cc in
      let now : eqb round 1 ≡ true = eq-eqb round 1 (sym at) in
      (made k v (0 ∷ []), rw now (Contains_here (made k v (0 ∷ [])) []), sym (eqb-true order v same))
  | inr other ↦ let none : None ≡ Some round = rw other at e in absurd cc
]
signed_gives k me None heard round order low e =
    let f = first_due round (first_of order heard) e in
    let c : Chain = lengthened k f.0.chain (me ∷ []) in
    let here : Contains (relayed k me round (first_of order heard)) c = subst (λ r. Contains (relayed k me round r) c) (sym f.1) (relayed_gives k me round f.0 f.2) in
    (c, in_flat (λ v. relayed k me round (first_of v heard)) (range_with_len 0 k.header.network.orders) order c (Contains_in_range 0 k.header.network.orders order (omega arith) (omega (arith, low))) here, (first_stands order heard f.0 f.1).1)

-- of each order one
signed_once : (k : Keys) (me : ℕ) (own : Option ℕ) (heard : List Heard) (round : ℕ) (a b : Chain) → Contains (signed_in k me own heard round) a → Contains (signed_in k me own heard round) b → a.order ≡ b.order → a ≡ b
signed_once k me own heard round a b ha hb e =
    let both : Some a ≡ Some b = sym (signed_has k me own heard round a ha).is ∙ ap (chain_signed k me own heard) e ∙ (signed_has k me own heard round b hb).is in
    cc

-- ---- the SIGNs of a round

signs_unscripted : (p : Sender) (heard : List Heard) (round : ℕ) → p.script ≡ None → sign_entries p heard round ≡ map sign_of (in_order p.keys.header.network.orders (signed_in p.keys p.me p.own heard round))
unfolding sign_entries
signs_unscripted p heard round none = rw none refl

-- the SIGN is of a chain that he signs
record IsSignOf (p : Sender) (heard : List Heard) (round order : ℕ) (path signature : List ℕ) : Type 0 where
  pub chain : Chain
  pub signed : IsSigned p.keys p.me p.own heard round chain
  pub low : chain.order < p.keys.header.network.orders
  pub is : sign_of chain ≡ Sign order path signature

sign_has : (p : Sender) (heard : List Heard) (round order : ℕ) (path signature : List ℕ) → p.script ≡ None → Contains (sign_entries p heard round) (Sign order path signature) → IsSignOf p heard round order path signature
sign_has p heard round order path signature none h =
    let n = p.keys.header.network.orders in
    let cs : List Chain = signed_in p.keys p.me p.own heard round in
    let all : Contains (map sign_of (in_order n cs)) (Sign order path signature) = subst (λ (es : List Entry). Contains es (Sign order path signature)) (signs_unscripted p heard round none) h in
    let k = Contains_mapped sign_of (in_order n cs) (Sign order path signature) all in
    let f = sorted_has (λ (c : Chain). c.order) n (firsts cs) k.0 k.1 in
    record { chain = k.0; signed = signed_has p.keys p.me p.own heard round k.0 (firsts_from cs k.0 f.0); low = f.1; is = k.2 }

sign_order : (c : Chain) (order : ℕ) (path signature : List ℕ) → sign_of c ≡ Sign order path signature → c.order ≡ order
sign_order c order path signature e = cc

sign_path : (c : Chain) (order : ℕ) (path signature : List ℕ) → sign_of c ≡ Sign order path signature → signed_path c.signers ≡ path
sign_path c order path signature e = cc

pub signs_take_leaves : SignsTakeLeaves
signs_take_leaves p heard round leaf none = (
  λ w.
      let n = p.keys.header.network.orders in
      let cs : List Chain = signed_in p.keys p.me p.own heard round in
      let g = signed_gives p.keys p.me p.own heard round w.order w.known w.signed in
      let low : g.0.order < n = omega (arith, g.2, w.known) in
      let stands : Contains (map sign_of (in_order n cs)) (sign_of g.0) = in_mapped sign_of (in_order n cs) g.0 (in_order_gives n cs g.0 (signed_once p.keys p.me p.own heard round) low g.1) in
      record {
        order = g.0.order;
        path = signed_path g.0.signers;
        signature = last_signature g.0.signers;
        stands = subst (λ (es : List Entry). Contains es (sign_of g.0)) (sym (signs_unscripted p heard round none)) stands;
        leaf_is = w.leaf_is ∙ ap (leaf_of_order p.keys.header) (sym g.2);
      },
  λ w.
      let is = sign_has p heard round w.order w.path w.signature none w.stands in
      let same = sign_order is.chain w.order w.path w.signature is.is in
      record {
        order = is.chain.order;
        known = is.low;
        leaf_is = w.leaf_is ∙ ap (leaf_of_order p.keys.header) (sym same);
        signed = is.signed.now;
      },
)

-- ---- the SIGNs of a log

send_not : (p : Sender) (heard : List Heard) (round to order : ℕ) (path signature : List ℕ) → Contains (send_entries p heard round to) (Sign order path signature) → ⊥
unfolding send_entries
send_not p heard round to order path signature h =
    let k = Contains_mapped (send_of to) _ (Sign order path signature) h in
    let e : send_of to k.0 ≡ Sign order path signature = k.2 in
    absurd cc

recv_not : (p : Sender) (round from : ℕ) (counted : List Chain) (order : ℕ) (path signature : List ℕ) → Contains (recv_entries p round from counted) (Sign order path signature) → ⊥
unfolding recv_entries
recv_not p round from counted order path signature h =
    let k = Contains_mapped (Recv from) _ (Sign order path signature) h in
    let e : Recv from k.0 ≡ Sign order path signature = k.2 in
    absurd cc

-- those of a round
pub round_sign : (s : Scenario) (g j order : ℕ) (path signature : List ℕ) → Contains (entries_after s g j) (Sign order path signature) → Contains (sign_entries (sender_of s g) (heard_by s j g) (suc j)) (Sign order path signature)
unfolding entries_after
round_sign s g j order path signature h =
    let e = Sign order path signature in
    let signs = sign_entries (sender_of s g) (heard_by s j g) (suc j) in
    let sends : List Entry = flat_map (send_entries (sender_of s g) (heard_by s j g) (suc j)) (neighbours_of s.net g) in
    let recvs : List Entry = flat_map (λ from. recv_entries (sender_of s g) (suc j) from (counted_at s (suc j) from g)) (neighbours_of s.net g) in
    elim (Contains-append_cases signs (sends ++ recvs) e h) [
      | inl sign ↦ sign
      | inr other ↦ elim (Contains-append_cases sends recvs e other) [
        | inl send ↦
            let k = Contains_flat_mapped (send_entries (sender_of s g) (heard_by s j g) (suc j)) (neighbours_of s.net g) e send in
            absurd (send_not (sender_of s g) (heard_by s j g) (suc j) k.0 order path signature k.2)
        | inr recv ↦
            let k = Contains_flat_mapped (λ from. recv_entries (sender_of s g) (suc j) from (counted_at s (suc j) from g)) (neighbours_of s.net g) e recv in
            absurd (recv_not (sender_of s g) (suc j) k.0 (counted_at s (suc j) k.0 g) order path signature k.2)
      ]
    ]

pub sign_round : (s : Scenario) (g j : ℕ) (e : Entry) → Contains (sign_entries (sender_of s g) (heard_by s j g) (suc j)) e → Contains (entries_after s g j) e
unfolding entries_after
sign_round s g j e h = Contains-append_left (sign_entries (sender_of s g) (heard_by s j g) (suc j)) _ e h

decide_not : (net : Network) (own : Option ℕ) (entries : List Entry) (order : ℕ) (path signature : List ℕ) → decide_entry net own entries ≡ Sign order path signature → ⊥
decide_not net None entries order path signature e = absurd cc
decide_not net (Some v) entries order path signature e = absurd cc

-- those between START and DECIDE
pub log_sign : (p : Sender) (entries : List Entry) (order : ℕ) (path signature : List ℕ) → Contains (entries_over p entries) (Sign order path signature) → Contains entries (Sign order path signature)
log_sign p entries order path signature h =
    let e = Sign order path signature in
    let last : Entry = decide_entry p.keys.header.network p.own entries in
    elim (Contains_cases (Start p.me p.own) e (entries ++ last ∷ []) h) [
      | inl start ↦ let same : Start p.me p.own ≡ Sign order path signature = start in absurd cc
      | inr more ↦ elim (Contains-append_cases entries (last ∷ []) e more) [
        | inl there ↦ there
        | inr end ↦ absurd (decide_not p.keys.header.network p.own entries order path signature (one_of last e end))
      ]
    ]

-- who has no script has one log
pub one_log : (s : Scenario) (g : ℕ) → script_of s.scripts g ≡ None → logs_of s g ≡ log_with (keys_of s) g (entries_over (sender_of s g) (middle_of s g)) ∷ []
one_log s g none = rw none refl

-- ---- each leaf has one text

first_kept : (k : Keys) (me : ℕ) (heard more : List Heard) (order : ℕ) (c : Chain) (f : Option Heard) → first_of order heard ≡ f → option_map (λ x. lengthened k x.chain (me ∷ [])) f ≡ Some c
    → option_map (λ x. lengthened k x.chain (me ∷ [])) (first_of order (heard ++ more)) ≡ Some c
first_kept k me heard more order c None is some = absurd cc
first_kept k me heard more order c (Some x) is some = ap (option_map (λ x. lengthened k x.chain (me ∷ []))) (first_front order heard more x is) ∙ some

-- what he signs of an order he signs whatever more he hears
chain_kept : (k : Keys) (me : ℕ) (own : Option ℕ) (heard more : List Heard) (order : ℕ) (c : Chain) → chain_signed k me own heard order ≡ Some c → chain_signed k me own (heard ++ more) order ≡ Some c
chain_kept k me (Some v) heard more order c e = e
chain_kept k me None heard more order c e = first_kept k me heard more order c (first_of order heard) refl e

one_more : (s : Scenario) (g j : ℕ) → heard_by s (suc j) g ≡ heard_by s j g ++ heard_in s (heard_by s j) (suc j) g
unfolding heard_by
one_more s g j = refl

chain_later : (s : Scenario) (g j d l order : ℕ) (c : Chain) → l ≡ d + j → chain_signed (keys_of s) g (own_order s g) (heard_by s j g) order ≡ Some c → chain_signed (keys_of s) g (own_order s g) (heard_by s l g) order ≡ Some c
chain_later s g j zero l order c at e =
    let same : j ≡ l = omega (arith, at) in
    subst (λ k. chain_signed (keys_of s) g (own_order s g) (heard_by s k g) order ≡ Some c) same e
chain_later s g j (suc d) l order c at e =
    let before = chain_later s g j d (d + j) order c refl e in
    let more = heard_in s (heard_by s (d + j)) (suc (d + j)) g in
    let same : suc (d + j) ≡ l = omega (arith, at) in
    let longer = chain_kept (keys_of s) g (own_order s g) (heard_by s (d + j) g) more order c before in
    subst (λ k. chain_signed (keys_of s) g (own_order s g) (heard_by s k g) order ≡ Some c) same
    (subst (λ heard. chain_signed (keys_of s) g (own_order s g) heard order ≡ Some c) (sym (one_more s g (d + j))) longer)

one_chain : (s : Scenario) (g i j order : ℕ) (a b : Chain) → i ≤ j → chain_signed (keys_of s) g (own_order s g) (heard_by s i g) order ≡ Some a → chain_signed (keys_of s) g (own_order s g) (heard_by s j g) order ≡ Some b → a ≡ b
one_chain s g i j order a b le ea eb =
    let both : Some a ≡ Some b = sym (chain_later s g i (j - i) j order a (omega (arith, le)) ea) ∙ eb in
    cc

-- the round of a SIGN, and its chain
record IsSignAt (s : Scenario) (g order : ℕ) (path : List ℕ) : Type 0 where
  pub round : ℕ
  pub chain : Chain
  pub is : chain_signed (keys_of s) g (own_order s g) (heard_by s round g) order ≡ Some chain
  pub path_is : signed_path chain.signers ≡ path
  pub low : order < s.net.orders

middle_sign : (s : Scenario) (g order : ℕ) (path signature : List ℕ) → script_of s.scripts g ≡ None → Contains (middle_of s g) (Sign order path signature) → IsSignAt s g order path
unfolding middle_of
middle_sign s g order path signature none h =
    let k = Contains_flat_mapped (entries_after s g) (range_with_len 0 (rounds s.net)) (Sign order path signature) h in
    let is = sign_has (sender_of s g) (heard_by s k.0 g) (suc k.0) order path signature none (round_sign s g k.0 order path signature k.2) in
    let same = sign_order is.chain order path signature is.is in
    record {
      round = k.0;
      chain = is.chain;
      is = ap (chain_signed (keys_of s) g (own_order s g) (heard_by s k.0 g)) (sym same) ∙ is.signed.is;
      path_is = sign_path is.chain order path signature is.is;
      low = omega (arith, same, is.low);
    }

one_path : (s : Scenario) (g order : ℕ) (p q : List ℕ) → IsSignAt s g order p → IsSignAt s g order q → p ≡ q
one_path s g order p q a b =
    let same : a.chain ≡ b.chain = elim (cases_lt a.round b.round) [
      | inl less ↦ one_chain s g a.round b.round order a.chain b.chain (omega (arith, less)) a.is b.is
      | inr least ↦ sym (one_chain s g b.round a.round order b.chain a.chain (omega (arith, least)) b.is a.is)
    ] in
    sym a.path_is ∙ ap (λ (c : Chain). signed_path c.signers) same ∙ b.path_is

log_is : (s : Scenario) (g : ℕ) → script_of s.scripts g ≡ None → (log : RunLog) → Contains (logs_of s g) log → (x : Statement) → HasSign log x → IsSignAt s g x.order x.path
log_is s g none log h x sign =
    let only : log_with (keys_of s) g (entries_over (sender_of s g) (middle_of s g)) ≡ log = one_of _ log (subst (λ (logs : List RunLog). Contains logs log) (one_log s g none) h) in
    let stands : Contains (entries_over (sender_of s g) (middle_of s g)) (Sign x.order x.path sign.0) = subst (λ (l : RunLog). Contains l.entries (Sign x.order x.path sign.0)) (sym only) sign.1 in
    middle_sign s g x.order x.path sign.0 none (log_sign (sender_of s g) (middle_of s g) x.order x.path sign.0 stands)

pub followers_sign_once : FollowersSignOnce
followers_sign_once s ok g none log h = record {
  statements = λ x y sx sy e.
      let a = log_is s g none log h x sx in
      let b = log_is s g none log h y sy in
      let order : x.order ≡ y.order = omega (arith, e) in
      let path : x.path ≡ y.path = one_path s g y.order x.path y.path (subst (λ v. IsSignAt s g v x.path) order a) b in
      λ i. record { order = order i; path = path i };
  head = λ x sx e.
      let a = log_is s g none log h x sx in
      omega (arith, e, a.low, ok.network.ranges.few_orders);
}
