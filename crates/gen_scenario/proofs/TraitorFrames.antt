-- What counts of a traitor's frame, where no line is raw: all of its path have scripts, or it lengthens by such generals what he heard.
use Rattle.std.proofs.Common.{◌≡◌, ◌≢◌, ◌<◌, ◌≤◌, ◌⊎◌, inl, inr, ℕ, zero, suc, ◌-◌, ◌&&◌, false, List, [], ◌∷◌, ◌++◌, filter, length, Contains, All, AllPairs, refl, sym, ap, subst, ◌∙◌, append_assoc, arith, eqb, Option, Some, None}
use Rattle.std.specs.List.{list_any}
use Rattle.std.proofs.lemmas.Bool.{eqb-true}
use Rattle.std.proofs.lemmas.List.{append-nil}
use Rattle.std.proofs.lemmas.List.Elements.{All-contains, Contains-append_cases, Contains-append_right}
use Rattle.gen_types.proofs.Lists.{Contains_here, Contains_there, Contains_cases, Contains_nil, Contains_mapped, Contains_flat_mapped, Contains_filtered, AllPairs_head, AllPairs_tail, All_of, decide_contains, bool_cases}
use Rattle.gen_net.specs.Network.{IsLoyal, rounds}
use Rattle.gen_net.specs.declared.message.Message.{Message}
use Rattle.gen_net.specs.Signed.{IsDerivable}
use Rattle.gen_script.specs.declared.lines.ScriptLine.TheVariants.{Make, Pass, Bend, Raw, Hide, TwoHeads}
use Rattle.gen_types.specs.Ends.{BeginsWith, EndsWith, is_among}
use Rattle.gen_chain.specs.Chain.{Chain, IsSignedChain, chain_spelling, signed_path}
use Rattle.gen_scenario.proofs.HeardBy.{CountsAfter, by_gives, by_has, counted_facts, heard_said, is_run, round_is, said_of}
use Rattle.gen_scenario.specs.SignedLaw.{HasNoRaw, IsRaw, NoRawIsSigned}
use Rattle.gen_scenario.specs.declared.heard.Heard.{Heard}
use Rattle.gen_scenario.proofs.GoodChains.{IsGood, MayFollow, bent_chain, bent_path, lengthened_good, lengthened_path, made_good, made_path}
use Rattle.gen_script.specs.Line.{IsPathTo}
use Rattle.gen_scenario.specs.Scenario.{IsScenario, Scenario, header_of, scripted}
use Rattle.gen_script.specs.declared.lines.ScriptLine.{ScriptLine}
use Rattle.gen_scenario.proofs.Having.{any_gives, true_false}
use Rattle.gen_scenario.specs.Signing.{bent, lengthened, made}
use Rattle.gen_chain.proofs.TestedChains.{both}
use Rattle.gen_scenario.proofs.CountedChains.{counted_has}
use Rattle.gen_scenario.specs.SignedWorld.{delivery, heard_by, keys_of, message_to, messages_of, sender_of}
use Rattle.gen_scenario.proofs.Conducts.{each_follows}
use Rattle.gen_scenario.specs.Frames.{frame_of, is_for, parcels_of, passed, traitors_frame}
use Rattle.gen_scenario.specs.Heard.{heard_from, round_of}
use Rattle.gen_net.specs.Header.{height_of}
use Rattle.gen_scenario.proofs.FollowerFrames.{one_chain}
use Rattle.gen_types.proofs.Among.{in_among}
use Rattle.gen_scenario.proofs.ScriptsOf.{script_some, lines_of, line_of, lawful_line, signing_line}

-- the chain that was found among what was heard
pub from_has : (round from order : ℕ) (xs : List Heard) (x : Heard) → heard_from round from order xs ≡ Some x → Contains xs x × (x.from ≡ from) × (x.chain.order ≡ order) × (round_of x ≡ round)
unfolding heard_from
from_has round from order [] x e = absurd cc
from_has round from order (a ∷ xs) x e = elim (bool_cases (eqb a.from from && (eqb a.chain.order order && eqb (round_of a) round))) [
  | inl here ↦
      let found : Some a ≡ Some x = rw here at e in
      let same : a ≡ x = cc in
      let p = both (eqb a.from from) (eqb a.chain.order order && eqb (round_of a) round) here in
      let q = both (eqb a.chain.order order) (eqb (round_of a) round) p.1 in
      subst (λ (z : Heard). Contains (a ∷ xs) z × (z.from ≡ from) × (z.chain.order ≡ order) × (round_of z ≡ round)) same (Contains_here a xs, eqb-true _ _ p.0, eqb-true _ _ q.0, eqb-true _ _ q.1)
  | inr out ↦
      let found : heard_from round from order xs ≡ Some x = rw out at e in
      let r = from_has round from order xs x found in
      (Contains_there a x xs r.0, r.1, r.2, r.3)
]

-- the chain is one that he heard, lengthened by generals with scripts
pub record IsPassed (s : Scenario) (g l : ℕ) (c : Chain) : Type 0 where
  pub x : Heard
  pub stands : Contains (heard_by s l g) x
  pub added : List ℕ
  pub path_is : signed_path c.signers ≡ signed_path x.chain.signers ++ added
  pub order_is : c.order ≡ x.chain.order
  pub traitors : (h : ℕ) → Contains added h → Contains (scripted s.scripts) h

-- all of its path have scripts, or it is such a one
abbrev pub IsTraitors : Scenario → ℕ → ℕ → Chain → Type 0
IsTraitors s g l c = ((h : ℕ) → Contains (signed_path c.signers) h → Contains (scripted s.scripts) h) ⊎ IsPassed s g l c

passed_has : (s : Scenario) (path : List ℕ) (r : Option Heard) (k : Chain) → Contains (passed (keys_of s) path r) k → (x : Heard) × (r ≡ Some x) × (k ≡ lengthened (keys_of s) x.chain path) × (list_any (is_among (signed_path x.chain.signers)) path ≡ false)
passed_has s path None k h = absurd (Contains_nil k h)
passed_has s path (Some x) k h = elim (bool_cases (list_any (is_among (signed_path x.chain.signers)) path)) [
  | inl out ↦ absurd (Contains_nil k (rw out at h))
  | inr fits ↦
      let one : Contains (lengthened (keys_of s) x.chain path ∷ []) k = rw fits at h in
      (x, refl, elim (Contains_cases (lengthened (keys_of s) x.chain path) k [] one) [ inl same ↦ sym same | inr none ↦ absurd (Contains_nil k none) ], fits)
]

pub may_follow : (n : ℕ) (before path : List ℕ) → All (λ g. g < n) path → AllPairs (λ g h. g ≢ h) path → list_any (is_among before) path ≡ false → MayFollow n before path
may_follow n before path known distinct fits = record {
  known = λ g h. All-contains (λ x. x < n) path g known h;
  distinct = distinct;
  new = λ g h old. true_false (list_any (is_among before) path) (any_gives (is_among before) path g h (in_among before g old)) fits;
}

-- the chain that was passed on, and the facts of what was heard
pub record PassedOn (s : Scenario) (g l round : ℕ) (path : List ℕ) (k : Chain) : Type 0 where
  pub x : Heard
  pub stands : Contains (heard_by s l g) x
  pub long : round_of x ≡ round
  pub is : k ≡ lengthened (keys_of s) x.chain path
  pub good : IsGood s k

pub passed_on : (s : Scenario) → IsScenario s → (g l round from order : ℕ) (path : List ℕ) (k : Chain) → All (λ h. h < s.net.generals) path → AllPairs (λ a b. a ≢ b) path → Contains (passed (keys_of s) path (heard_from round from order (heard_by s l g))) k → PassedOn s g l round path k
passed_on s ok g l round from order path k known distinct h =
    let p = passed_has s path (heard_from round from order (heard_by s l g)) k h in
    let f = from_has round from order (heard_by s l g) p.0 p.1 in
    let b = by_has s l g p.0 f.0 in
    let facts = counted_facts s b.0 p.0.from g p.0.chain b.2.counts in
    let longer = lengthened_good s ok p.0.chain path (record { is_chain = facts.is_chain; verifies = facts.verifies }) (may_follow s.net.generals (signed_path p.0.chain.signers) path known distinct p.3) in
    record { x = p.0; stands = f.0; long = f.3; is = p.2; good = subst (IsGood s) (sym p.2) longer }

one_known : (n g : ℕ) → g < n → All (λ h. h < n) (g ∷ [])
one_known n g low = All_of (λ h. h < n) (g ∷ []) (λ h k. elim (Contains_cases g h [] k) [ inl e ↦ subst (λ x. x < n) e low | inr none ↦ absurd (Contains_nil h none) ])

-- the chain of a make line
pub made_by_line : (s : Scenario) → IsScenario s → (g order : ℕ) (path : List ℕ) → order < s.net.orders → IsPathTo s.net g path → BeginsWith path (0 ∷ []) → IsGood s (made (keys_of s) order path)
made_by_line s ok g order path low p begun =
    let parts : path ≡ 0 ∷ begun.0 = begun.1 in
    let apart : AllPairs (λ a b. a ≢ b) (0 ∷ begun.0) = subst (AllPairs (λ a b. a ≢ b)) parts p.distinct in
    let may : MayFollow s.net.generals (0 ∷ []) begun.0 = record {
      known = λ x k. All-contains (λ y. y < s.net.generals) path x p.known (subst (λ q. Contains q x) (sym parts) (Contains_there 0 x begun.0 k));
      distinct = AllPairs_tail (λ a b. a ≢ b) 0 begun.0 apart;
      new = λ x k old. elim (Contains_cases 0 x [] old) [
        | inl e ↦ All-contains (λ b. 0 ≢ b) begun.0 x (AllPairs_head (λ a b. a ≢ b) 0 begun.0 apart) k e
        | inr none ↦ absurd (Contains_nil x none)
      ];
    } in
    subst (λ q. IsGood s (made (keys_of s) order q)) (sym parts) (made_good s ok order begun.0 low may)

-- what a line puts into the frame
line_has : (s : Scenario) → IsScenario s → (g l : ℕ) (line : ScriptLine) → Contains (lines_of s.scripts g) line → g < s.net.generals → Contains (scripted s.scripts) g → (IsRaw line → ⊥) → (c : Chain) → IsSignedChain (height_of (header_of s)) c → Contains (parcels_of (keys_of s) g (heard_by s l g) line) (chain_spelling c) → IsTraitors s g l c
line_has s ok g l (Make round to order path) mem low mine no_raw c is h =
    let lawful = lawful_line s ok g (Make round to order path) mem in
    let good = made_by_line s ok g order path lawful.2 lawful.3 lawful.4 in
    elim (Contains_cases (chain_spelling (made (keys_of s) order path)) (chain_spelling c) [] h) [
      | inl e ↦
          let same : made (keys_of s) order path ≡ c = one_chain (height_of (header_of s)) (made (keys_of s) order path) c good.is_chain is e in
          let path-is : signed_path c.signers ≡ path = ap (λ (k : Chain). signed_path k.signers) (sym same) ∙ made_path (keys_of s) order path in
          inl (λ x k. signing_line s ok g (Make round to order path) mem path refl x (subst (λ q. Contains q x) path-is k))
      | inr none ↦ absurd (Contains_nil (chain_spelling c) none)
    ]
line_has s ok g l (Pass round to from order path) mem low mine no_raw c is h =
    let lawful = lawful_line s ok g (Pass round to from order path) mem in
    let p : IsPathTo s.net g path = lawful.4 in
    let r = Contains_mapped chain_spelling (passed (keys_of s) path (heard_from (round - length path) from order (heard_by s l g))) (chain_spelling c) h in
    let on = passed_on s ok g l (round - length path) from order path r.0 p.known p.distinct r.1 in
    let same : r.0 ≡ c = one_chain (height_of (header_of s)) r.0 c on.good.is_chain is r.2 in
    let c-is : c ≡ lengthened (keys_of s) on.x.chain path = sym same ∙ on.is in
    inr (record {
      x = on.x;
      stands = on.stands;
      added = path;
      path_is = ap (λ (k : Chain). signed_path k.signers) c-is ∙ lengthened_path (keys_of s) on.x.chain path;
      order_is = ap (λ (k : Chain). k.order) c-is;
      traitors = λ x k. signing_line s ok g (Pass round to from order path) mem path refl x k;
    })
line_has s ok g l (Bend round to from order) mem low mine no_raw c is h =
    let r = Contains_mapped (λ (k : Chain). chain_spelling (bent k)) (passed (keys_of s) (g ∷ []) (heard_from (round - 1) from order (heard_by s l g))) (chain_spelling c) h in
    let on = passed_on s ok g l (round - 1) from order (g ∷ []) r.0 (one_known s.net.generals g low) (λ i j d m n. absurd (omega arith)) r.1 in
    let same : bent r.0 ≡ c = one_chain (height_of (header_of s)) (bent r.0) c (bent_chain (height_of (header_of s)) r.0 on.good.is_chain) is r.2 in
    let path-is : signed_path r.0.signers ≡ signed_path on.x.chain.signers ++ g ∷ [] = ap (λ (k : Chain). signed_path k.signers) on.is ∙ lengthened_path (keys_of s) on.x.chain (g ∷ []) in
    inr (record {
      x = on.x;
      stands = on.stands;
      added = g ∷ [];
      path_is = ap (λ (k : Chain). signed_path k.signers) (sym same) ∙ bent_path r.0.signers ∙ path-is;
      order_is = ap (λ (k : Chain). k.order) (sym same) ∙ ap (λ (k : Chain). k.order) on.is;
      traitors = λ x k. elim (Contains_cases g x [] k) [ inl e ↦ subst (λ y. Contains (scripted s.scripts) y) e mine | inr none ↦ absurd (Contains_nil x none) ];
    })
line_has s ok g l (Raw round to parcel) mem low mine no_raw c is h = absurd (no_raw tt)
line_has s ok g l (Hide round from order) mem low mine no_raw c is h = absurd (Contains_nil (chain_spelling c) h)
line_has s ok g l TwoHeads mem low mine no_raw c is h = absurd (Contains_nil (chain_spelling c) h)

traitors_frame_is : (s : Scenario) (g : ℕ) (heard : List Heard) (round to : ℕ) → Contains (scripted s.scripts) g → frame_of (sender_of s g) heard round to ≡ traitors_frame (keys_of s) g (lines_of s.scripts g) heard round to
unfolding frame_of
traitors_frame_is s g heard round to mine = let some = script_some s.scripts g mine in rw some.1 refl

pub traitor_counts : (s : Scenario) → IsScenario s → HasNoRaw s → (g l to : ℕ) (c : Chain) → g < s.net.generals → Contains (scripted s.scripts) g → CountsAfter s l g to c → IsTraitors s g l c
unfolding traitors_frame
traitor_counts s ok no_raw g l to c low mine h =
    let r = counted_has (header_of s) (delivery (suc l) g to) (frame_of (sender_of s g) (heard_by s l g) (suc l) to) c h in
    let there : Contains (traitors_frame (keys_of s) g (lines_of s.scripts g) (heard_by s l g) (suc l) to) r.parcel = subst (λ (f : List (List ℕ)). Contains f r.parcel) (traitors_frame_is s g (heard_by s l g) (suc l) to mine) r.stands in
    let k = Contains_flat_mapped (parcels_of (keys_of s) g (heard_by s l g)) (filter (is_for (suc l) to) (lines_of s.scripts g)) r.parcel there in
    let line = Contains_filtered (is_for (suc l) to) (lines_of s.scripts g) k.0 k.1 in
    line_has s ok g l k.0 line.0 low mine (let of = line_of s.scripts g k.0 line.0 in no_raw of.script k.0 of.stands of.has) c r.carried.is_chain (subst (λ (p : List ℕ). Contains (parcels_of (keys_of s) g (heard_by s l g) k.0) p) r.carried.spelled k.2)

-- ---- derivability

no_loyal : (s : Scenario) (path : List ℕ) → ((h : ℕ) → Contains path h → Contains (scripted s.scripts) h) → All (λ g. IsLoyal s.net (scripted s.scripts) g → ⊥) path
no_loyal s path traitors = All_of (λ g. IsLoyal s.net (scripted s.scripts) g → ⊥) path (λ g h loyal. loyal.1 (traitors g h))

both_all : (P : ℕ → Type 0) (xs ys : List ℕ) → All P xs → All P ys → All P (xs ++ ys)
both_all P xs ys first second = All_of P (xs ++ ys) (λ x h. elim (Contains-append_cases xs ys x h) [ inl l ↦ All-contains P xs x first l | inr r ↦ All-contains P ys x second r ])

-- what is passed on derives from what it lengthens
longer_derives : (s : Scenario) (m t : Message) (added : List ℕ) → m.path ≡ t.path ++ added → m.order ≡ t.order → length t.path < length m.path → All (λ g. IsLoyal s.net (scripted s.scripts) g → ⊥) added → IsDerivable s.net (scripted s.scripts) (messages_of s) t → IsDerivable s.net (scripted s.scripts) (messages_of s) m
longer_derives s m t added path order longer traitors derivable = elim derivable [
  | inl all ↦ inl (subst (All (λ g. IsLoyal s.net (scripted s.scripts) g → ⊥)) (sym path) (both_all (λ g. IsLoyal s.net (scripted s.scripts) g → ⊥) t.path added all traitors))
  | inr d ↦ inr (record {
    front = d.front;
    last = d.last;
    after = d.after ++ added;
    parts = path ∙ ap (λ (p : List ℕ). p ++ added) d.parts ∙ append_assoc (d.front ++ d.last ∷ []) d.after added;
    last_loyal = d.last_loyal;
    nobody_after = both_all (λ g. IsLoyal s.net (scripted s.scripts) g → ⊥) d.after added d.nobody_after traitors;
    source = d.source;
    sent = d.sent;
    from_loyal = d.from_loyal;
    to_faulty = d.to_faulty;
    same_order = d.same_order ∙ sym order;
    earlier = omega (arith, d.earlier, longer);
    begun = d.begun;
  })
]

-- and from what a general of the rest sent
sent_derives : (s : Scenario) (m t : Message) (added : List ℕ) → m.path ≡ t.path ++ added → m.order ≡ t.order → length t.path < length m.path → All (λ g. IsLoyal s.net (scripted s.scripts) g → ⊥) added → Contains (messages_of s) t → EndsWith t.path t.from → IsLoyal s.net (scripted s.scripts) t.from → Contains (scripted s.scripts) t.to → IsDerivable s.net (scripted s.scripts) (messages_of s) m
sent_derives s m t added path order longer traitors sent ends loyal faulty = inr (record {
  front = ends.0;
  last = t.from;
  after = added;
  parts = path ∙ ap (λ (p : List ℕ). p ++ added) ends.1;
  last_loyal = loyal;
  nobody_after = traitors;
  source = t;
  sent = sent;
  from_loyal = loyal;
  to_faulty = faulty;
  same_order = sym order;
  earlier = longer;
  begun = ([], ends.1 ∙ sym (append-nil (ends.0 ++ t.from ∷ [])));
})

last_in : (front : List ℕ) (g : ℕ) → Contains (front ++ g ∷ []) g
last_in front g = Contains-append_right front (g ∷ []) g (Contains_here g [])

sender_below : (s : Scenario) (m : Message) → Contains (messages_of s) m → m.from < s.net.generals
sender_below s m h =
    let w = (is_run s).messages m h in
    All-contains (λ g. g < s.net.generals) m.path m.from w.chain.generals_known (subst (λ p. Contains p m.from) (sym w.signer.1) (last_in w.signer.0 m.from))

pub derives : (s : Scenario) → IsScenario s → HasNoRaw s → (bound : ℕ) (m : Message) → length m.path ≤ bound → Contains (messages_of s) m → Contains (scripted s.scripts) m.from → IsDerivable s.net (scripted s.scripts) (messages_of s) m
derives s ok no_raw zero m short h faulty =
    let said = said_of s m h in
    absurd (omega (arith, round_is s m said, short))
derives s ok no_raw (suc bound) m short h faulty =
    let said = said_of s m h in
    let g = m.from in
    let l = said.before in
    elim (traitor_counts s ok no_raw g l m.to said.chain (sender_below s m h) faulty said.counts) [
      | inl all ↦ inl (subst (All (λ g. IsLoyal s.net (scripted s.scripts) g → ⊥)) said.path_is (no_loyal s (signed_path said.chain.signers) all))
      | inr passed_on ↦
          let x = passed_on.x in
          let b = by_has s l g x passed_on.stands in
          let facts = counted_facts s b.0 x.from g x.chain b.2.counts in
          let t : Message = message_to g x in
          let sent : Contains (messages_of s) t = heard_said s g x (sender_below s m h) (by_gives s (rounds s.net) b.0 g x (omega (arith, b.1, said.in_time)) b.2) in
          let path : m.path ≡ t.path ++ passed_on.added = sym said.path_is ∙ passed_on.path_is in
          let order : m.order ≡ t.order = sym said.order_is ∙ passed_on.order_is in
          let longer : length t.path < length m.path = omega (arith, facts.long, round_is s m said, b.1) in
          let traitors = no_loyal s passed_on.added passed_on.traitors in
          elim (decide_contains (scripted s.scripts) x.from) [
            | inl again ↦ longer_derives s m t passed_on.added path order longer traitors (derives s ok no_raw bound t (omega (arith, longer, short)) sent again)
            | inr out ↦ sent_derives s m t passed_on.added path order longer traitors sent facts.last (sender_below s t sent, out) faulty
          ]
    ]

-- ---- the run

pub no_raw_is_signed : NoRawIsSigned
no_raw_is_signed s ok no_raw = record {
  run_of_net = is_run s;
  follows = each_follows s ok;
  derivable = λ m h faulty. derives s ok no_raw (length m.path) m (omega arith) h faulty;
}
