-- The entries of a follower's log are those that he keeps.
use Rattle.std.proofs.Common.{◌≡◌, ◌<◌, inl, inr, ℕ, zero, suc, true, not, List, [], ◌∷◌, ◌++◌, map, Contains, refl, sym, ap, subst, ◌∙◌, arith, Option}
use Rattle.std.specs.List.{flat_map, range_with_len, list_any}
use Rattle.std.proofs.lemmas.Bool.{eqb-true, eq-eqb}
use Rattle.std.proofs.lemmas.List.Elements.{Contains-append_left, Contains-append_right, Contains-append_cases}
use Rattle.gen_types.specs.Ascending.{IsListOf}
use Rattle.gen_types.specs.Members.{filter_range_has, filter_range_gives, filter_range_ascending}
use Rattle.gen_types.proofs.Lists.{Contains_here, Contains_there, Contains_cases, Contains_nil, Contains_mapped, Contains_flat_mapped, Contains_filtered, Contains_range, Contains_in_range, ascending_one}
use Rattle.gen_net.specs.Network.{IsLoyal, rounds, choose}
use Rattle.gen_net.specs.Log.{LogEntry, Started, Signed, Sent, Received, Decided, IsEntry, Keeps}
use Rattle.gen_net.specs.declared.message.Message.{Message}
use Rattle.gen_net.specs.Run.{Arrives, Adds, Accepts}
use Rattle.gen_net.proofs.Neighbours.{joined_below}
use Rattle.gen_core.proofs.Decisions.{arrived_accepted}
use Rattle.gen_log.specs.declared.entries.Entry.{Entry}
use Rattle.gen_log.specs.declared.entries.Entry.TheVariants.{Start, Recv}
use Rattle.gen_chain.specs.Chain.{Chain, signed_path}
use Rattle.gen_scenario.proofs.HeardBy.{CountsAfter, Said, counted_facts, is_run, near_gives, near_has, of_said, said_of, turned}
use Rattle.gen_scenario.specs.WorldLogs.{FollowersKeep, entries_over, received, receives, decide_entry, log_with, logs_of, middle_of}
use Rattle.gen_scenario.specs.declared.heard.Heard.{Heard}
use Rattle.gen_scenario.specs.Scenario.{IsScenario, Scenario, header_of, scripted}
use Rattle.gen_scenario.proofs.FollowerRelays.{added_first, first_added, no_script}
use Rattle.gen_scenario.proofs.Conducts.{added_picked, picked_path}
use Rattle.gen_scenario.proofs.Having.{any_gives, any_has, in_filtered, in_flat, in_mapped, among_not, not_among, true_false}
use Rattle.gen_scenario.proofs.FollowerFrames.{are_signed, commanders_gives, commanders_has, follower_counts_gives, follower_counts_has, signed_gives, signed_has, signs_of}
use Rattle.gen_scenario.specs.WorldLaws.{conduct_of}
use Rattle.gen_scenario.specs.Counted.{counted_of}
use Rattle.gen_scenario.specs.SignedWorld.{delivery, heard_by, keys_of, message_to, messages_of, neighbours_of, own_order, sender_of}
use Rattle.gen_scenario.proofs.LogOrder.{entries_in_order, middle_in_order, recv_has, send_has, sends_loyal, sign_has, signs_loyal}
use Rattle.gen_log.specs.Entry.{erase}
use Rattle.gen_scenario.proofs.FirstHeard.{first_is, heard_in_order}
use Rattle.gen_scenario.specs.Frames.{frame_of, outside_of}
use Rattle.gen_scenario.specs.RoundEntries.{hides, in_order, recv_of, send_of, sign_of, sorted_by}
use Rattle.gen_scenario.proofs.Sorting.{in_order_gives, sorted_gives}
use Rattle.gen_types.specs.Ends.{is_among}
use Rattle.gen_scenario.specs.Signing.{lengthened, made}
use Rattle.gen_scenario.proofs.GoodChains.{lengthened_path, made_path}
use Rattle.gen_scenario.proofs.LogParts.{signs_in, sends_in, kept_from, signs_after, sends_after, recvs_after, entries_in, middle_in, middle_parts}
use Rattle.gen_scenario.proofs.ScriptsOf.{lines_of}
use Rattle.gen_scenario.proofs.WorldFollowers.{one_least}

-- who has no script has no lines
lines_none : (s : Scenario) (g : ℕ) → IsLoyal s.net (scripted s.scripts) g → lines_of s.scripts g ≡ []
lines_none s g loyal = rw (no_script s g loyal) refl

-- ---- entries by conduct

sent_entry : (s : Scenario) (g to order : ℕ) (path : List ℕ) → Contains (messages_of s) (record { from = g; to = to; order = order; path = path }) → IsEntry s.net (messages_of s) g (conduct_of s g) (Sent to order path)
sent_entry s zero to order path h = h
sent_entry s (suc g) to order path h = h

entry_sent : (s : Scenario) (g to order : ℕ) (path : List ℕ) → IsEntry s.net (messages_of s) g (conduct_of s g) (Sent to order path) → Contains (messages_of s) (record { from = g; to = to; order = order; path = path })
entry_sent s zero to order path h = h
entry_sent s (suc g) to order path h = h

received_entry : (s : Scenario) (g from order : ℕ) (path : List ℕ) → Contains (messages_of s) (record { from = from; to = g; order = order; path = path }) → IsEntry s.net (messages_of s) g (conduct_of s g) (Received from order path)
received_entry s zero from order path h = h
received_entry s (suc g) from order path h = h

entry_received : (s : Scenario) (g from order : ℕ) (path : List ℕ) → IsEntry s.net (messages_of s) g (conduct_of s g) (Received from order path) → Contains (messages_of s) (record { from = from; to = g; order = order; path = path })
entry_received s zero from order path h = h
entry_received s (suc g) from order path h = h

started_entry : (s : Scenario) (g : ℕ) → IsEntry s.net (messages_of s) g (conduct_of s g) (Started g (own_order s g))
started_entry s zero = (refl, refl)
started_entry s (suc g) = (refl, refl)

entry_started : (s : Scenario) (g h : ℕ) (own : Option ℕ) → IsEntry s.net (messages_of s) g (conduct_of s g) (Started h own) → (h ≡ g) × (own ≡ own_order s g)
entry_started s zero h own e = (e.0, e.1)
entry_started s (suc g) h own e = (e.0, e.1)

-- ---- from the log to the run

signed_entry : (s : Scenario) → IsScenario s → (g : ℕ) → IsLoyal s.net (scripted s.scripts) g → (j : ℕ) (c : Chain) → j < rounds s.net → Contains (signs_of s g j) c → IsEntry s.net (messages_of s) g (conduct_of s g) (Signed c.order (signed_path c.signers))
signed_entry s ok zero loyal j c low h =
    let p = commanders_has s (heard_by s j 0) j c h in
    (ap (λ (k : Chain). k.order) p.1, ap (λ (k : Chain). signed_path k.signers) p.1 ∙ made_path (keys_of s) s.order (0 ∷ []))
signed_entry s ok (suc g) loyal j c low h =
    let p = signed_has s (suc g) j c (λ e. absurd (omega (arith, e))) h in
    let f = first_is c.order (heard_by s j (suc g)) p.x (heard_in_order s j (suc g)) p.first in
    let both = first_added s (suc g) j c.order p.x loyal.0 (omega (arith, low)) f p.now in
    let q = added_picked s (suc g) j c.order loyal.0 both.0 in
    let same = one_least s.net (messages_of s) (is_run s) (suc g) j c.order (signed_path p.x.chain.signers) (signed_path q.x.chain.signers) both.1 q.least ∙ sym (picked_path s (suc g) j c.order q) in
    (j, low, both.0, ap (λ (k : Chain). signed_path k.signers) p.is ∙ lengthened_path (keys_of s) p.x.chain (suc g ∷ []) ∙ ap (λ (t : List ℕ). t ++ suc g ∷ []) same)

sent_message : (s : Scenario) → IsScenario s → (g : ℕ) → IsLoyal s.net (scripted s.scripts) g → (j to : ℕ) (c : Chain) → j < rounds s.net → Contains (neighbours_of s.net g) to → Contains (signs_of s g j) c → not (is_among (signed_path c.signers) to) ≡ true → Contains (messages_of s) (record { from = g; to = to; order = c.order; path = signed_path c.signers })
sent_message s ok g loyal j to c low near h out =
    let m : Message = record { from = g; to = to; order = c.order; path = signed_path c.signers } in
    let joined = near_has s.net g to near in
    let said : Said s m = record {
      before = j;
      in_time = low;
      to_known = joined_below s.net ok.network g to joined;
      chain = c;
      near = near_gives s.net ok.network to g (turned s.net g to joined);
      counts = follower_counts_gives s ok g j to c (no_script s g loyal) loyal.0 h (among_not (signed_path c.signers) to out);
      order_is = refl;
      path_is = refl;
    } in
    of_said s m said

heard_message : (s : Scenario) (g j : ℕ) (x : Heard) → g < s.net.generals → j < rounds s.net → Contains (neighbours_of s.net g) x.from → CountsAfter s j x.from g x.chain → Contains (messages_of s) (message_to g x)
heard_message s g j x known low near counts =
    let said : Said s (message_to g x) = record { before = j; in_time = low; to_known = known; chain = x.chain; near = near; counts = counts; order_is = refl; path_is = refl } in
    of_said s (message_to g x) said

entry_of_round : (s : Scenario) → IsScenario s → (g : ℕ) → IsLoyal s.net (scripted s.scripts) g → (j : ℕ) → j < rounds s.net → (e : Entry) → Contains (entries_in s g j) e → IsEntry s.net (messages_of s) g (conduct_of s g) (erase e)
entry_of_round s ok g loyal j low e h =
    let none = no_script s g loyal in
    elim (Contains-append_cases (signs_after s g j) (sends_after s g j ++ recvs_after s g j) e h) [
      | inl sign ↦ let k = sign_has s g j e none sign in subst (λ x. IsEntry s.net (messages_of s) g (conduct_of s g) (erase x)) k.2 (signed_entry s ok g loyal j k.0 low k.1)
      | inr other ↦ elim (Contains-append_cases (sends_after s g j) (recvs_after s g j) e other) [
        | inl send ↦ let k = send_has s g j e none send in subst (λ x. IsEntry s.net (messages_of s) g (conduct_of s g) (erase x)) k.is (sent_entry s g k.to k.chain.order (signed_path k.chain.signers) (sent_message s ok g loyal j k.to k.chain low k.near k.signed k.outside))
        | inr recv ↦ let k = recv_has s g j e recv in subst (λ x. IsEntry s.net (messages_of s) g (conduct_of s g) (erase x)) k.is (received_entry s g k.x.from k.x.chain.order (signed_path k.x.chain.signers) (heard_message s g j k.x loyal.0 low k.near k.counts))
      ]
    ]

in_middle : (s : Scenario) (g : ℕ) (e : Entry) → Contains (middle_in s g) e → (j : ℕ) × (j < rounds s.net) × Contains (entries_in s g j) e
unfolding middle_in
in_middle s g e h = let r = Contains_flat_mapped (entries_in s g) (range_with_len 0 (rounds s.net)) e h in (r.0, omega (arith, (Contains_range 0 (rounds s.net) r.0 r.1).1), r.2)

to_middle : (s : Scenario) (g j : ℕ) (e : Entry) → j < rounds s.net → Contains (entries_in s g j) e → Contains (middle_in s g) e
unfolding middle_in
to_middle s g j e low h = in_flat (entries_in s g) (range_with_len 0 (rounds s.net)) j e (Contains_in_range 0 (rounds s.net) j (omega arith) (omega arith)) h

-- ---- from the run to the log

sign_gives : (s : Scenario) → IsScenario s → (g : ℕ) → IsLoyal s.net (scripted s.scripts) g → (j : ℕ) (c : Chain) → Contains (signs_of s g j) c → Contains (entries_in s g j) (sign_of c)
unfolding signs_after
sign_gives s ok g loyal j c h =
    let all = are_signed s ok g j loyal.0 in
    let there : Contains (in_order s.net.orders (signs_in s g j)) c = rw (signs_loyal s g j (no_script s g loyal)) (in_order_gives s.net.orders (signs_of s g j) c all.once (all.good c h).verifies.0 h) in
    Contains-append_left (map sign_of (in_order s.net.orders (signs_in s g j))) (sends_after s g j ++ recvs_after s g j) (sign_of c) (in_mapped sign_of (in_order s.net.orders (signs_in s g j)) c there)

send_gives : (s : Scenario) → IsScenario s → (g : ℕ) → IsLoyal s.net (scripted s.scripts) g → (j to : ℕ) (c : Chain) → Contains (neighbours_of s.net g) to → Contains (signs_of s g j) c → not (is_among (signed_path c.signers) to) ≡ true → Contains (entries_in s g j) (send_of to c)
unfolding sends_after
send_gives s ok g loyal j to c near h out =
    let all = are_signed s ok g j loyal.0 in
    let ks = signs_of s g j in
    let inside : Contains (outside_of to ks) c = in_filtered (λ (k : Chain). not (is_among (signed_path k.signers) to)) ks c h out in
    let once : (a b : Chain) → Contains (outside_of to ks) a → Contains (outside_of to ks) b → a.order ≡ b.order → a ≡ b =
    λ a b ha hb e. all.once a b (Contains_filtered (λ (k : Chain). not (is_among (signed_path k.signers) to)) ks a ha).0 (Contains_filtered (λ (k : Chain). not (is_among (signed_path k.signers) to)) ks b hb).0 e in
    let there : Contains (in_order s.net.orders (sends_in s g j to)) c = rw (sends_loyal s g j to (no_script s g loyal)) (in_order_gives s.net.orders (outside_of to ks) c once (all.good c h).verifies.0 inside) in
    let mapped : Contains (map (send_of to) (in_order s.net.orders (sends_in s g j to))) (send_of to c) = in_mapped (send_of to) (in_order s.net.orders (sends_in s g j to)) c there in
    let sends : Contains (flat_map (λ t. map (send_of t) (in_order s.net.orders (sends_in s g j t))) (neighbours_of s.net g)) (send_of to c) = in_flat (λ t. map (send_of t) (in_order s.net.orders (sends_in s g j t))) (neighbours_of s.net g) to (send_of to c) near mapped in
    Contains-append_right (signs_after s g j) (flat_map (λ t. map (send_of t) (in_order s.net.orders (sends_in s g j t))) (neighbours_of s.net g) ++ recvs_after s g j) (send_of to c)
    (Contains-append_left (flat_map (λ t. map (send_of t) (in_order s.net.orders (sends_in s g j t))) (neighbours_of s.net g)) (recvs_after s g j) (send_of to c) sends)

kept_gives : (s : Scenario) (g : ℕ) → IsLoyal s.net (scripted s.scripts) g → (j from : ℕ) (c : Chain) → CountsAfter s j from g c → Contains (kept_from s g j from) c
unfolding kept_from
kept_gives s g loyal j from c counts =
    let low : c.order < s.net.orders = (counted_facts s j from g c counts).verifies.0 in
    let counted : List Chain = counted_of (header_of s) (delivery (suc j) from g) (frame_of (sender_of s from) (heard_by s j from) (suc j) g) in
    let shown : not (list_any (hides (suc j) from c.order) (lines_of s.scripts g)) ≡ true = rw (lines_none s g loyal) refl in
    in_filtered (λ (k : Chain). not (list_any (hides (suc j) from k.order) (lines_of s.scripts g))) (sorted_by (λ (k : Chain). k.order) s.net.orders counted) c
    (sorted_gives (λ (k : Chain). k.order) s.net.orders counted c counts low) shown

recv_gives : (s : Scenario) (g : ℕ) → IsLoyal s.net (scripted s.scripts) g → (j : ℕ) (x : Heard) → Contains (neighbours_of s.net g) x.from → CountsAfter s j x.from g x.chain → Contains (entries_in s g j) (recv_of x)
unfolding recvs_after
recv_gives s g loyal j x near counts =
    let all : List Entry = flat_map (λ from. map (Recv from) (kept_from s g j from)) (neighbours_of s.net g) in
    let mapped : Contains (map (Recv x.from) (kept_from s g j x.from)) (recv_of x) = in_mapped (Recv x.from) (kept_from s g j x.from) x.chain (kept_gives s g loyal j x.from x.chain counts) in
    let recvs : Contains all (recv_of x) = in_flat (λ from. map (Recv from) (kept_from s g j from)) (neighbours_of s.net g) x.from (recv_of x) near mapped in
    Contains-append_right (signs_after s g j) (sends_after s g j ++ all) (recv_of x) (Contains-append_right (sends_after s g j) all (recv_of x) recvs)

-- ---- decisions

-- a RECV of the log is a message that arrived
recv_arrived : (s : Scenario) (g : ℕ) → IsLoyal s.net (scripted s.scripts) g → (v : ℕ) (e : Entry) → Contains (middle_in s g) e → receives v e ≡ true → Accepts s.net (messages_of s) g v
recv_arrived s g loyal v e h t =
    let none = no_script s g loyal in
    let m = in_middle s g e h in
    let j = m.0 in
    elim (Contains-append_cases (signs_after s g j) (sends_after s g j ++ recvs_after s g j) e m.2) [
      | inl sign ↦ let k = sign_has s g j e none sign in absurd (let other : receives v (sign_of k.0) ≡ true = ap (receives v) k.2 ∙ t in true_false (receives v (sign_of k.0)) other refl)
      | inr rest ↦ elim (Contains-append_cases (sends_after s g j) (recvs_after s g j) e rest) [
        | inl send ↦ let k = send_has s g j e none send in absurd (let other : receives v (send_of k.to k.chain) ≡ true = ap (receives v) k.is ∙ t in true_false (receives v (send_of k.to k.chain)) other refl)
        | inr recv ↦
            let k = recv_has s g j e recv in
            let order : k.x.chain.order ≡ v = eqb-true _ _ (ap (receives v) k.is ∙ t) in
            arrived_accepted s.net (messages_of s) (is_run s) g v (message_to g k.x) (heard_message s g j k.x loyal.0 m.1 k.near k.counts) refl order
      ]
    ]

received_all : (s : Scenario) (g : ℕ) → IsLoyal s.net (scripted s.scripts) g → IsListOf (received s.net.orders (middle_in s g)) (Accepts s.net (messages_of s) g)
received_all s g loyal = record {
  ascending = filter_range_ascending (λ v. list_any (receives v) (middle_in s g)) 0 s.net.orders;
  members = λ v. (
    (λ h.
        let r = filter_range_has (λ v. list_any (receives v) (middle_in s g)) 0 s.net.orders v h in
        let k = any_has (receives v) (middle_in s g) r.2 in
        recv_arrived s g loyal v k.0 k.1 k.2),
    (λ a.
        let t : Message = a.2.arrives.0 in
        let came : Arrives (messages_of s) g a.0 t = a.2.arrives.1 in
        let said = said_of s t came.0.0 in
        let x : Heard = record { from = t.from; chain = said.chain } in
        let near : Contains (neighbours_of s.net g) t.from = subst (λ k. Contains (neighbours_of s.net k) t.from) came.1 said.near in
        let counts : CountsAfter s said.before t.from g said.chain = subst (λ k. CountsAfter s said.before t.from k said.chain) came.1 said.counts in
        let there = to_middle s g said.before (recv_of x) said.in_time (recv_gives s g loyal said.before x near counts) in
        let order : said.chain.order ≡ v = said.order_is ∙ a.2.arrives.2 in
        let low : said.chain.order < s.net.orders = (counted_facts s said.before t.from g said.chain counts).verifies.0 in
        filter_range_gives (λ v. list_any (receives v) (middle_in s g)) 0 s.net.orders v (omega arith) (omega (arith, low, order)) (any_gives (receives v) (middle_in s g) (recv_of x) there (eq-eqb _ _ order))),
  );
}

decided_entry : (s : Scenario) (g : ℕ) → IsLoyal s.net (scripted s.scripts) g → IsEntry s.net (messages_of s) g (conduct_of s g) (erase (decide_entry s.net (own_order s g) (middle_in s g)))
decided_entry s zero loyal = (refl, refl)
decided_entry s (suc g) loyal = (received_all s (suc g) loyal, refl)

-- ---- the whole log

abbrev Entries : Scenario → ℕ → List Entry
Entries s g = entries_over (sender_of s g) (middle_in s g)

entry_has : (s : Scenario) → IsScenario s → (g : ℕ) → IsLoyal s.net (scripted s.scripts) g → (e : Entry) → Contains (Entries s g) e → IsEntry s.net (messages_of s) g (conduct_of s g) (erase e)
entry_has s ok g loyal e h = elim (Contains_cases (Start g (own_order s g)) e (middle_in s g ++ decide_entry s.net (own_order s g) (middle_in s g) ∷ []) h) [
  | inl start ↦ subst (λ x. IsEntry s.net (messages_of s) g (conduct_of s g) (erase x)) start (started_entry s g)
  | inr rest ↦ elim (Contains-append_cases (middle_in s g) (decide_entry s.net (own_order s g) (middle_in s g) ∷ []) e rest) [
    | inl mid ↦ let m = in_middle s g e mid in entry_of_round s ok g loyal m.0 m.1 e m.2
    | inr end ↦ elim (Contains_cases (decide_entry s.net (own_order s g) (middle_in s g)) e [] end) [
      | inl last ↦ subst (λ x. IsEntry s.net (messages_of s) g (conduct_of s g) (erase x)) last (decided_entry s g loyal)
      | inr none ↦ absurd (Contains_nil e none)
    ]
  ]
]

from_middle : (s : Scenario) (g j : ℕ) (e : Entry) → j < rounds s.net → Contains (entries_in s g j) e → Contains (map erase (Entries s g)) (erase e)
from_middle s g j e low h =
    in_mapped erase (Entries s g) e (Contains_there (Start g (own_order s g)) e (middle_in s g ++ decide_entry s.net (own_order s g) (middle_in s g) ∷ []) (Contains-append_left (middle_in s g) (decide_entry s.net (own_order s g) (middle_in s g) ∷ []) e (to_middle s g j e low h)))

-- the chain that a SIGN is of
record SignedFor (s : Scenario) (g order : ℕ) (path : List ℕ) : Type 0 where
  j : ℕ
  low : j < rounds s.net
  c : Chain
  signed : Contains (signs_of s g j) c
  order_is : c.order ≡ order
  path_is : signed_path c.signers ≡ path

signed_for : (s : Scenario) → IsScenario s → (g : ℕ) → IsLoyal s.net (scripted s.scripts) g → (order : ℕ) (path : List ℕ) → IsEntry s.net (messages_of s) g (conduct_of s g) (Signed order path) → SignedFor s g order path
signed_for s ok zero loyal order path e = record {
  j = 0;
  low = omega (arith, ok.network.ranges.some_diameter);
  c = made (keys_of s) s.order (0 ∷ []);
  signed = commanders_gives s (heard_by s 0 0);
  order_is = sym e.0;
  path_is = made_path (keys_of s) s.order (0 ∷ []) ∙ sym e.1;
}
signed_for s ok (suc g) loyal order path e =
    let l = e.0 in
    let low : l < rounds s.net = e.1 in
    let adds : Adds (messages_of s) (suc g) l order = e.2 in
    let q = added_picked s (suc g) l order loyal.0 adds in
    let r = added_first s (suc g) l order (signed_path q.x.chain.signers) loyal.0 (omega (arith, low)) adds q.least in
    let f = first_is order (heard_by s l (suc g)) r.x (heard_in_order s l (suc g)) r.first in
    let order_low : order < s.net.orders = subst (λ v. v < s.net.orders) adds.arrives.2 (((is_run s).messages adds.arrives.0 adds.arrives.1.0.0).chain).order_known in
    record {
      j = l;
      low = low;
      c = lengthened (keys_of s) r.x.chain (suc g ∷ []);
      signed = signed_gives s (suc g) l order r.x (λ z. absurd (omega (arith, z))) order_low r.first r.now;
      order_is = f.order_is;
      path_is = lengthened_path (keys_of s) r.x.chain (suc g ∷ []) ∙ ap (λ (p : List ℕ). p ++ suc g ∷ []) (r.path_is ∙ sym (picked_path s (suc g) l order q)) ∙ sym e.3;
    }

decided_for : (s : Scenario) (g : ℕ) → IsLoyal s.net (scripted s.scripts) g → (orders : List ℕ) (order : ℕ) → IsEntry s.net (messages_of s) g (conduct_of s g) (Decided orders order) → erase (decide_entry s.net (own_order s g) (middle_in s g)) ≡ Decided orders order
decided_for s zero loyal orders order e = (λ i. Decided (sym e.0 i) (sym e.1 i))
decided_for s (suc g) loyal orders order e =
    let mine = received_all s (suc g) loyal in
    let theirs : IsListOf orders (Accepts s.net (messages_of s) (suc g)) = e.0 in
    let same : received s.net.orders (middle_in s (suc g)) ≡ orders = ascending_one (received s.net.orders (middle_in s (suc g))) orders mine.ascending theirs.ascending (λ v h. (theirs.members v).1 ((mine.members v).0 h)) (λ v h. (mine.members v).1 ((theirs.members v).0 h)) in
    ap (λ (vs : List ℕ). Decided vs (choose s.net vs)) same ∙ ap (λ (v : ℕ). Decided orders v) (sym e.1)

entry_gives : (s : Scenario) → IsScenario s → (g : ℕ) → IsLoyal s.net (scripted s.scripts) g → (e : LogEntry) → IsEntry s.net (messages_of s) g (conduct_of s g) e → Contains (map erase (Entries s g)) e
entry_gives s ok g loyal (Started h own) e =
    let p = entry_started s g h own e in
    let same : Started g (own_order s g) ≡ Started h own = (λ i. Started (sym p.0 i) (sym p.1 i)) in
    subst (λ x. Contains (map erase (Entries s g)) x) same (Contains_here (Started g (own_order s g)) (map erase (middle_in s g ++ decide_entry s.net (own_order s g) (middle_in s g) ∷ [])))
entry_gives s ok g loyal (Signed order path) e =
    let k = signed_for s ok g loyal order path e in
    let same : Signed k.c.order (signed_path k.c.signers) ≡ Signed order path = (λ i. Signed (k.order_is i) (k.path_is i)) in
    subst (λ x. Contains (map erase (Entries s g)) x) same (from_middle s g k.j (sign_of k.c) k.low (sign_gives s ok g loyal k.j k.c k.signed))
entry_gives s ok g loyal (Sent to order path) e =
    let m : Message = record { from = g; to = to; order = order; path = path } in
    let said = said_of s m (entry_sent s g to order path e) in
    let signed = follower_counts_has s ok g said.before to said.chain (no_script s g loyal) loyal.0 said.counts in
    let facts = counted_facts s said.before g to said.chain said.counts in
    let near = near_gives s.net ok.network g to (turned s.net to g (near_has s.net to g said.near)) in
    let same : Sent to said.chain.order (signed_path said.chain.signers) ≡ Sent to order path = (λ i. Sent to (said.order_is i) (said.path_is i)) in
    subst (λ x. Contains (map erase (Entries s g)) x) same (from_middle s g said.before (send_of to said.chain) said.in_time (send_gives s ok g loyal said.before to said.chain near signed (not_among (signed_path said.chain.signers) to facts.outside)))
entry_gives s ok g loyal (Received from order path) e =
    let m : Message = record { from = from; to = g; order = order; path = path } in
    let said = said_of s m (entry_received s g from order path e) in
    let x : Heard = record { from = from; chain = said.chain } in
    let same : Received from said.chain.order (signed_path said.chain.signers) ≡ Received from order path = (λ i. Received from (said.order_is i) (said.path_is i)) in
    subst (λ y. Contains (map erase (Entries s g)) y) same (from_middle s g said.before (recv_of x) said.in_time (recv_gives s g loyal said.before x said.near said.counts))
entry_gives s ok g loyal (Decided orders order) e =
    subst (λ x. Contains (map erase (Entries s g)) x) (decided_for s g loyal orders order e)
    (in_mapped erase (Entries s g) (decide_entry s.net (own_order s g) (middle_in s g)) (Contains_there (Start g (own_order s g)) (decide_entry s.net (own_order s g) (middle_in s g)) (middle_in s g ++ decide_entry s.net (own_order s g) (middle_in s g) ∷ []) (Contains-append_right (middle_in s g) (decide_entry s.net (own_order s g) (middle_in s g) ∷ []) (decide_entry s.net (own_order s g) (middle_in s g)) (Contains_here (decide_entry s.net (own_order s g) (middle_in s g)) []))))

keeps_all : (s : Scenario) → IsScenario s → (g : ℕ) → IsLoyal s.net (scripted s.scripts) g → Keeps s.net (messages_of s) g (conduct_of s g) (map erase (Entries s g))
keeps_all s ok g loyal = record {
  in_order = entries_in_order s ok g loyal.0 (middle_in s g) (middle_in_order s ok g loyal.0) (λ e h. h);
  entries = λ e. (
    (λ h.
        let k = Contains_mapped erase (Entries s g) e h in
        subst (IsEntry s.net (messages_of s) g (conduct_of s g)) k.2 (entry_has s ok g loyal k.0 k.1)),
    (λ h. entry_gives s ok g loyal e h),
  );
}

one_log : (s : Scenario) (g : ℕ) → IsLoyal s.net (scripted s.scripts) g → logs_of s g ≡ log_with (keys_of s) g (entries_over (sender_of s g) (middle_of s g)) ∷ []
one_log s g loyal = rw (no_script s g loyal) refl

pub followers_keep : FollowersKeep
followers_keep s ok g loyal = (
  log_with (keys_of s) g (entries_over (sender_of s g) (middle_of s g)),
  one_log s g loyal,
  subst (λ (mid : List Entry). Keeps s.net (messages_of s) g (conduct_of s g) (map erase (entries_over (sender_of s g) mid))) (sym (middle_parts s g)) (keeps_all s ok g loyal),
)
