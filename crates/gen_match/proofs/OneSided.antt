-- Messages that only one of two logs has, and their keys.
use Rattle.std.proofs.Common.{◌≡◌, ◌↔◌, ◌<◌, ◌≤◌, ◌%◌, ℕ, Bool, true, false, cond, IsTrue, inl, inr, List, [], ◌∷◌, ◌++◌, length, map, Contains, All, refl, sym, ap, ◌∙◌, subst, arith}
use Rattle.std.specs.List.{flat_map}
use Rattle.std.proofs.lemmas.List.{append-nil}
use Rattle.std.proofs.lemmas.List.Elements.{Contains-append_cases, Contains-append_left, Contains-append_right}
use Rattle.gen_types.specs.Ascending.{IsListOf}
use Rattle.gen_types.specs.Ends.{is_among}
use Rattle.gen_types.proofs.Among.{among_in, in_among, among_out, out_among}
use Rattle.gen_types.proofs.Lists.{Contains_here, Contains_nil, Contains_flat_mapped, bool_cases}
use Rattle.gen_core.proofs.OrderedLists.{in_flat_map, only}
use Rattle.gen_net.specs.Network.{Network, IsLoyal}
use Rattle.gen_net.specs.Log.{LogEntry, Started, Signed, Sent, Received, Decided}
use Rattle.gen_match.specs.declared.finding.Finding.{Finding}
use Rattle.gen_match.specs.declared.finding.Finding.TheVariants.{Unmatched}
use Rattle.gen_match.specs.declared.kinds.Kind.TheVariants.{OneSided}
use Rattle.gen_match.specs.declared.sides.Side.{Side}
use Rattle.gen_match.specs.declared.sides.Side.TheVariants.{Sender, Receiver}
use Rattle.gen_match.specs.Findings.{AreFindings}
use Rattle.gen_match.specs.Matching.{Logs, Logged, IsOneSided, IsUnmatched, FindsUnmatched}
use Rattle.gen_match.specs.Messages.{Counts, key_of, told_keys, rest_told, rank_lacked, one_sided}
use Rattle.gen_match.specs.Prefixes.{path_number}
use Rattle.gen_match.specs.Ranks.{rank_number, finding_at}
use Rattle.gen_match.specs.Rest.{IsSmall, AreSmall}
use Rattle.gen_match.proofs.Keys.{one_path}
use Rattle.gen_match.proofs.Ranked.{IsRank, IsRanked, StandsAt, ranked_found}
use Rattle.gen_match.proofs.Rest.{same_test, logged_in, over_in, over_out}

pub no_key : (counted : List ℕ) (other key : ℕ) (xs : List ℕ) (b : Bool) → (IsTrue b ↔ Contains counted other) → b ≡ false → xs ≡ xs ++ cond (is_among counted other) (key ∷ []) []
no_key counted other key xs b told f = sym (append-nil xs) ∙ ap (λ t. xs ++ cond t (key ∷ []) []) (sym (sym (same_test b counted other told) ∙ f))

pub no_rank : (others : List ℕ) (key : ℕ) (xs : List ℕ) (b : Bool) → b ≡ is_among others key → b ≡ true → xs ≡ xs ++ rank_lacked others key
no_rank others key xs b told t = sym (append-nil xs) ∙ ap (λ d. xs ++ cond d [] (key % 131072 ∷ [])) (sym (sym told ∙ t))

-- ---- a message on a side

-- who tells a message on a side, who is at its other end, and by which entry it is told
abbrev pub teller : Side → ℕ → ℕ → ℕ
teller Sender a b = a
teller Receiver a b = b

abbrev pub other_end : Side → ℕ → ℕ → ℕ
other_end Sender a b = b
other_end Receiver a b = a

abbrev pub entry_of : Side → ℕ → ℕ → ℕ → List ℕ → LogEntry
entry_of Sender a b v path = Sent b v path
entry_of Receiver a b v path = Received a v path

-- the log of its teller has the message
abbrev pub Tells : Logs → Side → ℕ → ℕ → ℕ → List ℕ → Type 0
Tells logs side a b v path = Logged logs (teller side a b) (entry_of side a b v path)

-- the numbers of a message
pub record IsMessage (a b v : ℕ) (path : List ℕ) : Type 0 where
  pub from_small : a < 16
  pub to_small : b < 16
  pub order_small : v < 16
  pub few : length path ≤ 16
  pub digits : All (λ g. g < 16) path

rank_below : (a b v : ℕ) (path : List ℕ) → IsMessage a b v path → rank_number a b (length path) v < 131072
rank_below a b v path m = omega (arith, m.from_small, m.to_small, m.order_small, m.few)

rank_of_key : (a b v : ℕ) (path : List ℕ) → IsMessage a b v path → key_of a b v path % 131072 ≡ rank_number a b (length path) v
rank_of_key a b v path m = omega (arith, rank_below a b v path m)

is_rank : (a b v : ℕ) (path : List ℕ) → IsMessage a b v path → IsRank a b (length path) v
is_rank a b v path m = record { from_small = m.from_small; to_small = m.to_small; round_small = omega (arith, m.few); order_small = m.order_small }

-- a key is that of one message
record IsSame (a b v : ℕ) (path : List ℕ) (c d w : ℕ) (other : List ℕ) : Type 0 where
  from : c ≡ a
  to : d ≡ b
  order : w ≡ v
  signers : other ≡ path

one_message : (a b v : ℕ) (path : List ℕ) (c d w : ℕ) (other : List ℕ) → IsMessage a b v path → IsMessage c d w other → key_of a b v path ≡ key_of c d w other → IsSame a b v path c d w other
one_message a b v path c d w other m n e =
    let number : path_number other ≡ path_number path = omega (arith, e, rank_below a b v path m, rank_below c d w other n) in
    let same : other ≡ path = one_path other path n.digits m.digits number in
    let ranks : rank_number c d (length other) w ≡ rank_number a b (length path) v = omega (arith, e, number) in
    let long : length other ≡ length path = ap length same in
    let order : w ≡ v = omega (arith, ranks, m.order_small, n.order_small, long) in
    let to : d ≡ b = omega (arith, ranks, m.to_small, n.to_small, long, order) in
    record { from = omega (arith, ranks, long, order, to); to = to; order = order; signers = same }

-- ---- the keys of a side

-- the counted generals
abbrev pub IsCounted : Network → List ℕ → Logs → List ℕ → Type 0
IsCounted net faulty logs counted = IsListOf counted (λ g. (g < net.generals) × Counts faulty logs g)

told_here : (side : Side) (counted : List ℕ) (a b v : ℕ) (path : List ℕ) → Contains counted (other_end side a b) → Contains (told_keys side counted (teller side a b) (entry_of side a b v path)) (key_of a b v path)
told_here Sender counted a b v path h = rw (in_among counted b h) (Contains_here (key_of a b v path) [])
told_here Receiver counted a b v path h = rw (in_among counted a h) (Contains_here (key_of a b v path) [])

loyal : (net : Network) (faulty : List ℕ) (logs : Logs) (counted : List ℕ) (g : ℕ) → IsCounted net faulty logs counted → Contains counted g → IsLoyal net faulty g
loyal net faulty logs counted g are h = let c = (are.members g).0 h in (c.0, c.1.0)

teller_counted : (side : Side) (counted : List ℕ) (a b : ℕ) → Contains counted a → Contains counted b → Contains counted (teller side a b) × Contains counted (other_end side a b)
teller_counted Sender counted a b ha hb = (ha, hb)
teller_counted Receiver counted a b ha hb = (hb, ha)

key_in : (side : Side) (net : Network) (faulty : List ℕ) (logs : Logs) (counted : List ℕ) (a b v : ℕ) (path : List ℕ) → IsCounted net faulty logs counted → Contains counted a → Contains counted b → Tells logs side a b v path → Contains (rest_told side counted net faulty logs) (key_of a b v path)
key_in side net faulty logs counted a b v path are ha hb tells =
    let both = teller_counted side counted a b ha hb in
    over_in (told_keys side counted) net faulty logs (teller side a b) (entry_of side a b v path) (key_of a b v path) (loyal net faulty logs counted (teller side a b) are both.0) tells (told_here side counted a b v path both.1)

-- of which message of an entry a key is
record IsToldKey (side : Side) (counted : List ℕ) (g : ℕ) (e : LogEntry) (k : ℕ) : Type 0 where
  from : ℕ
  to : ℕ
  v : ℕ
  path : List ℕ
  who : g ≡ teller side from to
  is : e ≡ entry_of side from to v path
  other : Contains counted (other_end side from to)
  key : k ≡ key_of from to v path

told_out : (side : Side) (counted : List ℕ) (g : ℕ) (e : LogEntry) (k : ℕ) → Contains (told_keys side counted g e) k → IsToldKey side counted g e k
told_out Sender counted g (Sent to v path) k h = elim (bool_cases (is_among counted to)) [
  | inl t ↦ record { from = g; to = to; v = v; path = path; who = refl; is = refl; other = among_in counted to t; key = sym (only (key_of g to v path) k (subst (λ b. Contains (cond b (key_of g to v path ∷ []) []) k) t h)) }
  | inr f ↦ absurd (Contains_nil k (subst (λ b. Contains (cond b (key_of g to v path ∷ []) []) k) f h))
]
told_out Receiver counted g (Received from v path) k h = elim (bool_cases (is_among counted from)) [
  | inl t ↦ record { from = from; to = g; v = v; path = path; who = refl; is = refl; other = among_in counted from t; key = sym (only (key_of from g v path) k (subst (λ b. Contains (cond b (key_of from g v path ∷ []) []) k) t h)) }
  | inr f ↦ absurd (Contains_nil k (subst (λ b. Contains (cond b (key_of from g v path ∷ []) []) k) f h))
]
told_out Sender counted g (Received from v path) k h = absurd (Contains_nil k h)
told_out Receiver counted g (Sent to v path) k h = absurd (Contains_nil k h)
told_out Sender counted g (Started general own) k h = absurd (Contains_nil k h)
told_out Sender counted g (Signed v path) k h = absurd (Contains_nil k h)
told_out Sender counted g (Decided vs v) k h = absurd (Contains_nil k h)
told_out Receiver counted g (Started general own) k h = absurd (Contains_nil k h)
told_out Receiver counted g (Signed v path) k h = absurd (Contains_nil k h)
told_out Receiver counted g (Decided vs v) k h = absurd (Contains_nil k h)

-- of which message between counted generals a key of a side is
record IsKey (side : Side) (net : Network) (faulty : List ℕ) (logs : Logs) (counted : List ℕ) (k : ℕ) : Type 0 where
  from : ℕ
  to : ℕ
  v : ℕ
  path : List ℕ
  from_counted : Contains counted from
  to_counted : Contains counted to
  message : IsMessage from to v path
  tells : Tells logs side from to v path
  key : k ≡ key_of from to v path

both_counted : (side : Side) (counted : List ℕ) (a b : ℕ) → Contains counted (teller side a b) → Contains counted (other_end side a b) → Contains counted a × Contains counted b
both_counted Sender counted a b h i = (h, i)
both_counted Receiver counted a b h i = (i, h)

message_of : (side : Side) (a b v : ℕ) (path : List ℕ) → a < 16 → b < 16 → IsSmall (entry_of side a b v path) → IsMessage a b v path
message_of Sender a b v path la lb s = record { from_small = la; to_small = lb; order_small = s.0; few = s.1; digits = s.2 }
message_of Receiver a b v path la lb s = record { from_small = la; to_small = lb; order_small = s.1; few = s.2; digits = s.3 }

counted_small : (net : Network) (faulty : List ℕ) (logs : Logs) (counted : List ℕ) (g : ℕ) → IsCounted net faulty logs counted → net.generals ≤ 16 → Contains counted g → g < 16
counted_small net faulty logs counted g are few h = omega (arith, ((are.members g).0 h).0, few)

key_out : (side : Side) (net : Network) (faulty : List ℕ) (logs : Logs) (counted : List ℕ) (k : ℕ) → net.generals ≤ 16 → IsCounted net faulty logs counted → AreSmall net faulty logs net.generals → Contains (rest_told side counted net faulty logs) k → IsKey side net faulty logs counted k
key_out side net faulty logs counted k few are small h =
    let r = over_out (told_keys side counted) net faulty logs k small h in
    let t = told_out side counted r.general r.entry k r.its in
    let tells : Tells logs side t.from t.to t.v t.path = subst (λ g. Logged logs g (entry_of side t.from t.to t.v t.path)) t.who (subst (Logged logs r.general) t.is r.logged) in
    let of_rest : IsLoyal net faulty (teller side t.from t.to) = subst (IsLoyal net faulty) t.who r.of_rest in
    let here : Contains counted (teller side t.from t.to) = (are.members (teller side t.from t.to)).1 (of_rest.0, (of_rest.1, (tells.0, tells.1))) in
    let both = both_counted side counted t.from t.to here t.other in
    record {
      from = t.from;
      to = t.to;
      v = t.v;
      path = t.path;
      from_counted = both.0;
      to_counted = both.1;
      message = message_of side t.from t.to t.v t.path (counted_small net faulty logs counted t.from are few both.0) (counted_small net faulty logs counted t.to are few both.1) (subst IsSmall t.is r.small);
      tells = tells;
      key = t.key;
    }

moved : (logs : Logs) (side : Side) (a b v : ℕ) (path : List ℕ) (c d w : ℕ) (other : List ℕ) → IsSame a b v path c d w other → Tells logs side c d w other → Tells logs side a b v path
moved logs side a b v path c d w other same t =
    subst (λ x. Tells logs side x b v path) same.from
    (subst (λ x. Tells logs side c x v path) same.to
    (subst (λ x. Tells logs side c d x path) same.order
    (subst (Tells logs side c d w) same.signers t)))

-- so a message has its key on a side exactly where it is told there
told_key : (side : Side) (net : Network) (faulty : List ℕ) (logs : Logs) (counted : List ℕ) (a b v : ℕ) (path : List ℕ) → net.generals ≤ 16 → IsCounted net faulty logs counted → AreSmall net faulty logs net.generals → IsMessage a b v path → Contains (rest_told side counted net faulty logs) (key_of a b v path) → Tells logs side a b v path
told_key side net faulty logs counted a b v path few are small m h =
    let k = key_out side net faulty logs counted (key_of a b v path) few are small h in
    moved logs side a b v path k.from k.to k.v k.path (one_message a b v path k.from k.to k.v k.path m k.message k.key) k.tells

-- ---- the ranks of what one side alone has

lacked_out : (keys others : List ℕ) (r : ℕ) → Contains (flat_map (rank_lacked others) keys) r → (k : ℕ) × Contains keys k × (Contains others k → ⊥) × (r ≡ k % 131072)
lacked_out keys others r h =
    let m = Contains_flat_mapped (rank_lacked others) keys r h in
    elim (bool_cases (is_among others m.0)) [
      | inl t ↦ absurd (Contains_nil r (subst (λ b. Contains (cond b [] (m.0 % 131072 ∷ [])) r) t m.2))
      | inr f ↦ (m.0, m.1, among_out others m.0 f, sym (only (m.0 % 131072) r (subst (λ b. Contains (cond b [] (m.0 % 131072 ∷ [])) r) f m.2)))
    ]

lacked_in : (keys others : List ℕ) (k : ℕ) → Contains keys k → (Contains others k → ⊥) → Contains (flat_map (rank_lacked others) keys) (k % 131072)
lacked_in keys others k h none = in_flat_map (rank_lacked others) keys k (k % 131072) h (rw (out_among others k none) (Contains_here (k % 131072) []))

-- the message that one side tells and the other doesn't
abbrev other_side : Side → Side
other_side Sender = Receiver
other_side Receiver = Sender

abbrev IsTold : Logs → Side → ℕ → ℕ → ℕ → List ℕ → Type 0
IsTold logs side a b v path = Tells logs side a b v path × (Tells logs (other_side side) a b v path → ⊥)

one : (logs : Logs) (side : Side) (a b v : ℕ) (path : List ℕ) → IsTold logs side a b v path → IsOneSided logs a b v path
one logs Sender a b v path t = inl t
one logs Receiver a b v path t = inr t

-- the keys of one side, and of the other
record AreSides (side : Side) (net : Network) (faulty : List ℕ) (logs : Logs) (counted keys others : List ℕ) : Type 0 where
  few : net.generals ≤ 16
  are : IsCounted net faulty logs counted
  small : AreSmall net faulty logs net.generals
  keys_are : IsListOf keys (Contains (rest_told side counted net faulty logs))
  others_are : IsListOf others (Contains (rest_told (other_side side) counted net faulty logs))

-- a rank that the other side lacks is that of an unmatched message
rank_out : (side : Side) (net : Network) (faulty : List ℕ) (logs : Logs) (counted keys others : List ℕ) (r : ℕ) → AreSides side net faulty logs counted keys others → Contains (flat_map (rank_lacked others) keys) r → IsRanked OneSided (FindsUnmatched net faulty logs) r
rank_out side net faulty logs counted keys others r s h =
    let l = lacked_out keys others r h in
    let k = key_out side net faulty logs counted l.0 s.few s.are s.small ((s.keys_are.members l.0).0 l.1) in
    let ca = (s.are.members k.from).0 k.from_counted in
    let cb = (s.are.members k.to).0 k.to_counted in
    let nowhere : Tells logs (other_side side) k.from k.to k.v k.path → ⊥ = λ t. l.2 ((s.others_are.members l.0).1 (subst (Contains (rest_told (other_side side) counted net faulty logs)) (sym k.key) (key_in (other_side side) net faulty logs counted k.from k.to k.v k.path s.are k.from_counted k.to_counted t))) in
    let it : IsUnmatched net faulty logs k.from k.to (length k.path) k.v = record {
      from_rest = (ca.0, ca.1.0);
      from_log = ca.1.1;
      to_rest = (cb.0, cb.1.0);
      to_log = cb.1.1;
      path = k.path;
      round = refl;
      one_sided = one logs side k.from k.to k.v k.path (k.tells, nowhere);
    } in
    record {
      from = k.from;
      to = k.to;
      round = length k.path;
      order = k.v;
      small = is_rank k.from k.to k.v k.path k.message;
      rank = l.3 ∙ ap (λ n. n % 131072) k.key ∙ rank_of_key k.from k.to k.v k.path k.message;
      holds = it;
    }

-- and the other way round
rank_in : (side : Side) (net : Network) (faulty : List ℕ) (logs : Logs) (counted keys others : List ℕ) (a b v : ℕ) (path : List ℕ) → AreSides side net faulty logs counted keys others → Contains counted a → Contains counted b → IsMessage a b v path → IsTold logs side a b v path → Contains (flat_map (rank_lacked others) keys) (rank_number a b (length path) v)
rank_in side net faulty logs counted keys others a b v path s ha hb m told =
    subst (Contains (flat_map (rank_lacked others) keys)) (rank_of_key a b v path m)
    (lacked_in keys others (key_of a b v path) ((s.keys_are.members (key_of a b v path)).1 (key_in side net faulty logs counted a b v path s.are ha hb told.0))
    (λ h. told.1 (told_key (other_side side) net faulty logs counted a b v path s.few s.are s.small m ((s.others_are.members (key_of a b v path)).0 h))))

-- what is told has small numbers
message_told : (side : Side) (net : Network) (faulty : List ℕ) (logs : Logs) (counted : List ℕ) (a b v : ℕ) (path : List ℕ) → net.generals ≤ 16 → IsCounted net faulty logs counted → AreSmall net faulty logs net.generals → Contains counted a → Contains counted b → Tells logs side a b v path → IsMessage a b v path
message_told side net faulty logs counted a b v path few are small ha hb t =
    let of_rest = loyal net faulty logs counted (teller side a b) are (teller_counted side counted a b ha hb).0 in
    message_of side a b v path (counted_small net faulty logs counted a are few ha) (counted_small net faulty logs counted b are few hb)
    (small (teller side a b) (entry_of side a b v path) of_rest.0 (logged_in net faulty logs (teller side a b) (entry_of side a b v path) of_rest t))

stands : (net : Network) (faulty : List ℕ) (logs : Logs) (counted sent received ranks : List ℕ) (f : Finding) → AreSides Sender net faulty logs counted sent received → AreSides Receiver net faulty logs counted received sent → IsListOf ranks (Contains (one_sided sent received)) → FindsUnmatched net faulty logs f → StandsAt OneSided ranks f
stands net faulty logs counted sent received ranks (Unmatched a b l v) s r all u =
    let ha : Contains counted a = (s.are.members a).1 (u.from_rest.0, (u.from_rest.1, u.from_log)) in
    let hb : Contains counted b = (s.are.members b).1 (u.to_rest.0, (u.to_rest.1, u.to_log)) in
    let at : IsMessage a b v u.path × Contains (one_sided sent received) (rank_number a b (length u.path) v) = elim u.one_sided [
      | inl t ↦
          let m = message_told Sender net faulty logs counted a b v u.path s.few s.are s.small ha hb t.0 in
          (m, Contains-append_left (flat_map (rank_lacked received) sent) (flat_map (rank_lacked sent) received) (rank_number a b (length u.path) v) (rank_in Sender net faulty logs counted sent received a b v u.path s ha hb m t))
      | inr t ↦
          let m = message_told Receiver net faulty logs counted a b v u.path s.few s.are s.small ha hb t.0 in
          (m, Contains-append_right (flat_map (rank_lacked received) sent) (flat_map (rank_lacked sent) received) (rank_number a b (length u.path) v) (rank_in Receiver net faulty logs counted received sent a b v u.path r ha hb m t))
    ] in
    record {
      from = a;
      to = b;
      round = length u.path;
      order = v;
      small = is_rank a b v u.path at.0;
      is = ap (λ n. Unmatched a b n v) (sym u.round);
      stands = (all.members (rank_number a b (length u.path) v)).1 at.1;
    }
stands net faulty logs counted sent received ranks _ s r all h = absurd h

pub unmatched_found : (net : Network) (faulty : List ℕ) (logs : Logs) (counted sent received ranks : List ℕ) → net.generals ≤ 16 → IsCounted net faulty logs counted → AreSmall net faulty logs net.generals
    → IsListOf sent (Contains (rest_told Sender counted net faulty logs)) → IsListOf received (Contains (rest_told Receiver counted net faulty logs)) → IsListOf ranks (Contains (one_sided sent received))
    → AreFindings (FindsUnmatched net faulty logs) (map (finding_at OneSided) ranks)
unmatched_found net faulty logs counted sent received ranks few are small sent_are received_are all =
    let s : AreSides Sender net faulty logs counted sent received = record { few = few; are = are; small = small; keys_are = sent_are; others_are = received_are } in
    let r : AreSides Receiver net faulty logs counted received sent = record { few = few; are = are; small = small; keys_are = received_are; others_are = sent_are } in
    ranked_found OneSided (FindsUnmatched net faulty logs) ranks all.ascending
    (λ k h. elim (Contains-append_cases (flat_map (rank_lacked received) sent) (flat_map (rank_lacked sent) received) k ((all.members k).0 h)) [
      | inl t ↦ rank_out Sender net faulty logs counted sent received k s t
      | inr t ↦ rank_out Receiver net faulty logs counted received sent k r t
    ])
    (λ f h. stands net faulty logs counted sent received ranks f s r all h)
