-- A world grows round by round.
use Rattle.std.proofs.Common.{◌≡◌, ◌≢◌, ℕ, ◌+◌, ◌<◌, ◌≤◌, ◌↔◌, inl, inr, List, [], ◌∷◌, ◌++◌, length, Contains, refl, sym, ap, ◌∙◌, subst, arith, length-append}
use Rattle.std.proofs.lemmas.Bool.{cases_eq}
use Rattle.std.proofs.lemmas.List.Elements.{All-nil, All-push, Contains-append_left, Contains-append_right, Contains-append_cases, Contains-get_or}
use Rattle.std.proofs.lemmas.List.Quantifiers.{all_pairs_push}
use Rattle.gen_types.proofs.Lists.{Contains_cases, Contains_nil}
use Rattle.gen_net.specs.Network.{Network, rounds, AreNeighbours, IsNetwork}
use Rattle.gen_net.specs.declared.message.Message.{Message}
use Rattle.gen_net.specs.Run.{Run, IsSent, IsWellFormed, IsRun}
use Rattle.gen_net.specs.Follows.{CommanderFollows}
use Rattle.gen_core.specs.Seeing.{Lieutenant, HasSeen, IsFromLeast}
use Rattle.gen_scenario.specs.World.{IsRelay, IsWorld}
use Rattle.gen_scenario.proofs.Same.{SameTo, turned, arrives_over, relay_over}

-- the messages of the world's first n rounds
pub record WorldTo (net : Network) (order : ℕ) (run : Run) (n : ℕ) : Type 0 where
  pub run_of_net : IsRun net run
  pub up_to : (t : Message) → Contains run t → length t.path ≤ n
  pub commander : CommanderFollows net run order
  pub silent : (g : ℕ) → g < net.generals → g ≢ 0 → (t : Message) → IsSent run 1 t → t.from ≢ g
  pub sends : (g : ℕ) → g < net.generals → g ≢ 0 → (l : ℕ) (t : Message) → 0 < l → l < n → l < rounds net → t.from ≡ g → IsSent run (l + 1) t ↔ IsRelay net run g l t

-- what is sent in round n + 1
pub record IsNextRelay (net : Network) (run : Run) (n : ℕ) (t : Message) : Type 0 where
  pub general : t.from < net.generals
  pub lieutenant : t.from ≢ 0
  pub in_time : n < rounds net
  pub relay : IsRelay net run t.from n t

abbrev pub AreNext : Network → Run → ℕ → List Message → Type 0
AreNext net run n new = (t : Message) → Contains new t ↔ IsNextRelay net run n t

-- the ends of an edge are two generals
pub edge_facts : (net : Network) → IsNetwork net → (a b : ℕ) → AreNeighbours net a b → (a < net.generals) × (b < net.generals) × (a ≢ b)
edge_facts net ok a b joined = elim joined [
  | inl h ↦ let r = ok.edges.inside a b h in (omega (arith, r.0, r.1), r.1, λ e. absurd (omega (arith, r.0, e)))
  | inr h ↦ let r = ok.edges.inside b a h in (r.1, omega (arith, r.0, r.1), λ e. absurd (omega (arith, r.0, e)))
]

-- once all rounds are there it is the world
pub world_of : (net : Network) (order : ℕ) (run : Run) (n : ℕ) → rounds net ≤ n → WorldTo net order run n → IsWorld net order run
world_of net order run n all w = record {
  run_of_net = w.run_of_net;
  commander = w.commander;
  lieutenants = λ g known ne. record {
    silent = w.silent g known ne;
    sends = λ l t pos lt from. w.sends g known ne l t pos (omega arith) lt from;
  };
}

relay_length : (net : Network) (run : Run) (g n : ℕ) (t : Message) → IsRelay net run g n t → length t.path ≡ n + 1
relay_length net run g n t r =
    let one : length t.path ≡ length r.picked + 1 = ap length r.longer ∙ length-append r.picked (g ∷ []) in
    let before : length r.picked ≡ n = r.least.arrives.0.1 in
    omega arith

relay_message : (net : Network) (run : Run) (n : ℕ) (t : Message) → IsRun net run → IsNextRelay net run n t → IsWellFormed net t
relay_message net run n t ok next =
    let r = next.relay in
    let was : IsWellFormed net (record { from = r.least.from; to = t.from; order = t.order; path = r.picked }) = ok.messages (record { from = r.least.from; to = t.from; order = t.order; path = r.picked }) r.least.arrives.0.0 in
    record {
      on_edge = r.neighbour;
      chain = record {
        order_known = was.chain.order_known;
        generals_known = rw r.longer (All-push (λ g. g < net.generals) r.picked t.from was.chain.generals_known next.general);
        distinct = rw r.longer (all_pairs_push (λ g h. g ≢ h) r.picked t.from was.chain.distinct (λ k d l e. was.outside (subst (λ w. Contains r.picked w) e (Contains-get_or r.picked k d l))));
        from_commander = (was.chain.from_commander.0 ++ t.from ∷ [], r.longer ∙ ap (λ p. p ++ t.from ∷ []) was.chain.from_commander.1);
      };
      in_time = omega (arith, relay_length net run t.from n t r, next.in_time);
      signer = (r.picked, r.longer);
      outside = r.outside;
    }

-- what is relayed in one round with one order is one chain
one_picked : (net : Network) (run : Run) (g n v : ℕ) (p q : List ℕ) → IsRun net run → IsFromLeast run g n v p → IsFromLeast run g n v q → p ≡ q
one_picked net run g n v p q ok a b =
    let first : Message = record { from = a.from; to = g; order = v; path = p } in
    let second : Message = record { from = b.from; to = g; order = v; path = q } in
    let one : a.from ≤ b.from = a.least second b.arrives refl in
    let two : b.from ≤ a.from = b.least first a.arrives refl in
    let e : a.from ≡ b.from = omega arith in
    let same : first ≡ second = ok.once n first second a.arrives.0 b.arrives.0 e refl refl in
    ap (λ (t : Message). t.path) same

same_message : (t u : Message) → t.from ≡ u.from → t.to ≡ u.to → t.order ≡ u.order → t.path ≡ u.path → t ≡ u
same_message t u a b c d = λ i. record { from = a i; to = b i; order = c i; path = d i }

same_relay : (net : Network) (run : Run) (n : ℕ) (t u : Message) → IsRun net run → IsRelay net run t.from n t → IsRelay net run u.from n u → t.from ≡ u.from → t.to ≡ u.to → t.order ≡ u.order → t ≡ u
same_relay net run n t u ok a b from to order =
    let mine : IsFromLeast run u.from n u.order a.picked = subst (λ g. IsFromLeast run g n u.order a.picked) from (subst (λ v. IsFromLeast run t.from n v a.picked) order a.least) in
    let picked : a.picked ≡ b.picked = one_picked net run u.from n u.order a.picked b.picked ok mine b.least in
    same_message t u from to order (a.longer ∙ (ap (λ p. p ++ t.from ∷ []) picked ∙ (ap (λ g. b.picked ++ g ∷ []) from ∙ sym b.longer)))

pub same_before : (net : Network) (run new : Run) (n : ℕ) → AreNext net run n new → SameTo run (run ++ new) n
same_before net run new n next t le = (
  (λ h. Contains-append_left run new t h),
  (λ h. elim (Contains-append_cases run new t h) [
    | inl old ↦ old
    | inr late ↦ let r = (next t).0 late in absurd (omega (arith, relay_length net run t.from n t r.relay))
  ]),
)

pub world_more : (net : Network) (order : ℕ) (run new : Run) (n : ℕ) → WorldTo net order run n → AreNext net run n new → 0 < n → WorldTo net order (run ++ new) (n + 1)
world_more net order run new n w next pos =
    let same : SameTo run (run ++ new) n = same_before net run new n next in
    let late : (t : Message) → Contains new t → length t.path ≡ n + 1 = λ t h. relay_length net run t.from n t ((next t).0 h).relay in
    record {
      run_of_net = record {
        messages = λ t h. elim (Contains-append_cases run new t h) [
          | inl old ↦ w.run_of_net.messages t old
          | inr k ↦ relay_message net run n t w.run_of_net ((next t).0 k)
        ];
        once = λ l t u st su from to order'. elim (Contains-append_cases run new t st.0) [
          | inl old ↦ elim (Contains-append_cases run new u su.0) [
            | inl old' ↦ w.run_of_net.once l t u (old, st.1) (old', su.1) from to order'
            | inr k ↦ absurd (omega (arith, w.up_to t old, late u k, st.1, su.1))
          ]
          | inr k ↦ elim (Contains-append_cases run new u su.0) [
            | inl old' ↦ absurd (omega (arith, w.up_to u old', late t k, st.1, su.1))
            | inr k' ↦ same_relay net run n t u w.run_of_net ((next t).0 k).relay ((next u).0 k').relay from to order'
          ]
        ];
      };
      up_to = λ t h. elim (Contains-append_cases run new t h) [ inl old ↦ omega (arith, w.up_to t old) | inr k ↦ omega (arith, late t k) ];
      commander = record {
        order_known = w.commander.order_known;
        sends = λ t e. (
          (λ h. elim (Contains-append_cases run new t h) [ inl old ↦ (w.commander.sends t e).0 old | inr k ↦ absurd (((next t).0 k).lieutenant e) ]),
          (λ h. Contains-append_left run new t ((w.commander.sends t e).1 h)),
        );
      };
      silent = λ g known ne t sent. elim (Contains-append_cases run new t sent.0) [
        | inl old ↦ w.silent g known ne t (old, sent.1)
        | inr k ↦ absurd (omega (arith, late t k, sent.1))
      ];
      sends = λ g known ne l t lpos lt in_time from. elim (cases_eq l n) [
        | inr before ↦ (
          (λ sent. relay_over net run (run ++ new) n same g l t (omega arith) ((w.sends g known ne l t lpos (omega arith) in_time from).0 ((same t (omega (arith, sent.1))).1 sent.0, sent.1))),
          (λ relay. let s = (w.sends g known ne l t lpos (omega arith) in_time from).1 (relay_over net (run ++ new) run n (turned run (run ++ new) n same) g l t (omega arith) relay) in (Contains-append_left run new t s.0, s.1)),
        )
        | inl now ↦ (
          (λ sent. elim (Contains-append_cases run new t sent.0) [
            | inl old ↦ absurd (omega (arith, w.up_to t old, sent.1))
            | inr k ↦ relay_over net run (run ++ new) n same g l t (omega arith) (subst (λ h. IsRelay net run h l t) from (subst (λ j. IsRelay net run t.from j t) (sym now) ((next t).0 k).relay))
          ]),
          (λ relay.
              let back : IsRelay net run g l t = relay_over net (run ++ new) run n (turned run (run ++ new) n same) g l t (omega arith) relay in
              let mine : IsRelay net run t.from n t = subst (λ h. IsRelay net run h n t) (sym from) (subst (λ j. IsRelay net run g j t) now back) in
              let k : Contains new t = (next t).1 (record { general = rw from known; lieutenant = λ e. ne (sym from ∙ e); in_time = rw (← now) in_time; relay = mine }) in
              (Contains-append_right run new t k, relay_length net run g l t back)),
        )
      ];
    }

-- what he has seen he has seen of the longer run too
pub seen_longer : (net : Network) (order : ℕ) (run new : Run) (n : ℕ) (state : Lieutenant) → WorldTo net order run n → AreNext net run n new → 0 < n → state.gone ≡ n → HasSeen net run state → HasSeen net (run ++ new) state
seen_longer net order run new n state w next pos gone saw =
    let same : SameTo run (run ++ new) n = same_before net run new n next in
    record {
      run_of_net = (world_more net order run new n w next pos).run_of_net;
      few_orders = saw.few_orders;
      rounds = saw.rounds;
      choice = saw.choice;
      known = record {
        ascending = saw.known.ascending;
        members = λ v. (
          (λ h. let k = (saw.known.members v).0 h in (k.0, k.1, (k.2.0, arrives_over run (run ++ new) n same state.me k.0 k.2.0 (omega (arith, k.1)) k.2.1, k.2.2))),
          (λ h. (saw.known.members v).1 (h.0, h.1, (h.2.0, arrives_over (run ++ new) run n (turned run (run ++ new) n same) state.me h.0 h.2.0 (omega (arith, h.1)) h.2.1, h.2.2))),
        );
      };
    }

-- the commander's messages are the world's first round
pub first_round : (net : Network) (order : ℕ) (first : Run) → IsNetwork net → order < net.orders → ((t : Message) → Contains first t ↔ ((t.from ≡ 0) × AreNeighbours net 0 t.to × (t.order ≡ order) × (t.path ≡ 0 ∷ []))) → WorldTo net order first 1
first_round net order first sound known told = record {
  run_of_net = record {
    messages = λ t h.
        let m = (told t).0 h in
        let ends : AreNeighbours net 0 t.to = m.1 in
        let edge = edge_facts net sound 0 t.to ends in
        record {
          on_edge = rw m.0 ends;
          chain = record {
            order_known = rw m.2 known;
            generals_known = rw m.3 (All-push (λ g. g < net.generals) [] 0 (All-nil (λ g. g < net.generals)) edge.0);
            distinct = rw m.3 (λ i j d l k. absurd (omega arith));
            from_commander = ([], m.3);
          };
          in_time = let one : length t.path ≡ 1 = ap length m.3 in omega (arith, sound.ranges.some_diameter);
          signer = ([], m.3 ∙ ap (λ g. g ∷ []) (sym m.0));
          outside = λ h'. elim (Contains_cases 0 t.to [] (rw m.3 at h')) [ inl e ↦ edge.2 e | inr none ↦ absurd (Contains_nil t.to none) ];
        };
    once = λ l t u st su from to order'. same_message t u from to order' (((told t).0 st.0).3 ∙ sym ((told u).0 su.0).3);
  };
  up_to = λ t h. let one : length t.path ≡ 1 = ap length ((told t).0 h).3 in omega arith;
  commander = record {
    order_known = known;
    sends = λ t e. ((λ h. let m = (told t).0 h in (m.1, m.2, m.3)), (λ m. (told t).1 (e, m.0, m.1, m.2)));
  };
  silent = λ g low ne t sent from. ne (sym from ∙ ((told t).0 sent.0).0);
  sends = λ g low ne l t pos lt in_time from. absurd (omega arith);
}
