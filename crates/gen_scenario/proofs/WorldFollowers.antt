-- The least sender's pick, found in the run, makes each lieutenant of a scenario's run a follower.
use Rattle.std.proofs.Common.{◌≡◌, ◌≢◌, ℕ, zero, suc, ◌+◌, ◌<◌, ◌≤◌, ◌⊎◌, inl, inr, List, [], ◌∷◌, ◌++◌, length, Contains, refl, sym, ap, ◌∙◌, subst, arith}
use Rattle.std.proofs.lemmas.Bool.{cases_eq, cases_lt}
use Rattle.gen_types.proofs.Lists.{Contains_here, Contains_there, Contains_cases, Contains_nil}
use Rattle.gen_net.specs.declared.message.Message.{Message}
use Rattle.gen_net.specs.Network.{Network, rounds}
use Rattle.gen_net.specs.Run.{Run, IsRun, Arrives, OrderArrives, Adds}
use Rattle.gen_net.specs.Follows.{Conduct, Commands, Relays, LieutenantFollows, Follows}
use Rattle.gen_core.specs.Seeing.{IsFromLeast}
use Rattle.gen_core.proofs.Rounds.{IsArrival, decide_arrival, added_once, decide_adds}
use Rattle.gen_scenario.specs.World.{IsRelay, RelaysLeast, IsWorld}
use Rattle.gen_scenario.specs.WorldFollows.{LieutenantsFollow, WorldIsSigned}

-- of the messages of a list with a decided property, one whose sender is least, or none
least_sender : (P : Message → Type 0) → ((t : Message) → P t ⊎ (P t → ⊥)) → (run : Run) → ((t : Message) × Contains run t × P t × ((u : Message) → Contains run u → P u → t.from ≤ u.from)) ⊎ ((t : Message) → Contains run t → P t → ⊥)
least_sender P dec [] = inr (λ t h p. Contains_nil t h)
least_sender P dec (x ∷ xs) = elim (least_sender P dec xs) [
  | inr none ↦ elim (dec x) [
    | inr not_x ↦ inr (λ u h p. elim (Contains_cases x u xs h) [ inl e ↦ not_x (subst P (sym e) p) | inr k ↦ none u k p ])
    | inl is_x ↦ inl (x, Contains_here x xs, is_x, λ u h p. elim (Contains_cases x u xs h) [ inl e ↦ omega (arith, ap (λ m. m.from) e) | inr k ↦ absurd (none u k p) ])
  ]
  | inl f ↦ elim (dec x) [
    | inr not_x ↦ inl (f.0, Contains_there x f.0 xs f.1, f.2, λ u h p. elim (Contains_cases x u xs h) [ inl e ↦ absurd (not_x (subst P (sym e) p)) | inr k ↦ f.3 u k p ])
    | inl is_x ↦ elim (cases_lt x.from f.0.from) [
      | inl less ↦ inl (x, Contains_here x xs, is_x, λ u h p. elim (Contains_cases x u xs h) [ inl e ↦ omega (arith, ap (λ m. m.from) e) | inr k ↦ omega (arith, f.3 u k p) ])
      | inr more ↦ inl (f.0, Contains_there x f.0 xs f.1, f.2, λ u h p. elim (Contains_cases x u xs h) [ inl e ↦ omega (arith, ap (λ m. m.from) e) | inr k ↦ f.3 u k p ])
    ]
  ]
]

-- the message of the least sender among those of order v that arrive at g in round l
record LeastArrival (run : Run) (g l v : ℕ) (path : List ℕ) : Type 0 where
  message : Message
  arrives : Arrives run g l message
  of_order : message.order ≡ v
  of_path : message.path ≡ path
  from_least : IsFromLeast run g l v path

least_arrival : (run : Run) (g l v : ℕ) → OrderArrives run g l v → (path : List ℕ) × LeastArrival run g l v path
least_arrival run g l v a = elim (least_sender (IsArrival l g v) (decide_arrival l g v) run) [
  | inr none ↦ absurd (none a.0 a.1.0.0 (a.1.0.1, a.1.1, a.2))
  | inl f ↦
      let t : Message = f.0 in
      let arrives : Arrives run g l t = ((f.1, f.2.0), f.2.1) in
      let to_g : Arrives run g l (record { from = t.from; to = g; order = t.order; path = t.path }) = subst (λ h. Arrives run g l (record { from = t.from; to = h; order = t.order; path = t.path })) f.2.1 arrives in (
        t.path,
        record {
          message = t;
          arrives = arrives;
          of_order = f.2.2;
          of_path = refl;
          from_least = record {
            from = t.from;
            arrives = subst (λ w. Arrives run g l (record { from = t.from; to = g; order = w; path = t.path })) f.2.2 to_g;
            least = λ u h e. f.3 u h.0.0 (h.0.1, h.1, e);
          };
        },
      )
]

-- an order is added in one of the first rounds, or in none of them
added_before : (run : Run) (g v n : ℕ) → ((l : ℕ) × Adds run g l v) ⊎ ((l : ℕ) → l < n → Adds run g l v → ⊥)
added_before run g v zero = inr (λ l below a. absurd (omega arith))
added_before run g v (suc n) = elim (added_before run g v n) [
  | inl some ↦ inl some
  | inr none ↦ elim (decide_adds run g n v) [
    | inl here ↦ inl (n, here)
    | inr not_here ↦ inr (λ l below a. elim (cases_eq l n) [ inl e ↦ not_here (subst (λ k. Adds run g k v) e a) | inr ne ↦ none l (omega arith) a ])
  ]
]

-- one path for the order: the least sender's, in whatever round the order is added
abbrev LeastPath : Run → ℕ → ℕ → Type 0
LeastPath run g v = (path : List ℕ) × ((l : ℕ) → Adds run g l v → LeastArrival run g l v path)

least_path : (net : Network) (run : Run) → IsRun net run → (g v : ℕ) → LeastPath run g v
least_path net run ok g v = elim (added_before run g v (rounds net + 1)) [
  | inl some ↦
      let best = least_arrival run g some.0 v some.1.arrives in
      (best.0, λ l a. subst (λ k. LeastArrival run g k v best.0) (added_once run g some.0 l v some.1 a) best.1)
  | inr none ↦ (
    [],
    λ l a.
        let in_time : length a.arrives.0.path ≤ rounds net = (ok.messages a.arrives.0 a.arrives.1.0.0).in_time in
        let round : length a.arrives.0.path ≡ l = a.arrives.1.0.1 in
        absurd (none l (omega arith) a),
  )
]

-- two paths from the least sender in one round are one
pub one_least : (net : Network) (run : Run) → IsRun net run → (g l v : ℕ) (p q : List ℕ) → IsFromLeast run g l v p → IsFromLeast run g l v q → p ≡ q
one_least net run ok g l v p q a b =
    let first : Message = record { from = a.from; to = g; order = v; path = p } in
    let second : Message = record { from = b.from; to = g; order = v; path = q } in
    let low : a.from ≤ b.from = a.least second b.arrives refl in
    let high : b.from ≤ a.from = b.least first a.arrives refl in
    let same : a.from ≡ b.from = omega arith in
    ap (λ m. m.path) (ok.once l first second a.arrives.0 b.arrives.0 same refl refl)

-- a lieutenant who relays the least sender's messages follows with the least sender's paths
relays_follow : (net : Network) (run : Run) (ok : IsRun net run) (g : ℕ) → RelaysLeast net run g → LieutenantFollows net run g (λ v. (least_path net run ok g v).0)
relays_follow net run ok g relays = record {
  picks = λ l v a. let x = (least_path net run ok g v).1 l a in (x.message, x.arrives, x.of_order, x.of_path);
  silent = relays.silent;
  sends = λ l t pos low e. (
    (λ h.
        let r : IsRelay net run g l t = (relays.sends l t pos low e).0 h in
        let x = (least_path net run ok g t.order).1 l r.added in
        record {
          added = r.added;
          longer = r.longer ∙ ap (λ p. p ++ g ∷ []) (one_least net run ok g l t.order r.picked (least_path net run ok g t.order).0 r.least x.from_least);
          neighbour = r.neighbour;
          outside = r.outside;
        }),
    (λ h. (relays.sends l t pos low e).1 (record {
      picked = (least_path net run ok g t.order).0;
      added = h.added;
      least = ((least_path net run ok g t.order).1 l h.added).from_least;
      longer = h.longer;
      neighbour = h.neighbour;
      outside = h.outside;
    })),
  );
}

-- the conduct of each general of the scenario
abbrev conduct_of : (net : Network) (order : ℕ) (run : Run) → IsRun net run → ℕ → Conduct
conduct_of net order run ok zero = Commands order
conduct_of net order run ok (suc g) = Relays (λ v. (least_path net run ok (suc g) v).0)

each_follows : (net : Network) (order : ℕ) (run : Run) (w : IsWorld net order run) (g : ℕ) → g < net.generals → Follows net run g (conduct_of net order run w.run_of_net g)
each_follows net order run w zero below = (refl, w.commander)
each_follows net order run w (suc g) below =
    let lieutenant : suc g ≢ 0 = λ e. absurd (omega (arith, e)) in
    (lieutenant, relays_follow net run w.run_of_net (suc g) (w.lieutenants (suc g) below lieutenant))

pub lieutenants_follow : LieutenantsFollow
lieutenants_follow net order run w g below lieutenant = ((λ v. (least_path net run w.run_of_net g v).0), relays_follow net run w.run_of_net g (w.lieutenants g below lieutenant))

pub world_is_signed : WorldIsSigned
world_is_signed net order run w = (
  conduct_of net order run w.run_of_net,
  record {
    run_of_net = w.run_of_net;
    follows = λ g loyal. each_follows net order run w g loyal.0;
    derivable = λ t h faulty. absurd (Contains_nil t.from faulty);
  },
  refl,
)
