-- The run that the logs of the rest show, and that it is one.
use Rattle.std.proofs.Common.{ℕ, zero, suc, ◌≡◌, ◌<◌, ◌↔◌, ◌⊎◌, inl, inr, List, [], ◌∷◌, ◌++◌, length, Contains, All, refl, sym, subst, arith}
use Rattle.std.proofs.lemmas.List.Elements.{Contains-append_left, Contains-append_right, Contains-append_cases}
use Rattle.std.proofs.lemmas.Bool.{cases_eq}
use Rattle.gen_net.specs.Network.{Network, IsLoyal}
use Rattle.gen_net.specs.declared.message.Message.{Message}
use Rattle.gen_net.specs.Run.{Run, IsRun}
use Rattle.gen_types.specs.Ends.{BeginsWith}
use Rattle.gen_net.specs.Follows.{Conduct, Commands, Follows}
use Rattle.gen_net.specs.Signed.{IsSignedRun, IsDerivable}
use Rattle.gen_net.specs.Log.{LogEntry, Started, Signed, Sent, Received, Decided, Keeps}
use Rattle.gen_net.specs.Departs.{IsFollowersLog}
use Rattle.gen_types.proofs.Lists.{Contains_here, Contains_there, Contains_cases, Contains_nil}
use Rattle.gen_scenario.proofs.Agree.{decide_loyal}
use Rattle.gen_core.proofs.Views.{SameView, view_follows, view_keeps}

-- ---- for logs of everybody, those of the rest alone being spoken of

-- a run exists in which everybody of the rest follows and keeps exactly these logs
pub record RunExists (net : Network) (faulty : List ℕ) (logs : ℕ → List LogEntry) : Type 0 where
  pub run : Run
  pub conducts : ℕ → Conduct
  pub signed : IsSignedRun net faulty run conducts
  pub keeps : (g : ℕ) → IsLoyal net faulty g → Keeps net run g (conducts g) (logs g)

-- the path derives from a shorter SEND of its order by one of the rest to one of the faulty
pub record LogDerivation (net : Network) (faulty : List ℕ) (logs : ℕ → List LogEntry) (order : ℕ) (path : List ℕ) : Type 0 where
  pub front : List ℕ
  pub last : ℕ
  pub after : List ℕ
  pub parts : path ≡ (front ++ last ∷ []) ++ after
  pub last_loyal : IsLoyal net faulty last
  pub nobody_after : All (λ g. IsLoyal net faulty g → ⊥) after
  pub from : ℕ
  pub to : ℕ
  pub source : List ℕ
  pub from_rest : IsLoyal net faulty from
  pub to_faulty : Contains faulty to
  pub sent : Contains (logs from) (Sent to order source)
  pub earlier : length source < length path
  pub begun : BeginsWith source (front ++ last ∷ [])

-- what is looked at: each log alone, each edge of the rest, each RECV from the faulty
pub record LogsFit (net : Network) (faulty : List ℕ) (logs : ℕ → List LogEntry) : Type 0 where
  pub each : (g : ℕ) → IsLoyal net faulty g → IsFollowersLog net g (logs g)
  pub edges : (a b v : ℕ) (path : List ℕ) → IsLoyal net faulty a → IsLoyal net faulty b → Contains (logs a) (Sent b v path) ↔ Contains (logs b) (Received a v path)
  pub derived : (a b v : ℕ) (path : List ℕ) → Contains faulty a → IsLoyal net faulty b → Contains (logs b) (Received a v path) → All (λ g. IsLoyal net faulty g → ⊥) path ⊎ LogDerivation net faulty logs v path

gather : {X Y : Type 0} → (X → List Y) → List X → List Y
gather f [] = []
gather f (x ∷ xs) = f x ++ gather f xs

from_gather : {X Y : Type 0} (f : X → List Y) (xs : List X) (y : Y) → Contains (gather f xs) y → (x : X) × Contains xs x × Contains (f x) y
unfolding gather
from_gather f [] y h = absurd (Contains_nil y h)
from_gather f (x ∷ xs) y h = elim (Contains-append_cases (f x) (gather f xs) y h) [
  | inl here ↦ (x, Contains_here x xs, here)
  | inr later ↦ let r = from_gather f xs y later in (r.0, Contains_there x r.0 xs r.1, r.2)
]

in_gather : {X Y : Type 0} (f : X → List Y) (xs : List X) (x : X) (y : Y) → Contains xs x → Contains (f x) y → Contains (gather f xs) y
unfolding gather
in_gather f [] x y h k = absurd (Contains_nil x h)
in_gather f (z ∷ xs) x y h k = elim (Contains_cases z x xs h) [
  | inl e ↦ Contains-append_left (f z) (gather f xs) y (subst (λ w. Contains (f w) y) (sym e) k)
  | inr later ↦ Contains-append_right (f z) (gather f xs) y (in_gather f xs x y later k)
]

below : ℕ → List ℕ
below zero = []
below (suc n) = n ∷ below n

in_below : (n g : ℕ) → g < n → Contains (below n) g
unfolding below
in_below zero g l = absurd (omega arith)
in_below (suc n) g l = elim (cases_eq n g) [
  | inl e ↦ subst (λ x. Contains (n ∷ below n) x) e (Contains_here n (below n))
  | inr ne ↦ Contains_there n g (below n) (in_below n g (omega arith))
]

-- the message that g's entry shows, if it shows one
shown : ℕ → LogEntry → Run
shown g (Started general own) = []
shown g (Signed order path) = []
shown g (Sent to order path) = record { from = g; to = to; order = order; path = path } ∷ []
shown g (Received from order path) = record { from = from; to = g; order = order; path = path } ∷ []
shown g (Decided orders order) = []

module _ (net : Network) (faulty : List ℕ) (logs : ℕ → List LogEntry) where
  -- a log of the rest shows the message
  abbrev IsShown : Message → Type 0
  IsShown t = (IsLoyal net faulty t.from × Contains (logs t.from) (Sent t.to t.order t.path)) ⊎ (IsLoyal net faulty t.to × Contains (logs t.to) (Received t.from t.order t.path))

  voice : (g : ℕ) → IsLoyal net faulty g ⊎ (IsLoyal net faulty g → ⊥) → Run
  voice g (inl loyal) = gather (shown g) (logs g)
  voice g (inr other) = []

  all_voices : Run
  all_voices = gather (λ g. voice g (decide_loyal net faulty g)) (below net.generals)

  one_shown : (g : ℕ) (e : LogEntry) (t : Message) → IsLoyal net faulty g → Contains (logs g) e → Contains (shown g e) t → IsShown t
  unfolding shown
  one_shown g (Started general own) t loyal h k = absurd (Contains_nil t k)
  one_shown g (Signed order path) t loyal h k = absurd (Contains_nil t k)
  one_shown g (Sent to order path) t loyal h k = elim (Contains_cases (record { from = g; to = to; order = order; path = path }) t [] k) [
    | inl e ↦ subst IsShown e (inl (loyal, h))
    | inr none ↦ absurd (Contains_nil t none)
  ]
  one_shown g (Received from order path) t loyal h k = elim (Contains_cases (record { from = from; to = g; order = order; path = path }) t [] k) [
    | inl e ↦ subst IsShown e (inr (loyal, h))
    | inr none ↦ absurd (Contains_nil t none)
  ]
  one_shown g (Decided orders order) t loyal h k = absurd (Contains_nil t k)

  voice_shown : (g : ℕ) (d : IsLoyal net faulty g ⊎ (IsLoyal net faulty g → ⊥)) (t : Message) → Contains (voice g d) t → IsShown t
  unfolding voice
  voice_shown g (inl loyal) t h = let r = from_gather (shown g) (logs g) t h in one_shown g r.0 t loyal r.1 r.2
  voice_shown g (inr other) t h = absurd (Contains_nil t h)

  in_voice : (g : ℕ) (d : IsLoyal net faulty g ⊎ (IsLoyal net faulty g → ⊥)) (e : LogEntry) (t : Message) → IsLoyal net faulty g → Contains (logs g) e → Contains (shown g e) t → Contains (voice g d) t
  unfolding voice
  in_voice g (inl loyal) e t l h k = in_gather (shown g) (logs g) e t h k
  in_voice g (inr other) e t l h k = absurd (other l)

  shown_from_run : (t : Message) → Contains all_voices t → IsShown t
  unfolding all_voices
  shown_from_run t h = let r = from_gather (λ g. voice g (decide_loyal net faulty g)) (below net.generals) t h in voice_shown r.0 (decide_loyal net faulty r.0) t r.2

  run_from_entry : (g : ℕ) (e : LogEntry) (t : Message) → IsLoyal net faulty g → Contains (logs g) e → Contains (shown g e) t → Contains all_voices t
  unfolding all_voices
  run_from_entry g e t loyal h k = in_gather (λ x. voice x (decide_loyal net faulty x)) (below net.generals) g t (in_below net.generals g loyal.0) (in_voice g (decide_loyal net faulty g) e t loyal h k)

  run_from_shown : (t : Message) → IsShown t → Contains all_voices t
  unfolding shown
  run_from_shown t (inl s) = run_from_entry t.from (Sent t.to t.order t.path) t s.0 s.1 (Contains_here t [])
  run_from_shown t (inr r) = run_from_entry t.to (Received t.from t.order t.path) t r.0 r.1 (Contains_here t [])

  module _ (fit : LogsFit net faulty logs) where
    -- a message that some log shows stands in the log of each of the rest whom it names
    send_of : (t : Message) → IsLoyal net faulty t.from → IsShown t → Contains (logs t.from) (Sent t.to t.order t.path)
    send_of t loyal (inl s) = s.1
    send_of t loyal (inr r) = (fit.edges t.from t.to t.order t.path loyal r.0).1 r.1

    recv_of : (t : Message) → IsLoyal net faulty t.to → IsShown t → Contains (logs t.to) (Received t.from t.order t.path)
    recv_of t loyal (inl s) = (fit.edges t.from t.to t.order t.path s.0 loyal).0 s.1
    recv_of t loyal (inr r) = r.1

    view : (g : ℕ) (loyal : IsLoyal net faulty g) → SameView (fit.each g loyal).run all_voices g
    view g loyal =
        let run = (fit.each g loyal).run in
        let entries = (fit.each g loyal).keeps.entries in
        record {
          sent = λ t e.
              let loyal_from : IsLoyal net faulty t.from = subst (IsLoyal net faulty) (sym e) loyal in
              let entry : LogEntry = Sent t.to t.order t.path in (
                (λ h.
                    let k : Contains (logs g) entry = (entries entry).1 (subst (λ x. Contains run (record { from = x; to = t.to; order = t.order; path = t.path })) e h) in
                    run_from_shown t (inl (loyal_from, subst (λ x. Contains (logs x) entry) (sym e) k))),
                (λ h.
                    let k : Contains (logs g) entry = subst (λ x. Contains (logs x) entry) e (send_of t loyal_from (shown_from_run t h)) in
                    subst (λ x. Contains run (record { from = x; to = t.to; order = t.order; path = t.path })) (sym e) ((entries entry).0 k)),
              );
          arrived = λ t e.
              let loyal_to : IsLoyal net faulty t.to = subst (IsLoyal net faulty) (sym e) loyal in
              let entry : LogEntry = Received t.from t.order t.path in (
                (λ h.
                    let k : Contains (logs g) entry = (entries entry).1 (subst (λ x. Contains run (record { from = t.from; to = x; order = t.order; path = t.path })) e h) in
                    run_from_shown t (inr (loyal_to, subst (λ x. Contains (logs x) entry) (sym e) k))),
                (λ h.
                    let k : Contains (logs g) entry = subst (λ x. Contains (logs x) entry) e (recv_of t loyal_to (shown_from_run t h)) in
                    subst (λ x. Contains run (record { from = t.from; to = x; order = t.order; path = t.path })) (sym e) ((entries entry).0 k)),
              );
        }

    -- whoever of the rest a message of the run names has it in the run of his own log
    is_run : IsRun net all_voices
    is_run = record {
      messages = λ t h. elim (shown_from_run t h) [
        | inl s ↦ (fit.each t.from s.0).run_of_net.messages t (((view t.from s.0).sent t refl).1 h)
        | inr r ↦ (fit.each t.to r.0).run_of_net.messages t (((view t.to r.0).arrived t refl).1 h)
      ];
      once = λ l t u ht hu same_from same_to same_order. elim (shown_from_run t ht.0) [
        | inl s ↦ let v = view t.from s.0 in (fit.each t.from s.0).run_of_net.once l t u ((v.sent t refl).1 ht.0, ht.1) ((v.sent u (sym same_from)).1 hu.0, hu.1) same_from same_to same_order
        | inr r ↦ let v = view t.to r.0 in (fit.each t.to r.0).run_of_net.once l t u ((v.arrived t refl).1 ht.0, ht.1) ((v.arrived u (sym same_to)).1 hu.0, hu.1) same_from same_to same_order
      ];
    }

    conduct_at : (g : ℕ) → IsLoyal net faulty g ⊎ (IsLoyal net faulty g → ⊥) → Conduct
    conduct_at g (inl loyal) = (fit.each g loyal).conduct
    conduct_at g (inr other) = Commands 0

    follows_at : (g : ℕ) (d : IsLoyal net faulty g ⊎ (IsLoyal net faulty g → ⊥)) → IsLoyal net faulty g → Follows net all_voices g (conduct_at g d)
    unfolding conduct_at
    follows_at g (inl loyal) l = view_follows net (fit.each g loyal).run all_voices g (fit.each g loyal).conduct (view g loyal) (fit.each g loyal).follows
    follows_at g (inr other) l = absurd (other l)

    keeps_at : (g : ℕ) (d : IsLoyal net faulty g ⊎ (IsLoyal net faulty g → ⊥)) → IsLoyal net faulty g → Keeps net all_voices g (conduct_at g d) (logs g)
    unfolding conduct_at
    keeps_at g (inl loyal) l = view_keeps net (fit.each g loyal).run all_voices g (fit.each g loyal).conduct (logs g) (view g loyal) (fit.each g loyal).keeps
    keeps_at g (inr other) l = absurd (other l)

    derivable : (t : Message) → Contains all_voices t → Contains faulty t.from → IsDerivable net faulty all_voices t
    derivable t h faulty_from = elim (shown_from_run t h) [
      | inl s ↦ absurd (s.0.1 faulty_from)
      | inr r ↦ elim (fit.derived t.from t.to t.order t.path faulty_from r.0 r.1) [
        | inl nobody ↦ inl nobody
        | inr d ↦ inr (record {
          front = d.front;
          last = d.last;
          after = d.after;
          parts = d.parts;
          last_loyal = d.last_loyal;
          nobody_after = d.nobody_after;
          source = record { from = d.from; to = d.to; order = t.order; path = d.source };
          sent = run_from_shown (record { from = d.from; to = d.to; order = t.order; path = d.source }) (inl (d.from_rest, d.sent));
          from_loyal = d.from_rest;
          to_faulty = d.to_faulty;
          same_order = refl;
          earlier = d.earlier;
          begun = d.begun;
        })
      ]
    ]

    pub run_exists : RunExists net faulty logs
    run_exists = record {
      run = all_voices;
      conducts = λ g. conduct_at g (decide_loyal net faulty g);
      signed = record { run_of_net = is_run; follows = λ g l. follows_at g (decide_loyal net faulty g) l; derivable = derivable };
      keeps = λ g l. keeps_at g (decide_loyal net faulty g) l;
    }

  pub logs_of_run : RunExists net faulty logs → LogsFit net faulty logs
  logs_of_run r = record {
    each = λ g l. record { run = r.run; conduct = r.conducts g; run_of_net = r.signed.run_of_net; follows = r.signed.follows g l; keeps = r.keeps g l };
    edges = λ a b v path la lb. (
      (λ h. ((r.keeps b lb).entries (Received a v path)).1 (((r.keeps a la).entries (Sent b v path)).0 h)),
      (λ h. ((r.keeps a la).entries (Sent b v path)).1 (((r.keeps b lb).entries (Received a v path)).0 h)),
    );
    derived = λ a b v path fa lb h. elim (r.signed.derivable (record { from = a; to = b; order = v; path = path }) (((r.keeps b lb).entries (Received a v path)).0 h) fa) [
      | inl nobody ↦ inl nobody
      | inr d ↦ inr (record {
        front = d.front;
        last = d.last;
        after = d.after;
        parts = d.parts;
        last_loyal = d.last_loyal;
        nobody_after = d.nobody_after;
        from = d.source.from;
        to = d.source.to;
        source = d.source.path;
        from_rest = d.from_loyal;
        to_faulty = d.to_faulty;
        sent = ((r.keeps d.source.from d.from_loyal).entries (Sent d.source.to v d.source.path)).1 (subst (λ w. Contains r.run (record { from = d.source.from; to = d.source.to; order = w; path = d.source.path })) d.same_order d.sent);
        earlier = d.earlier;
        begun = d.begun;
      })
    ];
  }
