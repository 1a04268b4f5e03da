-- Which orders a general accepts is decided, and they have an ascending list: so each lieutenant decides.
use Rattle.std.proofs.Common.{◌≡◌, ℕ, zero, suc, ◌<◌, ◌≤◌, ◌⊎◌, inl, inr, List, [], ◌∷◌, ◌++◌, length, Contains, refl, sym, subst, arith}
use Rattle.std.proofs.lemmas.Bool.{cases_eq}
use Rattle.std.proofs.lemmas.List.Elements.{Contains-append_left, Contains-push, Contains-push_cases}
use Rattle.gen_types.specs.Ascending.{IsListOf}
use Rattle.gen_types.proofs.Lists.{AllPairs-append, Contains_cases, Contains_nil, decide_some}
use Rattle.gen_net.specs.declared.message.Message.{Message}
use Rattle.gen_net.specs.Network.{Network, rounds, choose}
use Rattle.gen_net.specs.Run.{Run, IsRun, Accepts}
use Rattle.gen_net.specs.Follows.{LieutenantDecides}
use Rattle.gen_core.proofs.Rounds.{added_by}

-- an order that arrives at all is accepted
pub arrived_accepted : (net : Network) (run : Run) → IsRun net run → (g v : ℕ) (t : Message) → Contains run t → t.to ≡ g → t.order ≡ v → Accepts net run g v
arrived_accepted net run ok g v t h to order =
    let f = added_by run g (length t.path) v (t, ((h, refl), to), order) in
    let in_time : length t.path ≤ rounds net = (ok.messages t h).in_time in
    (f.0, omega (arith, f.1), f.2)

-- whether an order is accepted
pub decide_accepts : (net : Network) (run : Run) → IsRun net run → (g v : ℕ) → Accepts net run g v ⊎ (Accepts net run g v → ⊥)
decide_accepts net run ok g v = elim (decide_some (λ t. (t.to ≡ g) × (t.order ≡ v)) both run) [
  | inl f ↦ inl (arrived_accepted net run ok g v f.0 f.1 f.2.0 f.2.1)
  | inr none ↦ inr (λ a. let c = a.2.arrives in none c.0 c.1.0.0 (c.1.1, c.2))
]
  where
    both : (t : Message) → ((t.to ≡ g) × (t.order ≡ v)) ⊎ ((t.to ≡ g) × (t.order ≡ v) → ⊥)
    both t = elim (cases_eq t.to g) [
      | inr ne ↦ inr (λ h. ne h.0)
      | inl e ↦ elim (cases_eq t.order v) [ inr ne ↦ inr (λ h. ne h.1) | inl e' ↦ inl (e, e') ]
    ]

-- the numbers below a bound with a decided property have an ascending list
pub list_below : (P : ℕ → Type 0) → ((n : ℕ) → P n ⊎ (P n → ⊥)) → (bound : ℕ) → (xs : List ℕ) × IsListOf xs (λ v. (v < bound) × P v)
list_below P dec zero = (
  [],
  record {
    ascending = λ i j d l m. absurd (omega arith);
    members = λ v. ((λ h. absurd (Contains_nil v h)), (λ h. absurd (omega (arith, h.0))));
  },
)
list_below P dec (suc n) =
    let r = list_below P dec n in
    elim (dec n) [
      | inl p ↦ (
        r.0 ++ n ∷ [],
        record {
          ascending = AllPairs-append (λ a b. a < b) r.0 (n ∷ []) r.1.ascending (λ i j d l m. absurd (omega arith)) (λ x y hx hy. elim (Contains_cases n y [] hy) [
            | inl e ↦ subst (λ z. x < z) e (((r.1.members x).0 hx).0)
            | inr none ↦ absurd (Contains_nil y none)
          ]);
          members = λ v. (
            (λ h. elim (Contains-push_cases r.0 n v h) [
              | inl k ↦ let q = (r.1.members v).0 k in (omega (arith, q.0), q.1)
              | inr e ↦ (omega arith, subst P e p)
            ]),
            (λ h. elim (cases_eq n v) [
              | inl e ↦ subst (λ w. Contains (r.0 ++ n ∷ []) w) e (Contains-push r.0 n)
              | inr ne ↦ Contains-append_left r.0 (n ∷ []) v ((r.1.members v).1 (omega (arith, h.0), h.1))
            ]),
          );
        },
      )
      | inr no_p ↦ (
        r.0,
        record {
          ascending = r.1.ascending;
          members = λ v. (
            (λ h. let q = (r.1.members v).0 h in (omega (arith, q.0), q.1)),
            (λ h. elim (cases_eq n v) [
              | inl e ↦ absurd (no_p (subst P (sym e) h.1))
              | inr ne ↦ (r.1.members v).1 (omega (arith, h.0), h.1)
            ]),
          );
        },
      )
    ]

-- the accepted orders have an ascending list
pub accepted_list : (net : Network) (run : Run) → IsRun net run → (g : ℕ) → (orders : List ℕ) × IsListOf orders (Accepts net run g)
accepted_list net run ok g =
    let r = list_below (Accepts net run g) (decide_accepts net run ok g) net.orders in
    let known : (v : ℕ) → Accepts net run g v → v < net.orders = λ v a. let c = a.2.arrives in subst (λ w. w < net.orders) c.2 (ok.messages c.0 c.1.0.0).chain.order_known in (
      r.0,
      record {
        ascending = r.1.ascending;
        members = λ v. ((λ h. ((r.1.members v).0 h).1), (λ a. (r.1.members v).1 (known v a, a)));
      },
    )

-- so a general has a decision
pub decision : (net : Network) (run : Run) → IsRun net run → (g : ℕ) → (orders : List ℕ) × (order : ℕ) × LieutenantDecides net run g orders order
decision net run ok g = let r = accepted_list net run ok g in (r.0, choose net r.0, record { set = r.1; chosen = refl })
