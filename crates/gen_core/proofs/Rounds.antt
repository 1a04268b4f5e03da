-- When an order arrives, and when it is added: both are decided, and an order that arrives was added by then.
use Rattle.std.proofs.Common.{◌≡◌, ℕ, ◌≤◌, ◌⊎◌, inl, inr, length}
use Rattle.std.proofs.lemmas.Bool.{cases_eq, cases_order}
use Rattle.gen_net.specs.declared.message.Message.{Message}
use Rattle.gen_net.specs.Run.{Run, OrderArrives, Adds}
use Rattle.gen_types.proofs.Lists.{decide_some, below_or_least, least}

-- a message of round l to g with order v
abbrev pub IsArrival : ℕ → ℕ → ℕ → Message → Type 0
IsArrival l g v t = (length t.path ≡ l) × (t.to ≡ g) × (t.order ≡ v)

-- whether a message is one
pub decide_arrival : (l g v : ℕ) (t : Message) → IsArrival l g v t ⊎ (IsArrival l g v t → ⊥)
decide_arrival l g v t = elim (cases_eq (length t.path) l) [
  | inr ne ↦ inr (λ h. ne h.0)
  | inl el ↦ elim (cases_eq t.to g) [
    | inr ne ↦ inr (λ h. ne h.1)
    | inl eg ↦ elim (cases_eq t.order v) [ inr ne ↦ inr (λ h. ne h.2) | inl ev ↦ inl (el, eg, ev) ]
  ]
]

-- whether a message of this order arrives in this round
pub decide_arrives : (run : Run) (g l v : ℕ) → OrderArrives run g l v ⊎ (OrderArrives run g l v → ⊥)
decide_arrives run g l v = elim (decide_some (IsArrival l g v) (decide_arrival l g v) run) [
  | inl f ↦ inl (f.0, ((f.1, f.2.0), f.2.1), f.2.2)
  | inr none ↦ inr (λ f. none f.0 f.1.0.0 (f.1.0.1, f.1.1, f.2))
]

-- an order that arrives in some round was added by then
pub added_by : (run : Run) (g l v : ℕ) → OrderArrives run g l v → (k : ℕ) × (k ≤ l) × Adds run g k v
added_by run g l v h = let f = least (λ k. OrderArrives run g k v) (λ k. decide_arrives run g k v) l h in (f.0, f.1, record { arrives = f.2; new = f.3 })

-- whether an order is added in this round
pub decide_adds : (run : Run) (g l v : ℕ) → Adds run g l v ⊎ (Adds run g l v → ⊥)
decide_adds run g l v = elim (decide_arrives run g l v) [
  | inr none ↦ inr (λ a. none a.arrives)
  | inl some ↦ elim (below_or_least (λ k. OrderArrives run g k v) (λ k. decide_arrives run g k v) l) [
    | inl new ↦ inl (record { arrives = some; new = new })
    | inr old ↦ inr (λ a. a.new old.0 old.1 old.2)
  ]
]

-- an order is added in one round only
pub added_once : (run : Run) (g k l v : ℕ) → Adds run g k v → Adds run g l v → k ≡ l
added_once run g k l v a b = elim (cases_order k l) [
  | inl same ↦ same
  | inr (inl before) ↦ absurd (b.new k before a.arrives)
  | inr (inr after) ↦ absurd (a.new l after b.arrives)
]
