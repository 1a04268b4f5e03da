-- What counts of a frame: each chain is carried by a parcel and may count, and there is one for each order that is carried.
use Rattle.std.proofs.Common.{◌≡◌, ◌≤◌, inl, inr, ℕ, true, not, List, [], ◌∷◌, filter, length, Contains, refl, sym, ap, subst, ◌∙◌, eqb}
use Rattle.std.specs.Prelude.{nat_le}
use Rattle.std.specs.List.{flat_map}
use Rattle.std.proofs.lemmas.Bool.{eqb-true, eq-eqb, le-leb}
use Rattle.gen_types.proofs.Lists.{Contains_here, Contains_there, Contains_cases, Contains_nil, Contains_filtered, Contains_flat_mapped, bool_cases}
use Rattle.gen_scenario.specs.Counting.{Carries}
use Rattle.gen_chain.specs.Chain.{Chain}
use Rattle.gen_scenario.specs.declared.delivery.Delivery.{Delivery}
use Rattle.gen_net.specs.Header.{RunHeader}
use Rattle.gen_scenario.specs.Counted.{carried_by, counted_of, firsts}
use Rattle.gen_scenario.proofs.Having.{in_filtered, in_flat, not_true, true_false}
use Rattle.gen_scenario.proofs.FirstChains.{carried_has, carried_gives, firsts_from}

-- ---- first ones

pub firsts_once : (cs : List Chain) (a b : Chain) → Contains (firsts cs) a → Contains (firsts cs) b → a.order ≡ b.order → a ≡ b
unfolding firsts
firsts_once [] a b ha hb e = absurd (Contains_nil a ha)
firsts_once (x ∷ cs) a b ha hb e = elim (Contains_cases x a (filter (λ k. not (eqb k.order x.order)) (firsts cs)) ha) [
  | inl xa ↦ elim (Contains_cases x b (filter (λ k. not (eqb k.order x.order)) (firsts cs)) hb) [
    | inl xb ↦ sym xa ∙ xb
    | inr tb ↦
        let out = (Contains_filtered (λ (k : Chain). not (eqb k.order x.order)) (firsts cs) b tb).1 in
        let same : b.order ≡ x.order = sym e ∙ ap (λ (k : Chain). k.order) (sym xa) in
        absurd (true_false (eqb b.order x.order) (eq-eqb _ _ same) (not_true (eqb b.order x.order) out))
  ]
  | inr ta ↦ elim (Contains_cases x b (filter (λ k. not (eqb k.order x.order)) (firsts cs)) hb) [
    | inl xb ↦
        let out = (Contains_filtered (λ (k : Chain). not (eqb k.order x.order)) (firsts cs) a ta).1 in
        let same : a.order ≡ x.order = e ∙ ap (λ (k : Chain). k.order) (sym xb) in
        absurd (true_false (eqb a.order x.order) (eq-eqb _ _ same) (not_true (eqb a.order x.order) out))
    | inr tb ↦ firsts_once cs a b (Contains_filtered (λ (k : Chain). not (eqb k.order x.order)) (firsts cs) a ta).0 (Contains_filtered (λ (k : Chain). not (eqb k.order x.order)) (firsts cs) b tb).0 e
  ]
]

-- where no two chains have one order, each is a first one
pub firsts_all : (cs : List Chain) → ((a b : Chain) → Contains cs a → Contains cs b → a.order ≡ b.order → a ≡ b) → (c : Chain) → Contains cs c → Contains (firsts cs) c
unfolding firsts
firsts_all [] once c h = absurd (Contains_nil c h)
firsts_all (x ∷ cs) once c h = elim (Contains_cases x c cs h) [
  | inl e ↦ subst (λ z. Contains (x ∷ filter (λ k. not (eqb k.order x.order)) (firsts cs)) z) e (Contains_here x (filter (λ k. not (eqb k.order x.order)) (firsts cs)))
  | inr t ↦ elim (bool_cases (eqb c.order x.order)) [
    | inl same ↦
        let e : x ≡ c = once x c (Contains_here x cs) h (sym (eqb-true c.order x.order same)) in
        subst (λ z. Contains (x ∷ filter (λ k. not (eqb k.order x.order)) (firsts cs)) z) e (Contains_here x (filter (λ k. not (eqb k.order x.order)) (firsts cs)))
    | inr other ↦
        let there = firsts_all cs (λ a b ha hb. once a b (Contains_there x a cs ha) (Contains_there x b cs hb)) c t in
        let passes : not (eqb c.order x.order) ≡ true = rw other refl in
        Contains_there x c (filter (λ k. not (eqb k.order x.order)) (firsts cs)) (in_filtered (λ (k : Chain). not (eqb k.order x.order)) (firsts cs) c there passes)
  ]
]

-- ---- frames

-- a parcel of the frame that carries the chain
pub record IsCarried (h : RunHeader) (d : Delivery) (frame : List (List ℕ)) (c : Chain) : Type 0 where
  pub parcel : List ℕ
  pub stands : Contains frame parcel
  pub carried : Carries h d parcel c

pub counted_has : (h : RunHeader) (d : Delivery) (frame : List (List ℕ)) (c : Chain) → Contains (counted_of h d frame) c → IsCarried h d frame c
unfolding counted_of
counted_has h d frame c k = elim (bool_cases (nat_le (length frame) h.network.orders)) [
  | inr out ↦ absurd (Contains_nil c (rw out at k))
  | inl few ↦
      let first : Contains (firsts (flat_map (carried_by h d) frame)) c = rw few at k in
      let r = Contains_flat_mapped (carried_by h d) frame c (firsts_from (flat_map (carried_by h d) frame) c first) in
      record { parcel = r.0; stands = r.1; carried = carried_has h d r.0 c r.2 }
]

pub counted_once : (h : RunHeader) (d : Delivery) (frame : List (List ℕ)) (a b : Chain) → Contains (counted_of h d frame) a → Contains (counted_of h d frame) b → a.order ≡ b.order → a ≡ b
unfolding counted_of
counted_once h d frame a b ha hb e = elim (bool_cases (nat_le (length frame) h.network.orders)) [
  | inr out ↦ absurd (Contains_nil a (rw out at ha))
  | inl few ↦ let fa : Contains (firsts (flat_map (carried_by h d) frame)) a = rw few at ha in let fb : Contains (firsts (flat_map (carried_by h d) frame)) b = rw few at hb in firsts_once (flat_map (carried_by h d) frame) a b fa fb e
]

-- where no two parcels carry chains of one order, each chain that is carried counts
pub counted_gives : (h : RunHeader) (d : Delivery) (frame : List (List ℕ)) → length frame ≤ h.network.orders → ((p q : List ℕ) (a b : Chain) → Contains frame p → Contains frame q → Carries h d p a → Carries h d q b → a.order ≡ b.order → a ≡ b) → (c : Chain) → IsCarried h d frame c → Contains (counted_of h d frame) c
unfolding counted_of
counted_gives h d frame few once c k =
    let test : nat_le (length frame) h.network.orders ≡ true = le-leb _ _ few in
    let all = firsts_all (flat_map (carried_by h d) frame) (λ a b ha hb e.
    let ra = Contains_flat_mapped (carried_by h d) frame a ha in
    let rb = Contains_flat_mapped (carried_by h d) frame b hb in
    once ra.0 rb.0 a b ra.1 rb.1 (carried_has h d ra.0 a ra.2) (carried_has h d rb.0 b rb.2) e) in
    rw test (all c (in_flat (carried_by h d) frame k.parcel c k.stands (subst (λ (cs : List Chain). Contains cs c) (sym (carried_gives h d k.parcel c k.carried)) (Contains_here c []))))
