-- Ranks of messages and their numbers: they rise alike, so findings of ascending ranks stand in their one order.
use Rattle.std.proofs.Common.{◌≡◌, ◌⊎◌, ◌<◌, ◌≤◌, ◌+◌, ◌*◌, ◌/◌, ◌%◌, ℕ, ltb, inl, inr, List, [], ◌∷◌, map, Contains, AllPairs, refl, sym, ap, ◌∙◌, subst, arith}
use Rattle.std.proofs.lemmas.Bool.{ltb-true, ltb-false}
use Rattle.gen_types.proofs.Lists.{Contains_here, Contains_there, Contains_cases, Contains_nil, Contains_mapped, bool_cases}
use Rattle.gen_core.proofs.OrderedLists.{AllPairs-cons, AllPairs-head, AllPairs-tail}
use Rattle.gen_net.specs.Log.{Precedes}
use Rattle.gen_match.specs.declared.finding.Finding.{Finding}
use Rattle.gen_match.specs.declared.kinds.Kind.{Kind}
use Rattle.gen_match.specs.declared.kinds.Kind.TheVariants.{OneSided, Stray}
use Rattle.gen_match.specs.Findings.{AreFindings, finding_rank}
use Rattle.gen_match.specs.Ranks.{rank_number, finding_of, finding_at}

-- ---- a rank and its number

pub record IsRank (from to round order : ℕ) : Type 0 where
  pub from_small : from < 16
  pub to_small : to < 16
  pub round_small : round < 32
  pub order_small : order < 16

same_finding : (kind : Kind) (a a' b b' l l' v v' : ℕ) → a ≡ a' → b ≡ b' → l ≡ l' → v ≡ v' → finding_of kind a b l v ≡ finding_of kind a' b' l' v'
same_finding kind a a' b b' l l' v v' p q r s = rw (p, q, r, s) refl

finding_back : (kind : Kind) (a b l v : ℕ) → IsRank a b l v → finding_at kind (rank_number a b l v) ≡ finding_of kind a b l v
finding_back kind a b l v p =
    let small_a : a < 16 = p.from_small in
    let small_b : b < 16 = p.to_small in
    let small_l : l < 32 = p.round_small in
    let small_v : v < 16 = p.order_small in
    let a1 : rank_number a b l v / 8192 ≡ a = omega (arith, small_a, small_b, small_l, small_v) in
    let a2 : a % 16 ≡ a = omega (arith, small_a) in
    let b1 : rank_number a b l v / 512 ≡ a * 16 + b = omega (arith, small_a, small_b, small_l, small_v) in
    let b2 : (a * 16 + b) % 16 ≡ b = omega (arith, small_b) in
    let l1 : rank_number a b l v / 16 ≡ (a * 16 + b) * 32 + l = omega (arith, small_l, small_v) in
    let l2 : ((a * 16 + b) * 32 + l) % 32 ≡ l = omega (arith, small_l) in
    let v1 : rank_number a b l v % 16 ≡ v = omega (arith, small_v) in
    same_finding kind (rank_number a b l v / 8192 % 16) a (rank_number a b l v / 512 % 16) b (rank_number a b l v / 16 % 32) l (rank_number a b l v % 16) v
    (ap (λ x. x % 16) a1 ∙ a2) (ap (λ x. x % 16) b1 ∙ b2) (ap (λ x. x % 32) l1 ∙ l2) v1

digit16 : (x v y w : ℕ) → x * 16 + v < y * 16 + w → v < 16 → w < 16 → (x < y) ⊎ ((x ≡ y) × (v < w))
digit16 x v y w h a b = elim (bool_cases (ltb x y)) [
  | inl less ↦ inl (ltb-true x y less)
  | inr more ↦ let m : y ≤ x = ltb-false x y more in inr (omega (arith, m, h, b), omega (arith, m, h))
]

digit32 : (x v y w : ℕ) → x * 32 + v < y * 32 + w → v < 32 → w < 32 → (x < y) ⊎ ((x ≡ y) × (v < w))
digit32 x v y w h a b = elim (bool_cases (ltb x y)) [
  | inl less ↦ inl (ltb-true x y less)
  | inr more ↦ let m : y ≤ x = ltb-false x y more in inr (omega (arith, m, h, b), omega (arith, m, h))
]

ranks_rise : (n a b l v a' b' l' v' : ℕ) → IsRank a b l v → IsRank a' b' l' v' → rank_number a b l v < rank_number a' b' l' v' → Precedes (n ∷ a ∷ b ∷ l ∷ v ∷ []) (n ∷ a' ∷ b' ∷ l' ∷ v' ∷ [])
ranks_rise n a b l v a' b' l' v' p q h = inr (
  refl,
  elim (digit16 ((a * 16 + b) * 32 + l) v ((a' * 16 + b') * 32 + l') v' h p.order_small q.order_small) [
    | inl less ↦ elim (digit32 (a * 16 + b) l (a' * 16 + b') l' less p.round_small q.round_small) [
      | inl less ↦ elim (digit16 a b a' b' less p.to_small q.to_small) [
        | inl less ↦ inl less
        | inr more ↦ inr (more.0, inl more.1)
      ]
      | inr same ↦
          let s : a ≡ a' = omega (arith, same.0, p.to_small, q.to_small) in
          inr (s, inr (omega (arith, same.0, s), inl same.1))
    ]
    | inr same ↦
        let up : a * 16 + b ≡ a' * 16 + b' = omega (arith, same.0, p.round_small, q.round_small) in
        let s : a ≡ a' = omega (arith, up, p.to_small, q.to_small) in
        inr (s, inr (omega (arith, up, s), inr (omega (arith, same.0, up), inl same.1)))
  ],
)

findings_rise : (kind : Kind) (a b l v a' b' l' v' : ℕ) → IsRank a b l v → IsRank a' b' l' v' → rank_number a b l v < rank_number a' b' l' v' → Precedes (finding_rank (finding_of kind a b l v)) (finding_rank (finding_of kind a' b' l' v'))
findings_rise OneSided a b l v a' b' l' v' p q h = ranks_rise 8 a b l v a' b' l' v' p q h
findings_rise Stray a b l v a' b' l' v' p q h = ranks_rise 9 a b l v a' b' l' v' p q h

-- ---- the findings of ranks

in_mapped : {X Y : Type 0} (f : X → Y) (xs : List X) (x : X) → Contains xs x → Contains (map f xs) (f x)
in_mapped f [] x h = absurd (Contains_nil x h)
in_mapped f (y ∷ ys) x h = elim (Contains_cases y x ys h) [
  | inl e ↦ subst (λ z. Contains (f y ∷ map f ys) (f z)) e (Contains_here (f y) (map f ys))
  | inr there ↦ Contains_there (f y) (f x) (map f ys) (in_mapped f ys x there)
]

pairs_mapped : {Y : Type 0} (f : ℕ → Y) (P : ℕ → Type 0) (R : Y → Y → Type 0) → ((a b : ℕ) → P a → P b → a < b → R (f a) (f b)) → (xs : List ℕ) → ((x : ℕ) → Contains xs x → P x) → AllPairs (λ a b. a < b) xs → AllPairs R (map f xs)
pairs_mapped f P R up [] are rise = λ i j d l m. absurd (omega (arith, m))
pairs_mapped f P R up (x ∷ xs) are rise =
    AllPairs-cons R (f x) (map f xs)
    (λ y h. let r = Contains_mapped f xs y h in subst (R (f x)) r.2 (up x r.0 (are x (Contains_here x xs)) (are r.0 (Contains_there x r.0 xs r.1)) (AllPairs-head (λ a b. a < b) x xs r.0 rise r.1)))
    (pairs_mapped f P R up xs (λ y h. are y (Contains_there x y xs h)) (AllPairs-tail (λ a b. a < b) x xs rise))

-- the number is the rank of a message, and what is found of it has this property
pub record IsRanked (kind : Kind) (P : Finding → Type 0) (k : ℕ) : Type 0 where
  pub from : ℕ
  pub to : ℕ
  pub round : ℕ
  pub order : ℕ
  pub small : IsRank from to round order
  pub rank : k ≡ rank_number from to round order
  pub holds : P (finding_of kind from to round order)

-- the finding is what is found of a message whose rank is one of the numbers
pub record StandsAt (kind : Kind) (ranks : List ℕ) (f : Finding) : Type 0 where
  pub from : ℕ
  pub to : ℕ
  pub round : ℕ
  pub order : ℕ
  pub small : IsRank from to round order
  pub is : f ≡ finding_of kind from to round order
  pub stands : Contains ranks (rank_number from to round order)

its_finding : (kind : Kind) (P : Finding → Type 0) (k : ℕ) → (r : IsRanked kind P k) → finding_at kind k ≡ finding_of kind r.from r.to r.round r.order
its_finding kind P k r = ap (finding_at kind) r.rank ∙ finding_back kind r.from r.to r.round r.order r.small

rise : (kind : Kind) (P : Finding → Type 0) (a b : ℕ) → IsRanked kind P a → IsRanked kind P b → a < b → Precedes (finding_rank (finding_at kind a)) (finding_rank (finding_at kind b))
rise kind P a b r s less =
    rw (its_finding kind P a r, its_finding kind P b s)
    (findings_rise kind r.from r.to r.round r.order s.from s.to s.round s.order r.small s.small (subst (λ k. rank_number r.from r.to r.round r.order < k) s.rank (subst (λ k. k < b) r.rank less)))

-- so the findings of ascending ranks are exactly what has the property, in their one order
pub ranked_found : (kind : Kind) (P : Finding → Type 0) (ranks : List ℕ) → AllPairs (λ a b. a < b) ranks → ((k : ℕ) → Contains ranks k → IsRanked kind P k) → ((f : Finding) → P f → StandsAt kind ranks f) → AreFindings P (map (finding_at kind) ranks)
ranked_found kind P ranks up ranked found = record {
  in_order = pairs_mapped (finding_at kind) (IsRanked kind P) (λ x y. Precedes (finding_rank x) (finding_rank y)) (rise kind P) ranks ranked up;
  members = λ f. (
    (λ h. let m = Contains_mapped (finding_at kind) ranks f h in let r = ranked m.0 m.1 in subst P (sym (its_finding kind P m.0 r) ∙ m.2) r.holds),
    (λ h.
        let s = found f h in
        subst (Contains (map (finding_at kind) ranks)) (finding_back kind s.from s.to s.round s.order s.small ∙ sym s.is) (in_mapped (finding_at kind) ranks (rank_number s.from s.to s.round s.order) s.stands)),
  );
}
