-- Where entries depart, said of the first that may not follow.
use Rattle.std.proofs.Common.{◌≡◌, ℕ, zero, suc, ◌+◌, ◌<◌, ◌≤◌, ◌↔◌, inl, inr, List, [], ◌∷◌, ◌++◌, length, take, drop, map, replicate, get_or, Option, Some, None, refl, sym, ap, ◌∙◌, subst, arith, append_assoc}
use Rattle.std.proofs.lemmas.Bool.{cases_order}
use Rattle.std.proofs.lemmas.List.{take-append-drop, take-take, take_all, take_more, map-append, length-map}
use Rattle.gen_net.specs.Network.{Network, IsNetwork}
use Rattle.gen_net.proofs.Neighbours.{joined_below}
use Rattle.gen_net.specs.Log.{LogEntry, Started, Signed, Sent, Received, Decided}
use Rattle.gen_net.specs.Departs.{IsFollowersLog, Begins, DepartsAt}
use Rattle.gen_log.specs.Entry.{erase}
use Rattle.gen_log.specs.declared.entries.Entry.{Entry}
use Rattle.gen_local.specs.Following.{MayFollow, IsSound}
use Rattle.gen_local.proofs.Whole.{begun_by_one_more}
use Rattle.gen_local.specs.Erased.{erased}
use Rattle.gen_local.specs.Walking.Brought.{SendsInside}

-- ---- one entry more
pub erased_more : (es : List Entry) (i : ℕ) (d : Entry) → i < length es → d ≡ get_or es i d → erased (take (i + 1) es) ≡ erased (take i es) ++ erase d ∷ []
erased_more es i d l q =
    let one : take (i + 1) es ≡ take i es ++ d ∷ [] = take_more es i d l ∙ ap (λ x. take i es ++ x ∷ []) (sym q) in
    ap (λ xs. map erase xs) one ∙ map-append erase (take i es) (d ∷ [])

pub erased_take : (es : List Entry) (i : ℕ) → take i (erased es) ≡ erased (take i es)
erased_take [] zero = refl
erased_take [] (suc i) = refl
erased_take (e ∷ es) zero = refl
erased_take (e ∷ es) (suc i) = ap (λ xs. erase e ∷ xs) (erased_take es i)

pub sends_inside : (net : Network) (g : ℕ) (before : List LogEntry) → IsNetwork net → (e : LogEntry) → IsSound net g before e → SendsInside net e
sends_inside net g before ok (Started general own) h = tt
sends_inside net g before ok (Signed v path) h = tt
sends_inside net g before ok (Sent to v path) h = joined_below net ok g to h.1
sends_inside net g before ok (Received from v path) h = tt
sends_inside net g before ok (Decided set order) h = tt

pub blank : {X : Type 0} (x : X) (n i : ℕ) → get_or (replicate n x) i x ≡ x
blank x zero i = refl
blank x (suc n) zero = refl
blank x (suc n) (suc i) = blank x n i

-- ---- beginnings of beginnings
begins_front : (net : Network) (g : ℕ) (xs ys : List LogEntry) → Begins net g (xs ++ ys) → Begins net g xs
begins_front net g xs ys b = (ys ++ b.0, subst (IsFollowersLog net g) (append_assoc xs ys b.0) b.1)

begins_take : (net : Network) (g : ℕ) (xs : List LogEntry) (n : ℕ) → Begins net g xs → Begins net g (take n xs)
begins_take net g xs n b = begins_front net g (take n xs) (drop n xs) (subst (Begins net g) (sym (take-append-drop n xs)) b)

begins_less : (net : Network) (g : ℕ) (xs : List LogEntry) (n m : ℕ) → n ≤ m → Begins net g (take m xs) → Begins net g (take n xs)
begins_less net g xs n m l b = subst (Begins net g) (take-take n m xs l) (begins_take net g (take m xs) n b)

departs_once : (net : Network) (g : ℕ) (xs : List LogEntry) (p q : ℕ) → DepartsAt net g xs p → DepartsAt net g xs q → p ≡ q
departs_once net g xs p q a b = elim (cases_order p q) [
  | inl e ↦ e
  | inr (inl l) ↦ absurd (a.2 (begins_less net g xs (p + 1) q (omega (arith, l)) b.1))
  | inr (inr l) ↦ absurd (b.2 (begins_less net g xs (q + 1) p (omega (arith, l)) a.1))
]

-- ---- an entry that may not follow, and none
abbrev nothing : Option ℕ
nothing = None

module _ (net : Network) (g : ℕ) (ok : IsNetwork net) (known : g < net.generals) (es : List Entry) where
  module _ (i : ℕ) (d : Entry) (l : i < length es) (q : d ≡ get_or es i d) (begun : Begins net g (erased (take i es))) (refused : MayFollow net g (erased (take i es)) (erase d) → ⊥) where
    departs_here : DepartsAt net g (erased es) i
    departs_here = (
      omega (arith, l, length-map es erase),
      subst (Begins net g) (sym (erased_take es i)) begun,
      λ b. refused ((begun_by_one_more net g ok known (erased (take i es)) (erase d)).0 (subst (Begins net g) (erased_take es (i + 1) ∙ erased_more es i d l q) b)).1,
    )

    pub refused_departs : (p : ℕ) → (Some i ≡ Some p) ↔ DepartsAt net g (erased es) p
    refused_departs p = (
      (λ s. let e : i ≡ p = cc in subst (DepartsAt net g (erased es)) e departs_here),
      (λ h. ap (λ n. Some n) (departs_once net g (erased es) i p departs_here h)),
    )

    pub refused_begins : (Some i ≡ None) ↔ Begins net g (erased es)
    refused_begins = (
      (λ s. absurd (cc)),
      (λ b. absurd (departs_here.2 (begins_take net g (erased es) (i + 1) b))),
    )

  module _ (i : ℕ) (all : length es ≤ i) (begun : Begins net g (erased (take i es))) where
    whole_begins : Begins net g (erased es)
    whole_begins = subst (Begins net g) (ap (λ xs. map erase xs) (take_all i es all)) begun

    pub none_departs : (p : ℕ) → (nothing ≡ Some p) ↔ DepartsAt net g (erased es) p
    none_departs p = (
      (λ s. absurd (cc)),
      (λ h. absurd (h.2 (begins_take net g (erased es) (p + 1) whole_begins))),
    )

    pub none_begins : (nothing ≡ None) ↔ Begins net g (erased es)
    none_begins = ((λ s. whole_begins), (λ b. refl))

-- ---- the entry that may follow
pub begun_more : (net : Network) (g : ℕ) → IsNetwork net → g < net.generals → (before : List LogEntry) (e : LogEntry) → Begins net g before → MayFollow net g before e → Begins net g (before ++ e ∷ [])
begun_more net g ok known before e b m = (begun_by_one_more net g ok known before e).1 (b, m)
