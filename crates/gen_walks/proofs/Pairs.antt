-- The best walks, pair by pair.
use Rattle.std.proofs.Common.{ℕ, ◌+◌, ◌≤◌, ◌↔◌, inl, inr, List, [], ◌∷◌, ◌++◌, Contains, AllPairs, refl, subst, arith}
use Rattle.std.specs.List.{AllZip}
use Rattle.std.proofs.lemmas.Bool.{cases_eq}
use Rattle.std.proofs.lemmas.List.Elements.{Contains-append_cases, Contains-append_left, Contains-push}
use Rattle.gen_types.proofs.Lists.{Contains_here, Contains_there, Contains_cases, Contains_nil, AllPairs-append}
use Rattle.gen_net.specs.Network.{Network, IsBefore}
use Rattle.gen_walks.specs.Walks.{IsPair, IsPairBefore, HasShortWalk, BoundsDiameter, IsLeastBadPair}
use Rattle.gen_walks.specs.BestWalks.{IsBestFor, AreBestFor, AreBestWalks}
use Rattle.gen_walks.specs.Faults.{Explains, IsWalkFault}
use Rattle.gen_walks.specs.declared.fault.WalkFault.{WalkFault}
use Rattle.gen_walks.specs.declared.fault.WalkFault.TheVariants.{Memory, NoWalk, TooLong}
use Rattle.gen_walks.proofs.Distances.{none_short}

zip_push : (net : Network) (rest : List ℕ) (ps : List (ℕ × ℕ)) (ws : List (List ℕ)) (p : ℕ × ℕ) (w : List ℕ) → AllZip (IsBestFor net rest) ps ws → IsBestFor net rest p w → AllZip (IsBestFor net rest) (ps ++ p ∷ []) (ws ++ w ∷ [])
zip_push net rest [] [] p w h best = (best, tt)
zip_push net rest [] (v ∷ ws) p w h best = absurd h
zip_push net rest (q ∷ ps) [] p w h best = absurd h
zip_push net rest (q ∷ ps) (v ∷ ws) p w h best = (h.0, zip_push net rest ps ws p w h.1 best)

-- the walk of a pair in the list
walk_at : (net : Network) (rest : List ℕ) (ps : List (ℕ × ℕ)) (ws : List (List ℕ)) (p : ℕ × ℕ) → AllZip (IsBestFor net rest) ps ws → Contains ps p → (w : List ℕ) × Contains ws w × IsBestFor net rest p w
walk_at net rest [] ws p h c = absurd (Contains_nil p c)
walk_at net rest (q ∷ ps) [] p h c = absurd h
walk_at net rest (q ∷ ps) (v ∷ ws) p h c = elim (Contains_cases q p ps c) [
  | inl e ↦ (v, Contains_here v ws, subst (λ z. IsBestFor net rest z v) e h.0)
  | inr more ↦ let w = walk_at net rest ps ws p h.1 more in (w.0, Contains_there v w.0 ws w.1, w.2)
]

one_pair : (a b : ℕ) → AllPairs IsBefore ((a, b) ∷ [])
one_pair a b i j d l m = absurd (omega arith)

-- no pair stands before (0, 0)
pub none_yet : (net : Network) (rest : List ℕ) → AreBestFor net rest (IsPairBefore net rest 0 0) []
none_yet net rest = record {
  pairs = [];
  ascending = λ i j d l m. absurd (omega arith);
  members = λ x y. ((λ h. absurd (Contains_nil (x, y) h)), (λ h. elim h.1 [ inl l ↦ absurd (omega arith) | inr (q, l) ↦ absurd (omega arith) ]));
  best = tt;
}

pub pair_added : (net : Network) (rest : List ℕ) (a b : ℕ) (walks : List (List ℕ)) (walk : List ℕ) → AreBestFor net rest (IsPairBefore net rest a b) walks → IsPair net rest a b → IsBestFor net rest (a, b) walk → AreBestFor net rest (IsPairBefore net rest a (b + 1)) (walks ++ walk ∷ [])
pair_added net rest a b walks walk so p best = record {
  pairs = so.pairs ++ (a, b) ∷ [];
  ascending = AllPairs-append IsBefore so.pairs ((a, b) ∷ []) so.ascending (one_pair a b) (λ x y hx hy. elim (Contains_cases (a, b) y [] hy) [
    | inl e ↦ subst (λ z. IsBefore x z) e ((so.members x.0 x.1).0 hx).1
    | inr none ↦ absurd (Contains_nil y none)
  ]);
  members = λ x y. (
    (λ h. elim (Contains-append_cases so.pairs ((a, b) ∷ []) (x, y) h) [
      | inl before ↦
          let r = (so.members x y).0 before in
          (r.0, elim r.1 [ inl l ↦ inl l | inr (q, l) ↦ inr (q, omega arith) ])
      | inr last ↦ elim (Contains_cases (a, b) (x, y) [] last) [
        | inl e ↦ subst (λ z. IsPairBefore net rest a (b + 1) z.0 z.1) e (p, inr (refl, omega arith))
        | inr none ↦ absurd (Contains_nil (x, y) none)
      ]
    ]),
    (λ h. elim h.1 [
      | inl l ↦ Contains-append_left so.pairs ((a, b) ∷ []) (x, y) ((so.members x y).1 (h.0, inl l))
      | inr (q, l) ↦ elim (cases_eq y b) [
        | inl r ↦ rw (q, r) (Contains-push so.pairs (a, b))
        | inr n ↦ Contains-append_left so.pairs ((a, b) ∷ []) (x, y) ((so.members x y).1 (h.0, inr (q, omega arith)))
      ]
    ]),
  );
  best = zip_push net rest so.pairs walks (a, b) walk so.best best;
}

-- the same pairs are asked for where both say so
asked_alike : (net : Network) (rest : List ℕ) (Asked Other : ℕ → ℕ → Type 0) (walks : List (List ℕ)) → ((x y : ℕ) → Asked x y ↔ Other x y) → AreBestFor net rest Asked walks → AreBestFor net rest Other walks
asked_alike net rest Asked Other walks alike so = record {
  pairs = so.pairs;
  ascending = so.ascending;
  members = λ x y. ((λ h. (alike x y).0 ((so.members x y).0 h)), (λ h. (so.members x y).1 ((alike x y).1 h)));
  best = so.best;
}

pub pair_passed : (net : Network) (rest : List ℕ) (a b : ℕ) (walks : List (List ℕ)) → AreBestFor net rest (IsPairBefore net rest a b) walks → (IsPair net rest a b → ⊥) → AreBestFor net rest (IsPairBefore net rest a (b + 1)) walks
pair_passed net rest a b walks so none = asked_alike net rest (IsPairBefore net rest a b) (IsPairBefore net rest a (b + 1)) walks (λ x y. (
  (λ h. (h.0, elim h.1 [ inl l ↦ inl l | inr (q, l) ↦ inr (q, omega arith) ])),
  (λ h. (
    h.0,
    elim h.1 [
      | inl l ↦ inl l
      | inr (q, l) ↦ elim (cases_eq y b) [
        | inl r ↦ absurd (none (subst (λ z. IsPair net rest z b) q (subst (λ z. IsPair net rest x z) r h.0)))
        | inr n ↦ inr (q, omega arith)
      ]
    ],
  )),
)) so

pub row_passed : (net : Network) (rest : List ℕ) (a n : ℕ) (walks : List (List ℕ)) → net.generals ≤ n → AreBestFor net rest (IsPairBefore net rest a n) walks → AreBestFor net rest (IsPairBefore net rest (a + 1) 0) walks
row_passed net rest a n walks le so = asked_alike net rest (IsPairBefore net rest a n) (IsPairBefore net rest (a + 1) 0) walks (λ x y. (
  (λ h. (h.0, elim h.1 [ inl l ↦ inl (omega arith) | inr (q, l) ↦ inl (omega arith) ])),
  (λ h. (
    h.0,
    elim h.1 [
      | inl l ↦ elim (cases_eq x a) [
        | inl q ↦ inr (q, omega (arith, h.0.2.0))
        | inr n ↦ inl (omega arith)
      ]
      | inr (q, l) ↦ absurd (omega arith)
    ],
  )),
)) so

pub all_passed : (net : Network) (rest : List ℕ) (n : ℕ) (walks : List (List ℕ)) → net.generals ≤ n → AreBestFor net rest (IsPairBefore net rest n 0) walks → AreBestWalks net rest walks
all_passed net rest n walks le so = asked_alike net rest (IsPairBefore net rest n 0) (IsPair net rest) walks (λ x y. (
  (λ h. h.0),
  (λ h. (h, inl (omega (arith, h.1.0)))),
)) so

pub bounds : (net : Network) (rest : List ℕ) (walks : List (List ℕ)) → AreBestWalks net rest walks → BoundsDiameter net rest walks
bounds net rest walks so a b p =
    let w = walk_at net rest so.pairs walks (a, b) so.best ((so.members a b).1 p) in
    (w.0, w.1, (w.2.0.leads, w.2.1))

least_of : (net : Network) (rest : List ℕ) (a b : ℕ) (walks : List (List ℕ)) → IsPair net rest a b → AreBestFor net rest (IsPairBefore net rest a b) walks → (HasShortWalk net rest a b → ⊥) → IsLeastBadPair net rest (HasShortWalk net rest) a b
least_of net rest a b walks p so none = record {
  pair = p;
  bad = none;
  least = λ x y h. let w = walk_at net rest so.pairs walks (x, y) so.best ((so.members x y).1 h) in (w.0, (w.2.0.leads, w.2.1));
}

pub fault_of : (net : Network) (rest : List ℕ) (a b : ℕ) (walks : List (List ℕ)) (fault : WalkFault) → IsPair net rest a b → AreBestFor net rest (IsPairBefore net rest a b) walks → Explains net rest a b fault → IsWalkFault net rest fault
fault_of net rest a b walks Memory p so h = tt
fault_of net rest a b walks (NoWalk q row) p so (ea, eb, far, at, none) = rw (ea, eb) (least_of net rest a b walks p so (λ w. none w.0 w.1.0), (refl, refl, far, at, none))
fault_of net rest a b walks (TooLong q row edges) p so (ea, eb, far, at, long, more) = rw (ea, eb) (least_of net rest a b walks p so (none_short net rest a b edges long more), (refl, refl, far, at, long, more))
