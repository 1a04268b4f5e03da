-- The list of the chains that count: it has exactly the chains that count, in the order of their parcels, and grows parcel by
-- parcel.
use Rattle.std.proofs.Common.{◌≡◌, ◌≢◌, ◌≤◌, ◌⊎◌, inl, inr, ℕ, Bool, true, false, not, ◌&&◌, List, [], ◌∷◌, ◌++◌, filter, length, Contains, AllPairs, refl, sym, ap, subst, ◌∙◌, append_assoc, arith, eqb, Result, Ok, Err}
use Rattle.std.specs.Prelude.{nat_le}
use Rattle.std.specs.List.{flat_map}
use Rattle.std.proofs.lemmas.List.{append-nil}
use Rattle.std.proofs.lemmas.List.Concat.{flat_map-cons}
use Rattle.std.proofs.lemmas.List.Elements.{filter-append}
use Rattle.std.proofs.lemmas.List.Kept.{AllPairs-cons, AllPairs-filter}
use Rattle.std.proofs.lemmas.Bool.{eqb-true, eq-eqb, le-leb, leb-true, cases_eq}
use Rattle.gen_types.specs.Ends.{EndsWith, is_among}
use Rattle.gen_types.proofs.Among.{among_out, out_among}
use Rattle.gen_types.proofs.Lists.{Contains_here, Contains_there, Contains_cases, Contains_nil, Contains_filtered, All_of, decide_some, bool_cases}
use Rattle.gen_net.specs.Header.{RunHeader, height_of}
use Rattle.gen_chain.specs.declared.fault.ChainFault.{ChainFault}
use Rattle.gen_chain.specs.Chain.{Chain, signed_path, chain_spelling}
use Rattle.gen_chain.specs.ChainReading.{chain_at}
use Rattle.gen_chain.proofs.ChainLaws.{chain_parts, chains_read}
use Rattle.gen_scenario.specs.declared.delivery.Delivery.{Delivery}
use Rattle.gen_scenario.specs.Counting.{MayCount, Carries, Counts, AreCounted}
use Rattle.gen_scenario.specs.Counted.{is_last, may_count, if_whole, carried_by, firsts, counted_of, CountsThese}
use Rattle.gen_scenario.specs.Listing.{AreListed}
use Rattle.gen_chain.specs.Verified.{is_verified}
use Rattle.gen_chain.proofs.TestedChains.{both, and_so, tests_verifying}
use Rattle.gen_scenario.proofs.Having.{in_filtered, not_true, true_false}

-- ---- tests

not_false : (b : Bool) → b ≡ false → not b ≡ true
not_false b e = rw e refl

last_has : (path : List ℕ) (g : ℕ) → is_last path g ≡ true → EndsWith path g
last_has [] g e = absurd cc
last_has (a ∷ []) g e = ([], ap (λ (x : ℕ). x ∷ []) (eqb-true a g e))
last_has (a ∷ b ∷ path) g e = let r = last_has (b ∷ path) g e in (a ∷ r.0, ap (λ (xs : List ℕ). a ∷ xs) r.1)

last_there : (front : List ℕ) (g : ℕ) → is_last (front ++ g ∷ []) g ≡ true
last_there [] g = eq-eqb g g refl
last_there (a ∷ []) g = eq-eqb g g refl
last_there (a ∷ b ∷ front) g = last_there (b ∷ front) g

last_gives : (path : List ℕ) (g : ℕ) → EndsWith path g → is_last path g ≡ true
last_gives path g ends = subst (λ (p : List ℕ). is_last p g ≡ true) (sym ends.1) (last_there ends.0 g)

-- ---- what a parcel carries

may_has : (h : RunHeader) (d : Delivery) (c : Chain) → may_count h d c ≡ true → MayCount h d c
unfolding may_count
may_has h d c e =
    let p = both (eqb (length (signed_path c.signers)) d.round && is_last (signed_path c.signers) d.from) (not (is_among (signed_path c.signers) d.to) && is_verified h c) e in
    let q = both (eqb (length (signed_path c.signers)) d.round) (is_last (signed_path c.signers) d.from) p.0 in
    let r = both (not (is_among (signed_path c.signers) d.to)) (is_verified h c) p.1 in
    record {
      verifies = (tests_verifying h c).0 r.1;
      in_time = eqb-true _ _ q.0;
      from_sender = last_has (signed_path c.signers) d.from q.1;
      outside = among_out (signed_path c.signers) d.to (not_true (is_among (signed_path c.signers) d.to) r.0);
    }

may_gives : (h : RunHeader) (d : Delivery) (c : Chain) → MayCount h d c → may_count h d c ≡ true
unfolding may_count
may_gives h d c m =
    and_so (eqb (length (signed_path c.signers)) d.round && is_last (signed_path c.signers) d.from) (not (is_among (signed_path c.signers) d.to) && is_verified h c)
    (and_so (eqb (length (signed_path c.signers)) d.round) (is_last (signed_path c.signers) d.from) (eq-eqb _ _ m.in_time) (last_gives (signed_path c.signers) d.from m.from_sender))
    (and_so (not (is_among (signed_path c.signers) d.to)) (is_verified h c) (not_false (is_among (signed_path c.signers) d.to) (out_among (signed_path c.signers) d.to m.outside)) ((tests_verifying h c).1 m.verifies))

none_left : (rest : List ℕ) → eqb (length rest) 0 ≡ true → rest ≡ []
none_left [] e = refl
none_left (b ∷ rest) e = absurd (omega (arith, eqb-true _ _ e))

whole_has : (h : RunHeader) (d : Delivery) (parcel : List ℕ) (r : Result (Chain × List ℕ) ChainFault) → chain_at (height_of h) parcel ≡ r → (c : Chain) → Contains (if_whole h d r) c → Carries h d parcel c
whole_has h d parcel (Err f) e c k = absurd (Contains_nil c k)
whole_has h d parcel (Ok read) e c k = elim (bool_cases (eqb (length read.1) 0 && may_count h d read.0)) [
  | inr out ↦ absurd (Contains_nil c (rw out at k))
  | inl test ↦
      let one : Contains (read.0 ∷ []) c = rw test at k in
      let p = both (eqb (length read.1) 0) (may_count h d read.0) test in
      let parts = chain_parts (height_of h) parcel read e in
      let spelled : parcel ≡ chain_spelling read.0 = parts.0 ∙ ap (λ (r : List ℕ). chain_spelling read.0 ++ r) (none_left read.1 p.0) ∙ append-nil (chain_spelling read.0) in
      let made : Carries h d parcel read.0 = record { spelled = spelled; is_chain = parts.1; may_count = may_has h d read.0 p.1 } in
      elim (Contains_cases read.0 c [] one) [ inl same ↦ subst (λ x. Carries h d parcel x) same made | inr none ↦ absurd (Contains_nil c none) ]
]

pub carried_has : (h : RunHeader) (d : Delivery) (parcel : List ℕ) (c : Chain) → Contains (carried_by h d parcel) c → Carries h d parcel c
unfolding carried_by
carried_has h d parcel c k = whole_has h d parcel (chain_at (height_of h) parcel) refl c k

pub carried_gives : (h : RunHeader) (d : Delivery) (parcel : List ℕ) (c : Chain) → Carries h d parcel c → carried_by h d parcel ≡ c ∷ []
unfolding carried_by
carried_gives h d parcel c k =
    let read : chain_at (height_of h) parcel ≡ Ok (c, []) = ap (chain_at (height_of h)) (k.spelled ∙ sym (append-nil (chain_spelling c))) ∙ (chains_read (height_of h)).again c [] k.is_chain in
    rw (read, may_gives h d c k.may_count) refl

-- a parcel carries one chain
pub carries_one : (h : RunHeader) (d : Delivery) (parcel : List ℕ) (c k : Chain) → Carries h d parcel c → Carries h d parcel k → c ≡ k
carries_one h d parcel c k one two = let e : c ∷ [] ≡ k ∷ [] = sym (carried_gives h d parcel c one) ∙ carried_gives h d parcel k two in cc

one_or_none : (h : RunHeader) (d : Delivery) (r : Result (Chain × List ℕ) ChainFault) → (if_whole h d r ≡ []) ⊎ ((k : Chain) × (if_whole h d r ≡ k ∷ []))
one_or_none h d (Err f) = inl refl
one_or_none h d (Ok read) = elim (bool_cases (eqb (length read.1) 0 && may_count h d read.0)) [
  | inl e ↦ inr (read.0, rw e refl)
  | inr e ↦ inl (rw e refl)
]

carried_cases : (h : RunHeader) (d : Delivery) (parcel : List ℕ) → (carried_by h d parcel ≡ []) ⊎ ((k : Chain) × (carried_by h d parcel ≡ k ∷ []))
unfolding carried_by
carried_cases h d parcel = one_or_none h d (chain_at (height_of h) parcel)

-- the chain of a parcel that carries one
carries_it : (h : RunHeader) (d : Delivery) (parcel : List ℕ) (k : Chain) → carried_by h d parcel ≡ k ∷ [] → Carries h d parcel k
carries_it h d parcel k e = carried_has h d parcel k (subst (λ (cs : List Chain). Contains cs k) (sym e) (Contains_here k []))

carries_none : (h : RunHeader) (d : Delivery) (parcel : List ℕ) (k : Chain) → carried_by h d parcel ≡ [] → Carries h d parcel k → ⊥
carries_none h d parcel k e c = let both : k ∷ [] ≡ [] = sym (carried_gives h d parcel k c) ∙ e in cc

-- ---- first ones

abbrev others : Chain → List Chain → List Chain
others c cs = filter (λ k. not (eqb k.order c.order)) cs

firsts_cons : (c : Chain) (cs : List Chain) → firsts (c ∷ cs) ≡ c ∷ others c (firsts cs)
unfolding firsts
firsts_cons c cs = refl

pub firsts_from : (cs : List Chain) (c : Chain) → Contains (firsts cs) c → Contains cs c
unfolding firsts
firsts_from [] c h = absurd (Contains_nil c h)
firsts_from (x ∷ cs) c h = elim (Contains_cases x c (filter (λ k. not (eqb k.order x.order)) (firsts cs)) h) [
  | inl e ↦ subst (λ z. Contains (x ∷ cs) z) e (Contains_here x cs)
  | inr t ↦ Contains_there x c cs (firsts_from cs c (Contains_filtered (λ k. not (eqb k.order x.order)) (firsts cs) c t).0)
]

abbrev pub OtherOrder : Chain → Chain → Type 0
OtherOrder a b = a.order ≢ b.order

pub firsts_apart : (cs : List Chain) → AllPairs OtherOrder (firsts cs)
unfolding firsts
firsts_apart [] = λ i j d l m. absurd (omega arith)
firsts_apart (c ∷ cs) = AllPairs-cons OtherOrder c (filter (λ k. not (eqb k.order c.order)) (firsts cs))
    (All_of (OtherOrder c) (filter (λ k. not (eqb k.order c.order)) (firsts cs)) (λ k h e.
    let out = not_true (eqb k.order c.order) (Contains_filtered (λ (k : Chain). not (eqb k.order c.order)) (firsts cs) k h).1 in
    true_false (eqb k.order c.order) (eq-eqb _ _ (sym e)) out))
    (AllPairs-filter OtherOrder (λ k. not (eqb k.order c.order)) (firsts cs) (firsts_apart cs))

-- ---- chains that count

-- the chain is the first of its order that these parcels carry
record IsFirst (h : RunHeader) (d : Delivery) (parcels : List (List ℕ)) (c : Chain) : Type 0 where
  before : List (List ℕ)
  parcel : List ℕ
  after : List (List ℕ)
  stands : parcels ≡ before ++ parcel ∷ after
  carried : Carries h d parcel c
  first : (other : List ℕ) (k : Chain) → Contains before other → Carries h d other k → k.order ≢ c.order

first_place : (h : RunHeader) (d : Delivery) (frame : List (List ℕ)) (c : Chain) → Contains (firsts (flat_map (carried_by h d) frame)) c → IsFirst h d frame c
unfolding firsts
first_place h d [] c k = absurd (Contains_nil c k)
first_place h d (p ∷ frame) c k =
    let all : Contains (firsts (carried_by h d p ++ flat_map (carried_by h d) frame)) c = rw flat_map-cons at k in
    elim (carried_cases h d p) [
      | inl none ↦
          let rest : Contains (firsts (flat_map (carried_by h d) frame)) c = subst (λ (cs : List Chain). Contains (firsts (cs ++ flat_map (carried_by h d) frame)) c) none all in
          let f = first_place h d frame c rest in
          record {
            before = p ∷ f.before;
            parcel = f.parcel;
            after = f.after;
            stands = ap (λ (ps : List (List ℕ)). p ∷ ps) f.stands;
            carried = f.carried;
            first = λ other x inside carries. elim (Contains_cases p other f.before inside) [
              | inl e ↦ absurd (carries_none h d p x none (subst (λ (q : List ℕ). Carries h d q x) (sym e) carries))
              | inr t ↦ f.first other x t carries
            ];
          }
      | inr one ↦
          let x = one.0 in
          let longer : Contains (firsts (x ∷ flat_map (carried_by h d) frame)) c = subst (λ (cs : List Chain). Contains (firsts (cs ++ flat_map (carried_by h d) frame)) c) one.1 all in
          let split : Contains (x ∷ others x (firsts (flat_map (carried_by h d) frame))) c = subst (λ (cs : List Chain). Contains cs c) (firsts_cons x (flat_map (carried_by h d) frame)) longer in
          elim (Contains_cases x c (others x (firsts (flat_map (carried_by h d) frame))) split) [
            | inl e ↦ record {
              before = [];
              parcel = p;
              after = frame;
              stands = refl;
              carried = subst (λ y. Carries h d p y) e (carries_it h d p x one.1);
              first = λ other y inside carries. absurd (Contains_nil other inside);
            }
            | inr t ↦
                let kept = Contains_filtered (λ (y : Chain). not (eqb y.order x.order)) (firsts (flat_map (carried_by h d) frame)) c t in
                let f = first_place h d frame c kept.0 in
                record {
                  before = p ∷ f.before;
                  parcel = f.parcel;
                  after = f.after;
                  stands = ap (λ (ps : List (List ℕ)). p ∷ ps) f.stands;
                  carried = f.carried;
                  first = λ other y inside carries. elim (Contains_cases p other f.before inside) [
                    | inl e ↦
                        let same : x ≡ y = carries_one h d p x y (carries_it h d p x one.1) (subst (λ (q : List ℕ). Carries h d q y) (sym e) carries) in
                        λ order. true_false (not (eqb c.order x.order)) kept.1 (rw (eq-eqb c.order x.order (sym order ∙ ap (λ (z : Chain). z.order) (sym same))) refl)
                    | inr s ↦ f.first other y s carries
                  ];
                }
          ]
    ]

place_first : (h : RunHeader) (d : Delivery) (before : List (List ℕ)) (parcel : List ℕ) (after : List (List ℕ)) (c : Chain) → Carries h d parcel c → ((other : List ℕ) (k : Chain) → Contains before other → Carries h d other k → k.order ≢ c.order) → Contains (firsts (flat_map (carried_by h d) (before ++ parcel ∷ after))) c
place_first h d [] parcel after c carries new =
    let one = carried_gives h d parcel c carries in
    let frame : flat_map (carried_by h d) (parcel ∷ after) ≡ c ∷ flat_map (carried_by h d) after = flat_map-cons (carried_by h d) parcel after ∙ ap (λ (cs : List Chain). cs ++ flat_map (carried_by h d) after) one in
    subst (λ (cs : List Chain). Contains cs c) (sym (firsts_cons c (flat_map (carried_by h d) after)) ∙ ap firsts (sym frame)) (Contains_here c (others c (firsts (flat_map (carried_by h d) after))))
place_first h d (p ∷ before) parcel after c carries new =
    let rest = place_first h d before parcel after c carries (λ other k inside. new other k (Contains_there p other before inside)) in
    let tail = flat_map (carried_by h d) (before ++ parcel ∷ after) in
    let cons = flat_map-cons (carried_by h d) p (before ++ parcel ∷ after) in
    elim (carried_cases h d p) [
      | inl none ↦
          let frame : flat_map (carried_by h d) (p ∷ (before ++ parcel ∷ after)) ≡ tail = cons ∙ ap (λ (cs : List Chain). cs ++ tail) none in
          subst (λ (cs : List Chain). Contains (firsts cs) c) (sym frame) rest
      | inr one ↦
          let x = one.0 in
          let frame : flat_map (carried_by h d) (p ∷ (before ++ parcel ∷ after)) ≡ x ∷ tail = cons ∙ ap (λ (cs : List Chain). cs ++ tail) one.1 in
          let other : x.order ≢ c.order = new p x (Contains_here p before) (carries_it h d p x one.1) in
          let passes : not (eqb c.order x.order) ≡ true = elim (bool_cases (eqb c.order x.order)) [ inl e ↦ absurd (other (sym (eqb-true _ _ e))) | inr e ↦ rw e refl ] in
          let there : Contains (x ∷ others x (firsts tail)) c = Contains_there x c (others x (firsts tail)) (in_filtered (λ (y : Chain). not (eqb y.order x.order)) (firsts tail) c rest passes) in
          subst (λ (cs : List Chain). Contains cs c) (sym (firsts_cons x tail) ∙ ap firsts (sym frame)) there
    ]

counts_has : (h : RunHeader) (d : Delivery) (frame : List (List ℕ)) (c : Chain) → Contains (counted_of h d frame) c → Counts h d frame c
unfolding counted_of
counts_has h d frame c k = elim (bool_cases (nat_le (length frame) h.network.orders)) [
  | inr many ↦ absurd (Contains_nil c (rw many at k))
  | inl few ↦
      let first : Contains (firsts (flat_map (carried_by h d) frame)) c = rw few at k in
      let f = first_place h d frame c first in
      record { few = leb-true _ _ few; before = f.before; parcel = f.parcel; after = f.after; stands = f.stands; carried = f.carried; first = f.first }
]

counts_gives : (h : RunHeader) (d : Delivery) (frame : List (List ℕ)) (c : Chain) → Counts h d frame c → Contains (counted_of h d frame) c
unfolding counted_of
counts_gives h d frame c k =
    let test : nat_le (length frame) h.network.orders ≡ true = le-leb _ _ k.few in
    rw test (subst (λ (ps : List (List ℕ)). Contains (firsts (flat_map (carried_by h d) ps)) c) (sym k.stands) (place_first h d k.before k.parcel k.after c k.carried k.first))

pub counted_apart : (h : RunHeader) (d : Delivery) (frame : List (List ℕ)) → AllPairs OtherOrder (counted_of h d frame)
unfolding counted_of
counted_apart h d frame = elim (bool_cases (nat_le (length frame) h.network.orders)) [
  | inl few ↦ rw few (firsts_apart (flat_map (carried_by h d) frame))
  | inr many ↦ rw many (λ i j e l m. absurd (omega arith))
]

pub counts_these : CountsThese
counts_these h d frame = record {
  exactly = λ c. (counts_has h d frame c, counts_gives h d frame c);
  once = counted_apart h d frame;
}

pub as_counted : (h : RunHeader) (d : Delivery) (frame : List (List ℕ)) (chains : List Chain) → chains ≡ counted_of h d frame → AreCounted h d frame chains
as_counted h d frame chains e = subst (AreCounted h d frame) (sym e) (counts_these h d frame)

-- ---- one parcel more

-- one of these chains has the order
abbrev HasOrder : List Chain → ℕ → Type 0
HasOrder cs v = (k : Chain) × Contains cs k × (k.order ≡ v)

firsts_new : (cs : List Chain) (c : Chain) → (HasOrder cs c.order → ⊥) → firsts (cs ++ c ∷ []) ≡ firsts cs ++ c ∷ []
unfolding firsts
firsts_new [] c new = refl
firsts_new (x ∷ cs) c new =
    let tail = firsts_new cs c (λ k. new (k.0, Contains_there x k.0 cs k.1, k.2)) in
    let passes : not (eqb c.order x.order) ≡ true = elim (bool_cases (eqb c.order x.order)) [ inl e ↦ absurd (new (x, Contains_here x cs, sym (eqb-true _ _ e))) | inr e ↦ rw e refl ] in
    let last : others x (c ∷ []) ≡ c ∷ [] = rw passes refl in
    ap (λ (ks : List Chain). x ∷ ks) (ap (others x) tail ∙ filter-append (λ (k : Chain). not (eqb k.order x.order)) (firsts cs) (c ∷ []) ∙ ap (λ (ks : List Chain). others x (firsts cs) ++ ks) last)

firsts_known : (cs : List Chain) (c : Chain) → HasOrder cs c.order → firsts (cs ++ c ∷ []) ≡ firsts cs
unfolding firsts
firsts_known [] c has = absurd (Contains_nil has.0 has.1)
firsts_known (x ∷ cs) c has = elim (decide_some (λ (k : Chain). k.order ≡ c.order) (λ k. cases_eq k.order c.order) cs) [
  | inl again ↦ ap (λ (ks : List Chain). x ∷ others x ks) (firsts_known cs c again)
  | inr never ↦
      let tail = firsts_new cs c (λ k. never k.0 k.1 k.2) in
      let same : x.order ≡ c.order = elim (Contains_cases x has.0 cs has.1) [ inl e ↦ ap (λ (k : Chain). k.order) e ∙ has.2 | inr t ↦ absurd (never has.0 t has.2) ] in
      let gone : others x (c ∷ []) ≡ [] = rw (eq-eqb c.order x.order (sym same)) refl in
      ap (λ (ks : List Chain). x ∷ ks) (ap (others x) tail ∙ filter-append (λ (k : Chain). not (eqb k.order x.order)) (firsts cs) (c ∷ []) ∙ ap (λ (ks : List Chain). others x (firsts cs) ++ ks) gone ∙ append-nil (others x (firsts cs)))
]

-- an order that a chain has has a first one
firsts_cover : (cs : List Chain) (v : ℕ) → HasOrder cs v → HasOrder (firsts cs) v
unfolding firsts
firsts_cover [] v has = has
firsts_cover (x ∷ cs) v has = elim (cases_eq x.order v) [
  | inl here ↦ (x, Contains_here x (others x (firsts cs)), here)
  | inr ne ↦ elim (Contains_cases x has.0 cs has.1) [
    | inl e ↦ absurd (ne (ap (λ (k : Chain). k.order) e ∙ has.2))
    | inr t ↦
        let r = firsts_cover cs v (has.0, t, has.2) in
        let passes : not (eqb r.0.order x.order) ≡ true = elim (bool_cases (eqb r.0.order x.order)) [ inl e ↦ absurd (ne (sym (eqb-true _ _ e) ∙ r.2)) | inr e ↦ rw e refl ] in
        (r.0, Contains_there x r.0 (others x (firsts cs)) (in_filtered (λ (k : Chain). not (eqb k.order x.order)) (firsts cs) r.0 r.1 passes), r.2)
  ]
]

flat_more : (h : RunHeader) (d : Delivery) (parcels : List (List ℕ)) (parcel : List ℕ) → flat_map (carried_by h d) (parcels ++ parcel ∷ []) ≡ flat_map (carried_by h d) parcels ++ carried_by h d parcel
flat_more h d [] parcel = flat_map-cons (carried_by h d) parcel [] ∙ append-nil (carried_by h d parcel)
flat_more h d (p ∷ parcels) parcel = flat_map-cons (carried_by h d) p (parcels ++ parcel ∷ []) ∙ ap (λ (cs : List Chain). carried_by h d p ++ cs) (flat_more h d parcels parcel) ∙ sym (append_assoc (carried_by h d p) (flat_map (carried_by h d) parcels) (carried_by h d parcel)) ∙ ap (λ (cs : List Chain). cs ++ carried_by h d parcel) (sym (flat_map-cons (carried_by h d) p parcels))

pub listed_none : (h : RunHeader) (d : Delivery) (parcels : List (List ℕ)) (parcel : List ℕ) (chains : List Chain) → AreListed h d parcels chains → ((c : Chain) → Carries h d parcel c → ⊥) → AreListed h d (parcels ++ parcel ∷ []) chains
listed_none h d parcels parcel chains old none =
    let empty : carried_by h d parcel ≡ [] = elim (carried_cases h d parcel) [ inl e ↦ e | inr one ↦ absurd (none one.0 (carries_it h d parcel one.0 one.1)) ] in
    old ∙ ap firsts (sym (flat_more h d parcels parcel ∙ ap (λ (cs : List Chain). flat_map (carried_by h d) parcels ++ cs) empty ∙ append-nil (flat_map (carried_by h d) parcels)))

one_more : (h : RunHeader) (d : Delivery) (parcels : List (List ℕ)) (parcel : List ℕ) (c : Chain) → Carries h d parcel c → flat_map (carried_by h d) (parcels ++ parcel ∷ []) ≡ flat_map (carried_by h d) parcels ++ c ∷ []
one_more h d parcels parcel c carries = flat_more h d parcels parcel ∙ ap (λ (cs : List Chain). flat_map (carried_by h d) parcels ++ cs) (carried_gives h d parcel c carries)

pub listed_known : (h : RunHeader) (d : Delivery) (parcels : List (List ℕ)) (parcel : List ℕ) (chains : List Chain) (c : Chain) → AreListed h d parcels chains → Carries h d parcel c → HasOrder chains c.order → AreListed h d (parcels ++ parcel ∷ []) chains
listed_known h d parcels parcel chains c old carries has =
    let among : Contains (firsts (flat_map (carried_by h d) parcels)) has.0 = subst (λ (cs : List Chain). Contains cs has.0) old has.1 in
    let before : HasOrder (flat_map (carried_by h d) parcels) c.order = (has.0, firsts_from (flat_map (carried_by h d) parcels) has.0 among, has.2) in
    old ∙ sym (ap firsts (one_more h d parcels parcel c carries) ∙ firsts_known (flat_map (carried_by h d) parcels) c before)

pub listed_new : (h : RunHeader) (d : Delivery) (parcels : List (List ℕ)) (parcel : List ℕ) (chains : List Chain) (c : Chain) → AreListed h d parcels chains → Carries h d parcel c → (HasOrder chains c.order → ⊥) → AreListed h d (parcels ++ parcel ∷ []) (chains ++ c ∷ [])
listed_new h d parcels parcel chains c old carries new =
    let none : HasOrder (flat_map (carried_by h d) parcels) c.order → ⊥ = λ has. let r = firsts_cover (flat_map (carried_by h d) parcels) c.order has in new (r.0, subst (λ (cs : List Chain). Contains cs r.0) (sym old) r.1, r.2) in
    ap (λ (cs : List Chain). cs ++ c ∷ []) old ∙ sym (ap firsts (one_more h d parcels parcel c carries) ∙ firsts_new (flat_map (carried_by h d) parcels) c none)

pub listed_all : (h : RunHeader) (d : Delivery) (frame : List (List ℕ)) (chains : List Chain) → length frame ≤ h.network.orders → AreListed h d frame chains → chains ≡ counted_of h d frame
unfolding counted_of
listed_all h d frame chains few old = let test : nat_le (length frame) h.network.orders ≡ true = le-leb _ _ few in rw test old

pub listed_many : (h : RunHeader) (d : Delivery) (frame : List (List ℕ)) → (length frame ≤ h.network.orders → ⊥) → [] ≡ counted_of h d frame
unfolding counted_of
listed_many h d frame many = elim (bool_cases (nat_le (length frame) h.network.orders)) [ inl few ↦ absurd (many (leb-true _ _ few)) | inr e ↦ rw e refl ]

pub listed_start : (h : RunHeader) (d : Delivery) → AreListed h d [] []
unfolding firsts
listed_start h d = refl
