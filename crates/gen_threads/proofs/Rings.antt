-- His ring comes back.
use Rattle.std.proofs.Common.{◌≡◌, ◌+◌, ◌↔◌, ◌⊎◌, ℕ, suc, inl, inr, List, ◌++◌, [], ◌∷◌, Contains, Option, Some, None, refl, sym, ap, subst, ◌∙◌, arith, Result, Ok, Err}
use Rattle.std.specs.Prelude.{OnOk}
use Rattle.std.proofs.lemmas.List.Elements.{Contains-append_left, Contains-append_right, Contains-append_cases}
use Rattle.gen_types.proofs.Lists.{Contains_here, Contains_there, Contains_cases, Contains_nil}
use Rattle.gen_tree.specs.Rings.{Ring}
use Rattle.gen_net.specs.Header.{RunHeader}
use Rattle.gen_chain.specs.Leaves.{leaf_of_order}
use Rattle.gen_log.specs.declared.entries.Entry.{Entry}
use Rattle.gen_log.specs.declared.entries.Entry.TheVariants.{Sign, Start}
use Rattle.gen_log.specs.Log.{RunLog}
use Rattle.gen_scenario.specs.declared.heard.Heard.{Heard}
use Rattle.gen_scenario.specs.Scenario.{Scenario, IsScenario, header_of, script_of}
use Rattle.gen_scenario.specs.SignedWorld.{own_order, heard_by, sender_of, keys_of}
use Rattle.gen_scenario.specs.RoundEntries.{sign_entries}
use Rattle.gen_scenario.specs.WorldLogs.{entries_after, entries_over, middle_of, decide_entry, log_with, logs_of}
use Rattle.gen_general.specs.Driving.{StandsAfter}
use Rattle.gen_general.specs.Following.{IsSignedWith}
use Rattle.gen_general.specs.Participant.{Participant, RingAfter}
use Rattle.gen_general.specs.Recording.{RingSealed}
use Rattle.gen_general.specs.Spending.{IsLeafOfSign, IsLeafOfLog}
use Rattle.gen_general.proofs.Spending.{signs_take_leaves, round_sign, sign_round, log_sign, one_log}
use Rattle.gen_threads.specs.Ending.{MayRunWith, RingComesBack}
use Rattle.gen_threads.specs.Rings.{RingSpentOn, HasSpentOnSigns}

pub ring_then : (h : RunHeader) (a b c : Option Ring) → RingComesBack h a b → RingComesBack h b c → RingComesBack h a c
ring_then h None None None x y = tt
ring_then h None None (Some c) x y = absurd y
ring_then h None (Some b) c x y = absurd x
ring_then h (Some a) None c x y = absurd x
ring_then h (Some a) (Some b) None x y = absurd y
ring_then h (Some a) (Some b) (Some c) x y = record {
  seed = y.seed ∙ x.seed;
  height = y.height ∙ x.height;
  kept = λ leaf m. y.kept leaf (x.kept leaf m);
  of_run = λ leaf m. elim (y.of_run leaf m) [ inl old ↦ x.of_run leaf old | inr new ↦ inr new ];
}

pub ring_same : (h : RunHeader) (a : Option Ring) → RingComesBack h a a
ring_same h None = tt
ring_same h (Some a) = record { seed = refl; height = refl; kept = λ leaf m. m; of_run = λ leaf m. inl m }

pub ring_begun : (s : Scenario) → IsScenario s → (p : Participant) → p.known.header ≡ header_of s → (a b : Option Ring) → RingAfter p a b → RingComesBack (header_of s) a b
ring_begun s ok p same None None is = tt
ring_begun s ok p same None (Some b) is = absurd is
ring_begun s ok p same (Some a) None is = absurd is
ring_begun s ok p same (Some a) (Some b) is = record {
  seed = is.seed;
  height = is.height;
  kept = λ leaf m. (is.taken leaf).1 (inl m);
  of_run = λ leaf m. elim ((is.taken leaf).0 m) [
    | inl old ↦ inl old
    | inr signed ↦ inr (signed.order, omega (arith, signed.known, ap (λ (h : RunHeader). h.network.orders) same, ok.network.ranges.few_orders), signed.leaf_is ∙ ap (λ (h : RunHeader). leaf_of_order h signed.order) same)
  ];
}

pub ring_sealed : (h : RunHeader) (a b : Option Ring) → RingSealed h a b → RingComesBack h a b
ring_sealed h None None is = tt
ring_sealed h None (Some b) is = absurd is
ring_sealed h (Some a) None is = absurd is
ring_sealed h (Some a) (Some b) is = record {
  seed = is.seed;
  height = is.height;
  kept = λ leaf m. (is.taken leaf).1 (inl m);
  of_run = λ leaf m. elim ((is.taken leaf).0 m) [ inl old ↦ inl old | inr e ↦ inr (15, omega arith, e) ];
}

-- ---- the leaves that he takes are those of what he signs

-- of the same SIGNs
same_leaf : (h : RunHeader) (es fs : List Entry) (leaf : ℕ) → ((order : ℕ) (path signature : List ℕ) → Contains es (Sign order path signature) → Contains fs (Sign order path signature)) → IsLeafOfSign h es leaf → IsLeafOfSign h fs leaf
same_leaf h es fs leaf f is = record { order = is.order; path = is.path; signature = is.signature; stands = f is.order is.path is.signature is.stands; leaf_is = is.leaf_is }

moved : (h k : RunHeader) (a b : Option ℕ) (x y : List Heard) (m n leaf : ℕ) → h ≡ k → a ≡ b → x ≡ y → m ≡ n → IsSignedWith h a x m leaf → IsSignedWith k b y n leaf
moved h k a b x y m n leaf e f g i is =
    subst (λ z. IsSignedWith z b y n leaf) e (subst (λ z. IsSignedWith h z y n leaf) f (subst (λ z. IsSignedWith h a z n leaf) g (subst (λ z. IsSignedWith h a x z leaf) i is)))

signed_leaf : (s : Scenario) (k g leaf : ℕ) (p : Participant) → StandsAfter s k g p → script_of s.scripts g ≡ None
    → IsSignedWith p.known.header p.known.own p.heard (p.round + 1) leaf ↔ IsLeafOfSign (header_of s) (entries_after s g k) leaf
signed_leaf s k g leaf p is none =
    let both = signs_take_leaves (sender_of s g) (heard_by s k g) (suc k) leaf none in
    let at : p.round + 1 ≡ suc k = let e = is.round in omega (arith, e) in
    let signs = sign_entries (sender_of s g) (heard_by s k g) (suc k) in (
      λ w. same_leaf (header_of s) signs (entries_after s g k) leaf (λ order path signature h. sign_round s g k (Sign order path signature) h)
          (both.0 (moved p.known.header (header_of s) p.known.own (own_order s g) p.heard (heard_by s k g) (p.round + 1) (suc k) leaf is.part.header is.part.own is.heard at w)),
      λ w. moved (header_of s) p.known.header (own_order s g) p.known.own (heard_by s k g) p.heard (suc k) (p.round + 1) leaf (sym is.part.header) (sym is.part.own) (sym is.heard) (sym at)
          (both.1 (same_leaf (header_of s) (entries_after s g k) signs leaf (round_sign s g k) w)),
    )

pub where_ok : {X E : Type 0} (P : Type 0) (r : Result X E) → P → OnOk r P
where_ok P (Ok x) p = p
where_ok P (Err e) p = record {}

pub signed_round : (s : Scenario) (k g : ℕ) (p : Participant) → StandsAfter s k g p → (a b : Option Ring) → RingAfter p a b → HasSpentOnSigns s g (entries_after s g k) a b
signed_round s k g p is None None ring none = tt
signed_round s k g p is None (Some b) ring none = absurd ring
signed_round s k g p is (Some a) None ring none = absurd ring
signed_round s k g p is (Some a) (Some b) ring none = λ leaf.
    let both = signed_leaf s k g leaf p is none in (
      λ m. elim ((ring.taken leaf).0 m) [ inl old ↦ inl old | inr signed ↦ inr (both.0 signed) ],
      λ m. elim m [ inl old ↦ (ring.taken leaf).1 (inl old) | inr sign ↦ (ring.taken leaf).1 (inr (both.1 sign)) ],
    )

no_sign : (h : RunHeader) (leaf : ℕ) → IsLeafOfSign h [] leaf → ⊥
no_sign h leaf is = absurd (Contains_nil (Sign is.order is.path is.signature) is.stands)

pub signed_none : (s : Scenario) (g : ℕ) (a : Option Ring) → HasSpentOnSigns s g [] a a
signed_none s g None none = tt
signed_none s g (Some a) none = λ leaf. (λ m. inl m, λ m. elim m [ inl old ↦ old | inr sign ↦ absurd (no_sign (header_of s) leaf sign) ])

sign_either : (h : RunHeader) (es fs : List Entry) (leaf : ℕ) → IsLeafOfSign h (es ++ fs) leaf → IsLeafOfSign h es leaf ⊎ IsLeafOfSign h fs leaf
sign_either h es fs leaf is = elim (Contains-append_cases es fs (Sign is.order is.path is.signature) is.stands) [
  | inl a ↦ inl (record { order = is.order; path = is.path; signature = is.signature; stands = a; leaf_is = is.leaf_is })
  | inr b ↦ inr (record { order = is.order; path = is.path; signature = is.signature; stands = b; leaf_is = is.leaf_is })
]

pub signed_then : (s : Scenario) (g : ℕ) (es fs : List Entry) (a b c : Option Ring) → HasSpentOnSigns s g es a b → HasSpentOnSigns s g fs b c → HasSpentOnSigns s g (es ++ fs) a c
signed_then s g es fs None None None x y none = tt
signed_then s g es fs None None (Some c) x y none = absurd (y none)
signed_then s g es fs None (Some b) c x y none = absurd (x none)
signed_then s g es fs (Some a) None c x y none = absurd (x none)
signed_then s g es fs (Some a) (Some b) None x y none = absurd (y none)
signed_then s g es fs (Some a) (Some b) (Some c) x y none = λ leaf.
    let h = header_of s in
    let left = λ (is : IsLeafOfSign h es leaf). same_leaf h es (es ++ fs) leaf (λ order path signature m. Contains-append_left es fs (Sign order path signature) m) is in
    let right = λ (is : IsLeafOfSign h fs leaf). same_leaf h fs (es ++ fs) leaf (λ order path signature m. Contains-append_right es fs (Sign order path signature) m) is in (
      λ m. elim ((y none leaf).0 m) [
        | inl before ↦ elim ((x none leaf).0 before) [ inl old ↦ inl old | inr sign ↦ inr (left sign) ]
        | inr sign ↦ inr (right sign)
      ],
      λ m. elim m [
        | inl old ↦ (y none leaf).1 (inl ((x none leaf).1 (inl old)))
        | inr sign ↦ elim (sign_either h es fs leaf sign) [
          | inl first ↦ (y none leaf).1 (inl ((x none leaf).1 (inr first)))
          | inr second ↦ (y none leaf).1 (inr second)
        ]
      ],
    )

-- ---- and of his log

over_sign : (s : Scenario) (g : ℕ) (e : Entry) → Contains (middle_of s g) e → Contains (entries_over (sender_of s g) (middle_of s g)) e
over_sign s g e h =
    let last : Entry = decide_entry s.net (own_order s g) (middle_of s g) in
    Contains_there (Start g (own_order s g)) e (middle_of s g ++ last ∷ []) (Contains-append_left (middle_of s g) (last ∷ []) e h)

the_log : Scenario → ℕ → RunLog
the_log s g = log_with (keys_of s) g (entries_over (sender_of s g) (middle_of s g))

log_stands : (s : Scenario) (g : ℕ) → script_of s.scripts g ≡ None → Contains (logs_of s g) (the_log s g)
unfolding the_log
log_stands s g none = subst (λ (logs : List RunLog). Contains logs (the_log s g)) (sym (one_log s g none)) (Contains_here (the_log s g) [])

log_alone : (s : Scenario) (g : ℕ) → script_of s.scripts g ≡ None → (log : RunLog) → Contains (logs_of s g) log → the_log s g ≡ log
unfolding the_log
log_alone s g none log h = elim (Contains_cases (the_log s g) log [] (subst (λ (logs : List RunLog). Contains logs log) (one_log s g none) h)) [ inl e ↦ e | inr other ↦ absurd (Contains_nil log other) ]

log_leaf : (s : Scenario) (g leaf : ℕ) → IsLeafOfSign (header_of s) (middle_of s g) leaf → IsLeafOfLog (header_of s) (the_log s g) leaf
unfolding the_log
log_leaf s g leaf is = inr (same_leaf (header_of s) (middle_of s g) (entries_over (sender_of s g) (middle_of s g)) leaf (λ order path signature m. over_sign s g (Sign order path signature) m) is)

leaf_of_middle : (s : Scenario) (g leaf : ℕ) → IsLeafOfSign (header_of s) (the_log s g).entries leaf → IsLeafOfSign (header_of s) (middle_of s g) leaf
unfolding the_log
leaf_of_middle s g leaf is = same_leaf (header_of s) (entries_over (sender_of s g) (middle_of s g)) (middle_of s g) leaf (log_sign (sender_of s g) (middle_of s g)) is

signed_log : (s : Scenario) (g : ℕ) (a b c : Option Ring) → script_of s.scripts g ≡ None → HasSpentOnSigns s g (middle_of s g) a b → RingSealed (header_of s) b c → RingSpentOn (header_of s) (logs_of s g) a c
signed_log s g None None None none x y = tt
signed_log s g None None (Some c) none x y = absurd y
signed_log s g None (Some b) c none x y = absurd (x none)
signed_log s g (Some a) None c none x y = absurd (x none)
signed_log s g (Some a) (Some b) None none x y = absurd y
signed_log s g (Some a) (Some b) (Some c) none x y = λ leaf. (
  λ m. elim ((y.taken leaf).0 m) [
    | inl before ↦ elim ((x none leaf).0 before) [ inl old ↦ inl old | inr sign ↦ inr (the_log s g, log_stands s g none, log_leaf s g leaf sign) ]
    | inr head ↦ inr (the_log s g, log_stands s g none, inl head)
  ],
  λ m. elim m [
    | inl old ↦ (y.taken leaf).1 (inl ((x none leaf).1 (inl old)))
    | inr text ↦
        let is : IsLeafOfLog (header_of s) (the_log s g) leaf = subst (λ (log : RunLog). IsLeafOfLog (header_of s) log leaf) (sym (log_alone s g none text.0 text.1)) text.2 in
        elim is [
          | inl head ↦ (y.taken leaf).1 (inr head)
          | inr sign ↦ (y.taken leaf).1 (inl ((x none leaf).1 (inr (leaf_of_middle s g leaf sign))))
        ]
  ],
)

pub spent_on_logs : (s : Scenario) (g : ℕ) (ring last end : Option Ring) → MayRunWith s g ring → RingComesBack (header_of s) ring end → HasSpentOnSigns s g (middle_of s g) ring last → RingSealed (header_of s) last end → RingSpentOn (header_of s) (logs_of s g) ring end
spent_on_logs s g None last None may back x y = tt
spent_on_logs s g None last (Some c) may back x y = absurd back
spent_on_logs s g (Some a) last end may back x y = signed_log s g (Some a) last end may.0.0 x y
