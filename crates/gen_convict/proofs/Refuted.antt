-- A claim against a follower is answered.
use Rattle.std.proofs.Common.{◌≡◌, ◌≢◌, ℕ, ◌⊎◌, inl, inr, List, [], ◌∷◌, length, map, Contains, refl, sym, ap, subst, ◌∙◌, arith}
use Rattle.std.proofs.lemmas.Bool.{cases_eq}
use Rattle.sha2.proofs.Facts256.{length-sha256}
use Rattle.gen_types.proofs.Lists.{decide_some, Contains_here, Contains_there, Contains_cases, Contains_nil}
use Rattle.gen_net.specs.Log.{Signed}
use Rattle.gen_net.specs.Departs.{IsFollowersLog, DepartsAt}
use Rattle.gen_net.specs.Header.{RunHeader, IsHeader, run_id_of}
use Rattle.gen_chain.specs.declared.statements.Statement.{Statement}
use Rattle.gen_chain.specs.declared.statements.HeadText.{HeadText}
use Rattle.gen_log.specs.declared.entries.Entry.{Entry}
use Rattle.gen_log.specs.declared.entries.Entry.TheVariants.{Start, Sign, Send, Recv, Decide}
use Rattle.gen_log.specs.Entry.{erase}
use Rattle.gen_log.specs.Links.{first_link, link_over, head_over}
use Rattle.gen_log.specs.Log.{RunLog}
use Rattle.gen_log.specs.Signing.{HasSign}
use Rattle.gen_local.specs.declared.texts.SignedText.{SignedText}
use Rattle.gen_local.specs.declared.texts.Text.{Text}
use Rattle.gen_local.specs.declared.texts.Text.TheVariants.{OfStatement, OfHead}
use Rattle.gen_local.specs.Erased.{erased}
use Rattle.gen_local.specs.SignedTexts.{stated, head_in}
use Rattle.gen_convict.specs.declared.run_texts.RunText.{RunText}
use Rattle.gen_convict.specs.Across.{IsAcrossFrom}
use Rattle.gen_convict.specs.AcrossAnswers.{HeadersCollide}
use Rattle.gen_convict.specs.Accused.{TextVerifies, AreUnlike, command}
use Rattle.gen_convict.specs.Contradictions.{IsSealedLogOf, Claim, TwoTexts, TwoOrders, MissingFromLog, DepartingLog, AcrossRuns}
use Rattle.gen_convict.specs.LinkTexts.{LogsCollide}
use Rattle.gen_convict.specs.Refuting.{IsOwnLog, IsOwnLogOfOther, IsOwnLogFor, HasText, IsHeadIn, IsTextIn, Refutation, Forged, Collision, IsForged, IsForgedIn, IsCollisionIn, IsRefutation, HasHeaders, run_id_text}
use Rattle.gen_convict.specs.Laws.{LinksTell, Refutes}
use Rattle.gen_convict.proofs.Followers.{one_statement, one_order, nowhere}
use Rattle.gen_convict.proofs.Linked.{same_or_not}

-- of this claim each text that is forged answers
abbrev Answers : RunHeader → ℕ → Claim → RunLog → Type 0
Answers h g claim own = (text : SignedText) → IsForged h g claim own text → IsForgedIn h g claim own text

-- and so do texts of links of its log and of the own log that collide
abbrev AnswersByLinks : RunHeader → ℕ → Claim → RunLog → List ℕ → Type 0
AnswersByLinks h g claim own bytes = (a b : List ℕ) → LogsCollide h g own bytes a b → IsCollisionIn h g claim own a b

abbrev Answered : RunHeader → ℕ → Claim → RunLog → Type 0
Answered h accused claim own = (answer : Refutation) × IsRefutation h accused claim own answer

-- ---- what is decided

abbrev Either : Type 0 → Type 0
Either P = P ⊎ (P → ⊥)

IsSignOf : Statement → Entry → Type 0
IsSignOf s e = (signature : List ℕ) × (e ≡ Sign s.order s.path signature)

order_in : ℕ → Entry → ℕ
order_in d (Start general own) = d
order_in d (Sign order path signature) = order
order_in d (Send to order path) = d
order_in d (Recv from chain) = d
order_in d (Decide orders order) = d

path_in : List ℕ → Entry → List ℕ
path_in d (Start general own) = d
path_in d (Sign order path signature) = path
path_in d (Send to order path) = d
path_in d (Recv from chain) = d
path_in d (Decide orders order) = d

is_sign : Entry → ℕ
is_sign (Start general own) = 0
is_sign (Sign order path signature) = 1
is_sign (Send to order path) = 0
is_sign (Recv from chain) = 0
is_sign (Decide orders order) = 0

not_sign : (s : Statement) (e : Entry) → is_sign e ≡ 0 → IsSignOf s e → ⊥
unfolding IsSignOf is_sign
not_sign s e none h = let one : is_sign e ≡ 1 = ap is_sign h.1 in absurd (omega (arith, none, one))

sign_or_not : (s : Statement) (e : Entry) → Either (IsSignOf s e)
unfolding IsSignOf is_sign order_in path_in
sign_or_not s (Start general own) = inr (not_sign s (Start general own) refl)
sign_or_not s (Sign order path signature) = elim (cases_eq order s.order) [
  | inr ne ↦ inr (λ h. ne (ap (order_in order) h.1))
  | inl same ↦ elim (same_or_not path s.path) [
    | inr ne ↦ inr (λ h. ne (ap (path_in path) h.1))
    | inl same_path ↦ inl (signature, ap (λ (v : ℕ). Sign v path signature) same ∙ ap (λ (q : List ℕ). Sign s.order q signature) same_path)
  ]
]
sign_or_not s (Send to order path) = inr (not_sign s (Send to order path) refl)
sign_or_not s (Recv from chain) = inr (not_sign s (Recv from chain) refl)
sign_or_not s (Decide orders order) = inr (not_sign s (Decide orders order) refl)

pub has_sign_or_not : (own : RunLog) (s : Statement) → Either (HasSign own s)
unfolding IsSignOf
has_sign_or_not own s = elim (decide_some (IsSignOf s) (sign_or_not s) own.entries) [
  | inl f ↦ inl (f.2.0, subst (λ (e : Entry). Contains own.entries e) f.2.1 f.1)
  | inr none ↦ inr (λ h. none (Sign s.order s.path h.0) h.1 (h.0, refl))
]

head_with : ℕ → ℕ → List ℕ → HeadText
head_with general entries last_link = record { general = general; entries = entries; last_link = last_link }

head_same : (s t : HeadText) → s.general ≡ t.general → s.entries ≡ t.entries → s.last_link ≡ t.last_link → s ≡ t
unfolding head_with
head_same s t e0 e1 e2 =
    ap (λ (x : ℕ). head_with x s.entries s.last_link) e0
    ∙ ap (λ (x : ℕ). head_with t.general x s.last_link) e1
    ∙ ap (λ (x : List ℕ). head_with t.general t.entries x) e2

pub head_or_not : (s t : HeadText) → Either (s ≡ t)
head_or_not s t = elim (cases_eq s.general t.general) [
  | inr ne ↦ inr (λ e. ne (ap (λ (x : HeadText). x.general) e))
  | inl e0 ↦ elim (cases_eq s.entries t.entries) [
    | inr ne ↦ inr (λ e. ne (ap (λ (x : HeadText). x.entries) e))
    | inl e1 ↦ elim (same_or_not s.last_link t.last_link) [
      | inr ne ↦ inr (λ e. ne (ap (λ (x : HeadText). x.last_link) e))
      | inl e2 ↦ inl (head_same s t e0 e1 e2)
    ]
  ]
]

pub has_or_not : (h : RunHeader) (g : ℕ) (own : RunLog) (text : Text) → Either (HasText h g own text)
has_or_not h g own (OfStatement s) = has_sign_or_not own s
has_or_not h g own (OfHead head) = head_or_not head (head_over h g own.entries)

-- ---- what a follower's log can't have both of

mapped : {X Y : Type 0} (f : X → Y) (xs : List X) (x : X) → Contains xs x → Contains (map f xs) (f x)
mapped f [] x h = absurd (Contains_nil x h)
mapped f (y ∷ ys) x h = elim (Contains_cases y x ys h) [
  | inl e ↦ subst (λ z. Contains (f y ∷ map f ys) z) (ap f e) (Contains_here (f y) (map f ys))
  | inr k ↦ Contains_there (f y) (f x) (map f ys) (mapped f ys x k)
]

signed : (own : RunLog) (s : Statement) → HasSign own s → Contains (erased own.entries) (Signed s.order s.path)
signed own s h = mapped erase own.entries (Sign s.order s.path h.0) h.1

statement_with : ℕ → List ℕ → Statement
statement_with order path = record { order = order; path = path }

pub statement_same : (s t : Statement) → s.order ≡ t.order → s.path ≡ t.path → s ≡ t
unfolding statement_with
statement_same s t e0 e1 = ap (λ (x : ℕ). statement_with x s.path) e0 ∙ ap (λ (x : List ℕ). statement_with t.order x) e1

pub not_both : (h : RunHeader) (g : ℕ) (own : RunLog) → IsFollowersLog h.network g (erased own.entries) → (x y : Text) → AreUnlike x y → HasText h g own x → HasText h g own y → ⊥
not_both h g own l (OfStatement s) (OfStatement t) d hs ht =
    let ss = signed own s hs in
    let st = subst (λ (v : ℕ). Contains (erased own.entries) (Signed v t.path)) (sym d.0) (signed own t ht) in
    d.1 (statement_same s t d.0 (one_statement h.network g (erased own.entries) l s.order s.path t.path ss st))
not_both h g own l (OfStatement s) (OfHead t) d hs ht = d
not_both h g own l (OfHead s) (OfStatement t) d hs ht = d
not_both h g own l (OfHead s) (OfHead t) d hs ht = d (hs ∙ sym ht)

-- nor of two orders, where he is the commander
pub not_both_orders : (h : RunHeader) (g : ℕ) (own : RunLog) → g ≡ 0 → IsFollowersLog h.network g (erased own.entries) → (v w : ℕ) → v ≢ w → HasSign own (record { order = v; path = 0 ∷ [] }) → HasSign own (record { order = w; path = 0 ∷ [] }) → ⊥
not_both_orders h g own e l v w differ hv hw =
    let commands : IsFollowersLog h.network 0 (erased own.entries) = subst (λ x. IsFollowersLog h.network x (erased own.entries)) e l in
    differ (one_order h.network (erased own.entries) commands v w (0 ∷ []) (0 ∷ []) (signed own (record { order = v; path = 0 ∷ [] }) hv) (signed own (record { order = w; path = 0 ∷ [] }) hw))

-- of two texts that the log can't have both of one is forged
one_forged : (h : RunHeader) (g : ℕ) (claim : Claim) (own : RunLog) (x y : SignedText) → IsTextIn h g claim x → IsTextIn h g claim y → TextVerifies h g x → TextVerifies h g y → (HasText h g own x.text → HasText h g own y.text → ⊥) → Answers h g claim own → Answered h g claim own
one_forged h g claim own x y in_x in_y vx vy apart wrap = elim (has_or_not h g own x.text) [
  | inr none ↦ (Forged x, wrap x (record { inside = in_x; verifies = vx; absent = none }))
  | inl has ↦ (Forged y, wrap y (record { inside = in_y; verifies = vy; absent = apart has }))
]

-- ---- another log with a head that verifies

-- a log without a statement that his own has is another
pub apart_missing : (own log : RunLog) (s : Statement) → HasSign own s → (HasSign log s → ⊥) → log.entries ≢ own.entries
apart_missing own log s has missing = λ e. missing (has.0, subst (λ (es : List Entry). Contains es (Sign s.order s.path has.0)) (sym e) has.1)

-- and so is one that departs
pub apart_departing : (h : RunHeader) (g : ℕ) (own log : RunLog) (p : ℕ) → IsFollowersLog h.network g (erased own.entries) → DepartsAt h.network g (erased log.entries) p → log.entries ≢ own.entries
apart_departing h g own log p l departs =
    λ e. nowhere h.network g (erased own.entries) p l (subst (λ (es : List Entry). DepartsAt h.network g (erased es) p) e departs)

first_wide : (h : RunHeader) (g : ℕ) → length (first_link h g) ≡ 32
unfolding first_link
first_wide h g = length-sha256 _

other_log : LinksTell → (h : RunHeader) (g : ℕ) (claim : Claim) (own : RunLog) (bytes : List ℕ) (log : RunLog) → IsHeader h → IsOwnLog h g own → IsSealedLogOf h g bytes log → (log.entries ≢ own.entries) → ((text : SignedText) → IsHeadIn h g bytes text → IsTextIn h g claim text) → Answers h g claim own → AnswersByLinks h g claim own bytes → Answered h g claim own
other_log tell h g claim own bytes log ok is_own sealed differ inside wrap by_links = elim (head_or_not (head_over h g log.entries) (head_over h g own.entries)) [
  | inr ne ↦ (
    Forged (head_in h g log),
    wrap (head_in h g log) (record {
      inside = inside (head_in h g log) (log, sealed.reads, refl);
      verifies = record { signer = refl; his = refl; stands = sealed.sealed };
      absent = ne;
    }),
  )
  | inl same ↦
      let len : length log.entries ≡ length own.entries = ap (λ (x : HeadText). x.entries) same in
      let last : link_over h g log.entries ≡ link_over h g own.entries = ap (λ (x : HeadText). x.last_link) same in
      elim (tell h (first_link h g) log.entries own.entries ok (first_wide h g) sealed.reads.fits.entries is_own.reads.entries len last) [
        | inl e ↦ absurd (differ e)
        | inr c ↦ (Collision c.0 c.1, by_links c.0 c.1 (record { log = log; sealed = sealed; heads = same; texts = c.2 }))
      ]
]

-- two texts of two runs are answered by the one of the run that the log isn't of, or by the headers
across : HeadersCollide → (h : RunHeader) (g : ℕ) (x y : RunText) (own : RunLog) → HasHeaders (AcrossRuns x y) → IsAcrossFrom h g x y → Answered h g (AcrossRuns x y) own
across collide h g x y own headers holds = elim (same_or_not (run_id_of x.header) (run_id_of y.header)) [
  | inl same ↦
      let unequal = holds.across.rivals.runs.unequal in (
        Collision (run_id_text x.header) (run_id_text y.header),
        record { differ = unequal; ids = same; first = refl; second = refl; collide = collide x.header y.header headers.0 headers.1 unequal same },
      )
  | inr differ ↦ elim (same_or_not own.run_id (run_id_of x.header)) [
    | inr other ↦ (Forged x.text, inl (record { is = refl; verifies = holds.across.one; other = other }))
    | inl of_first ↦ (Forged y.text, inr (record { is = refl; verifies = holds.across.other; other = λ e. differ (sym of_first ∙ e) }))
  ]
]

-- of a claim by one run the log is of this run
pub of_this_run : (h : RunHeader) (g : ℕ) (own : RunLog) (claim : Claim) → (IsOwnLogOfOther g claim own → ⊥) → IsOwnLogFor h g claim own → IsOwnLog h g own
of_this_run h g own claim none is = elim is [ inl one ↦ one | inr other ↦ absurd (none other) ]

pub refutes : LinksTell → HeadersCollide → Refutes
refutes tell collide h accused (TwoTexts first second) own ok headers holds log =
    let is_own = of_this_run h accused own (TwoTexts first second) (λ n. n) log in
    one_forged h accused (TwoTexts first second) own first second (inl refl) (inr refl) holds.one holds.other (not_both h accused own is_own.followed first.text second.text holds.different) (λ t f. f)
refutes tell collide h accused (TwoOrders v a w b) own ok headers holds log =
    let is_own = of_this_run h accused own (TwoOrders v a w b) (λ n. n) log in
    one_forged h accused (TwoOrders v a w b) own (command v a) (command w b) (inl refl) (inr refl) holds.one holds.other
    (not_both_orders h accused own holds.commander is_own.followed v w holds.different) (λ t f. f)
refutes tell collide h accused (MissingFromLog bytes statement signature) own ok headers holds log = let is_own = of_this_run h accused own (MissingFromLog bytes statement signature) (λ n. n) log in elim (has_sign_or_not own statement) [
  | inr none ↦ (Forged (stated statement.order statement.path accused signature), record { inside = inl refl; verifies = holds.verifies; absent = none })
  | inl has ↦ other_log tell h accused (MissingFromLog bytes statement signature) own bytes holds.log ok is_own holds.his (apart_missing own holds.log statement has holds.missing) (λ text i. inr i) (λ t f. f) (λ a b c. c)
]
refutes tell collide h accused (DepartingLog bytes p) own ok headers holds log =
    let is_own = of_this_run h accused own (DepartingLog bytes p) (λ n. n) log in
    other_log tell h accused (DepartingLog bytes p) own bytes holds.log ok is_own holds.his (apart_departing h accused own holds.log p is_own.followed holds.departs) (λ text i. i) (λ t f. f) (λ a b c. c)
refutes tell collide h accused (AcrossRuns x y) own ok headers holds log = across collide h accused x y own headers holds
