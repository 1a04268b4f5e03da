-- One claim at most is made against a general.
use Rattle.std.proofs.Common.{◌≡◌, ℕ, zero, suc, ◌+◌, ◌<◌, ◌≤◌, List, [], ◌∷◌, ◌++◌, take, drop, refl, sym, ap, subst, ◌∙◌, arith, append_assoc}
use Rattle.std.proofs.lemmas.List.{take-append-drop}
use Rattle.gen_net.specs.Network.{Network}
use Rattle.gen_net.specs.Log.{LogEntry}
use Rattle.gen_net.specs.Departs.{IsFollowersLog, Begins, DepartsAt}
use Rattle.gen_net.specs.Header.{RunHeader}
use Rattle.gen_local.specs.declared.texts.SignedText.{SignedText}
use Rattle.gen_local.specs.declared.texts.Text.{Text}
use Rattle.gen_local.specs.declared.texts.Text.TheVariants.{OfStatement, OfHead}
use Rattle.gen_local.specs.Erased.{erased}
use Rattle.gen_log.specs.Writing.{LogBytes}
use Rattle.gen_local.specs.SignedTexts.{stated}
use Rattle.gen_convict.specs.Accused.{AreDifferent, command}
use Rattle.gen_convict.specs.Contradictions.{Claim, TwoTexts, TwoOrders, MissingFromLog, DepartingLog, AcrossRuns}
use Rattle.gen_convict.specs.Exhibits.{HeldLog, logs_of, texts_of}
use Rattle.gen_convict.specs.First.{AreOrders, IsMissing, LacksSome, DepartsSomewhere, IsFirstOfKind, kind_of}
use Rattle.gen_convict.specs.Firsts.{IsFirst}
use Rattle.gen_convict.specs.FirstLaws.{OneClaim}
use Rattle.gen_convict.proofs.Refuted.{statement_same}
use Rattle.gen_convict.proofs.FirstOnes.{one_first, one_pair}

shorter : {X : Type 0} (n m : ℕ) (xs : List X) → n ≤ m → take n (take m xs) ≡ take n xs
shorter zero m xs le = refl
shorter (suc n) zero xs le = absurd (omega (arith, le))
shorter (suc n) (suc m) [] le = refl
shorter (suc n) (suc m) (x ∷ xs) le = ap (λ ys. x ∷ ys) (shorter n m xs (omega (arith, le)))

begins_front : (net : Network) (g : ℕ) (n : ℕ) (xs : List LogEntry) → Begins net g xs → Begins net g (take n xs)
begins_front net g n xs b =
    let e : take n xs ++ (drop n xs ++ b.0) ≡ xs ++ b.0 = sym (append_assoc (take n xs) (drop n xs) b.0) ∙ ap (λ ys. ys ++ b.0) (take-append-drop n xs) in
    (drop n xs ++ b.0, subst (IsFollowersLog net g) (sym e) b.1)

not_before : (net : Network) (g : ℕ) (xs : List LogEntry) (p q : ℕ) → DepartsAt net g xs p → DepartsAt net g xs q → p < q → ⊥
not_before net g xs p q d f l =
    let b = begins_front net g (p + 1) (take q xs) f.1 in
    d.2 (subst (Begins net g) (shorter (p + 1) q xs (omega (arith, l))) b)

departs_once : (net : Network) (g : ℕ) (xs : List LogEntry) (p q : ℕ) → DepartsAt net g xs p → DepartsAt net g xs q → p ≡ q
departs_once net g xs p q d f =
    let a : q ≤ p = le_unless q p (not_before net g xs p q d f) in
    let b : p ≤ q = le_unless p q (not_before net g xs q p f d) in
    omega (arith, a, b)
  where
    le_unless : (a b : ℕ) → (b < a → ⊥) → a ≤ b
    le_unless zero b none = omega arith
    le_unless (suc a) zero none = absurd (none (omega arith))
    le_unless (suc a) (suc b) none = let r : a ≤ b = le_unless a b (λ l. none (omega (arith, l))) in omega (arith, r)

order_in : Text → ℕ
order_in (OfStatement s) = s.order
order_in (OfHead t) = 0

path_in : Text → List ℕ
path_in (OfStatement s) = s.path
path_in (OfHead t) = []

order_from : SignedText → ℕ
order_from t = order_in t.text

path_from : SignedText → List ℕ
path_from t = path_in t.text

signature_from : SignedText → List ℕ
signature_from t = t.signature

of_kind : (h : RunHeader) (exhibits : List LogBytes) (general : ℕ) (e f : Claim) → kind_of e ≡ kind_of f → IsFirstOfKind h exhibits general e → IsFirstOfKind h exhibits general f → e ≡ f
unfolding order_in path_in order_from path_from signature_from
of_kind h exhibits general (TwoTexts x y) (TwoTexts z w) k p q =
    let o = one_pair AreDifferent (texts_of h exhibits general) x y z w p q in
    ap (λ (t : SignedText). TwoTexts t y) o.0 ∙ ap (λ (t : SignedText). TwoTexts z t) o.1
of_kind h exhibits general (TwoTexts x y) (TwoOrders v a w b) k p q = absurd (omega (arith, k))
of_kind h exhibits general (TwoTexts x y) (MissingFromLog bytes s a) k p q = absurd (omega (arith, k))
of_kind h exhibits general (TwoTexts x y) (DepartingLog bytes n) k p q = absurd (omega (arith, k))
of_kind h exhibits general (TwoOrders v a w b) (TwoTexts x y) k p q = absurd (omega (arith, k))
of_kind h exhibits general (TwoOrders v a w b) (TwoOrders t c u d) k p q =
    let o = one_pair AreOrders (texts_of h exhibits general) (command v a) (command w b) (command t c) (command u d) p.1 q.1 in
    ap (λ x. TwoOrders x a w b) (ap order_from o.0) ∙ ap (λ x. TwoOrders t x w b) (ap signature_from o.0) ∙ ap (λ x. TwoOrders t c x b) (ap order_from o.1) ∙ ap (λ x. TwoOrders t c u x) (ap signature_from o.1)
of_kind h exhibits general (TwoOrders v a w b) (MissingFromLog bytes s c) k p q = absurd (omega (arith, k))
of_kind h exhibits general (TwoOrders v a w b) (DepartingLog bytes n) k p q = absurd (omega (arith, k))
of_kind h exhibits general (MissingFromLog bytes s a) (TwoTexts x y) k p q = absurd (omega (arith, k))
of_kind h exhibits general (MissingFromLog bytes s a) (TwoOrders v b w c) k p q = absurd (omega (arith, k))
of_kind h exhibits general (MissingFromLog bytes s a) (MissingFromLog others t b) k p q =
    let same : p.0 ≡ q.0 = one_first (LacksSome h (texts_of h exhibits general)) (logs_of h exhibits general) p.0 q.0 p.2 q.2 in
    let e : bytes ≡ others = p.1 ∙ ap (λ (l : HeldLog). l.bytes) same ∙ sym q.1 in
    let m = subst (λ (l : HeldLog). IsFirst (IsMissing l.log) (texts_of h exhibits general) (stated s.order s.path general a)) same p.3 in
    let o = one_first (IsMissing q.0.log) (texts_of h exhibits general) (stated s.order s.path general a) (stated t.order t.path general b) m q.3 in
    ap (λ x. MissingFromLog x s a) e ∙ ap (λ x. MissingFromLog others x a) (statement_same s t (ap order_from o) (ap path_from o)) ∙ ap (λ x. MissingFromLog others t x) (ap signature_from o)
of_kind h exhibits general (MissingFromLog bytes s a) (DepartingLog others n) k p q = absurd (omega (arith, k))
of_kind h exhibits general (DepartingLog bytes n) (TwoTexts x y) k p q = absurd (omega (arith, k))
of_kind h exhibits general (DepartingLog bytes n) (TwoOrders v a w b) k p q = absurd (omega (arith, k))
of_kind h exhibits general (DepartingLog bytes n) (MissingFromLog others s a) k p q = absurd (omega (arith, k))
of_kind h exhibits general (DepartingLog bytes n) (DepartingLog others m) k p q =
    let same : p.0 ≡ q.0 = one_first (DepartsSomewhere h) (logs_of h exhibits general) p.0 q.0 p.2 q.2 in
    let e : bytes ≡ others = p.1 ∙ ap (λ (l : HeldLog). l.bytes) same ∙ sym q.1 in
    let d = subst (λ (l : HeldLog). DepartsAt h.network l.general (erased l.log.entries) n) same p.3.1 in
    let o : n ≡ m = departs_once h.network q.0.general (erased q.0.log.entries) n m d q.3.1 in
    ap (λ x. DepartingLog x n) e ∙ ap (λ x. DepartingLog others x) o
of_kind h exhibits general (TwoTexts x y) (AcrossRuns z u) k p q = absurd q
of_kind h exhibits general (TwoOrders v a w b) (AcrossRuns z u) k p q = absurd q
of_kind h exhibits general (MissingFromLog bytes s a) (AcrossRuns z u) k p q = absurd q
of_kind h exhibits general (DepartingLog bytes n) (AcrossRuns z u) k p q = absurd q
of_kind h exhibits general (AcrossRuns z u) f k p q = absurd p

pub one_claim : OneClaim
one_claim h exhibits general e f a b =
    let k : kind_of e ≡ kind_of f = omega (arith, a.least f b.first, b.least e a.first) in
    of_kind h exhibits general e f k a.first b.first
