-- Two walks over entries, one entry further.
use Rattle.std.proofs.Common.{◌≡◌, ℕ, ◌+◌, ◌<◌, zero, suc, inl, inr, List, [], ◌∷◌, ◌++◌, length, get_or, take, drop, refl, sym, ap, subst, ◌∙◌, arith}
use Rattle.std.specs.List.{AllByRecursion}
use Rattle.std.proofs.Math.Seq.{take-suc}
use Rattle.std.proofs.lemmas.Bool.{cases_lt}
use Rattle.std.proofs.lemmas.List.{length-take-le}
use Rattle.sha2.specs.Sha256.{sha256}
use Rattle.sha2.proofs.Facts256.{length-sha256}
use Rattle.gen_ots.specs.Colliding.{AreColliding}
use Rattle.gen_net.specs.Header.{RunHeader, IsHeader}
use Rattle.gen_log.specs.declared.entries.Entry.{Entry}
use Rattle.gen_log.specs.Entry.{IsEntryOf}
use Rattle.gen_chain.specs.declared.statements.HeadText.{HeadText}
use Rattle.gen_log.specs.Links.{first_link, next_link, link_behind, link_over, head_over}
use Rattle.gen_convict.specs.LinkTexts.{link_text, IsLinkTextAt, AreApartAt}
use Rattle.gen_convict.specs.Laws.{OneLinkText}
use Rattle.gen_convict.proofs.Linked.{one_text_of_place}

pub no_links : (link : List ℕ) → link ≡ link_behind link []
unfolding link_behind
no_links link = refl

one_more : (link : List ℕ) (es : List Entry) (e : Entry) → link_behind link (es ++ e ∷ []) ≡ next_link (link_behind link es) e
unfolding link_behind
one_more link [] e = refl
one_more link (f ∷ es) e = one_more (next_link link f) es e

take_more : {X : Type 0} (xs : List X) (i : ℕ) (x : X) → i < length xs → x ≡ get_or xs i x → take (i + 1) xs ≡ take i xs ++ x ∷ []
take_more xs i x below is =
    let e : i + 1 ≡ suc i = omega arith in
    ap (λ n. take n xs) e ∙ take-suc xs i x below ∙ ap (λ y. take i xs ++ y ∷ []) (sym is)

split_at : {X : Type 0} (xs : List X) (i : ℕ) (x : X) → i < length xs → x ≡ get_or xs i x → xs ≡ take i xs ++ x ∷ drop (suc i) xs
split_at [] i x below is = absurd (omega (arith, below))
split_at (y ∷ ys) zero x below is = ap (λ z. z ∷ ys) (sym is)
split_at (y ∷ ys) (suc i) x below is = ap (λ zs. y ∷ zs) (split_at ys i x (omega (arith, below)) is)

all_at : {X : Type 0} (P : X → Type 0) (xs : List X) (i : ℕ) (x : X) → AllByRecursion P xs → i < length xs → P (get_or xs i x)
all_at P [] i x all below = absurd (omega (arith, below))
all_at P (y ∷ ys) zero x all below = all.0
all_at P (y ∷ ys) (suc i) x all below = all_at P ys i x all.1 (omega (arith, below))

pub is_at : {X : Type 0} (P : X → Type 0) (xs : List X) (i : ℕ) (x : X) → AllByRecursion P xs → i < length xs → x ≡ get_or xs i x → P x
is_at P xs i x all below is = subst P (sym is) (all_at P xs i x all below)

-- the link behind one entry more
pub link_on : (first before link text : List ℕ) (es : List Entry) (i : ℕ) (e : Entry) → i < length es → e ≡ get_or es i e → before ≡ link_behind first (take i es) → text ≡ link_text before e → link ≡ sha256 text → link ≡ link_behind first (take (i + 1) es)
link_on first before link text es i e below is was filled hashed =
    hashed
    ∙ ap sha256 filled
    ∙ ap (λ l. next_link l e) was
    ∙ sym (one_more first (take i es) e)
    ∙ ap (link_behind first) (sym (take_more es i e below is))

-- the text that was hashed at index i is that of place i
pub text_at : (first before text : List ℕ) (es : List Entry) (i : ℕ) (e : Entry) → i < length es → e ≡ get_or es i e → before ≡ link_behind first (take i es) → text ≡ link_text before e → IsLinkTextAt first es i text
text_at first before text es i e below is was filled = record {
  before = take i es;
  entry = e;
  behind = drop (suc i) es;
  parts = split_at es i e below is;
  count = length-take-le i es (omega (arith, below));
  hashed = filled ∙ ap (λ l. link_text l e) was;
}

-- where the texts of one place more don't collide, none before the next place do
pub apart_more : (first : List ℕ) (es fs : List Entry) (i : ℕ) (s t : List ℕ) → IsLinkTextAt first es i s → IsLinkTextAt first fs i t → (AreColliding s t → ⊥) → ((before : ℕ) → before < i → AreApartAt first es fs before) → (before : ℕ) → before < i + 1 → AreApartAt first es fs before
apart_more first es fs i s t at_s at_t apart rest before below = elim (cases_lt before i) [
  | inl lt ↦ rest before lt
  | inr le ↦
      let same : before ≡ i = omega (arith, le, below) in
      λ c d at_c at_d collide.
      let is_c : c ≡ s = one_text_of_place first es i c s (subst (λ n. IsLinkTextAt first es n c) same at_c) at_s in
      let is_d : d ≡ t = one_text_of_place first fs i d t (subst (λ n. IsLinkTextAt first fs n d) same at_d) at_t in
      apart (subst (λ y. AreColliding s y) is_d (subst (λ x. AreColliding x d) is_c collide))
]

pub wide : (link text : List ℕ) → link ≡ sha256 text → length link ≡ 32
wide link text is = ap length is ∙ length-sha256 text

-- where equal texts were hashed the entries and the links before them are equal
pub tells_on : OneLinkText → (h : RunHeader) (a b s t : List ℕ) (es fs : List Entry) (i : ℕ) (e f : Entry) → IsHeader h → length a ≡ 32 → length b ≡ 32 → IsEntryOf h e → IsEntryOf h f → i < length es → i < length fs → e ≡ get_or es i e → f ≡ get_or fs i f → s ≡ link_text a e → t ≡ link_text b f → (a ≡ b → take i es ≡ take i fs) → s ≡ t → take (i + 1) es ≡ take (i + 1) fs
tells_on one h a b s t es fs i e f ok wide_a wide_b is_e is_f below_e below_f at_e at_f is_s is_t tells same =
    let below = one h a b e f ok wide_a wide_b is_e is_f (sym is_s ∙ same ∙ is_t) in
    take_more es i e below_e at_e
    ∙ ap (λ xs. xs ++ e ∷ []) (tells below.0)
    ∙ ap (λ x. take i fs ++ x ∷ []) below.1
    ∙ sym (take_more fs i f below_f at_f)

-- equal heads are over equal last links
pub links_meet : (h : RunHeader) (g : ℕ) (first : List ℕ) (es fs : List Entry) → first ≡ link_over h g [] → head_over h g es ≡ head_over h g fs → link_behind first es ≡ link_behind first fs
links_meet h g first es fs is heads =
    let begun : first_link h g ≡ first = no_links (first_link h g) ∙ sym is in
    let last : link_behind (first_link h g) es ≡ link_behind (first_link h g) fs = ap (λ (t : HeadText). t.last_link) heads in
    subst (λ l. link_behind l es ≡ link_behind l fs) begun last
