-- Several signers at once: what holds of those who were looked at, and these.
use Rattle.std.proofs.Common.{◌≡◌, ◌↔◌, IsTrue, Bool, false, map, ℕ, zero, suc, ◌<◌, ◌≤◌, List, [], ◌∷◌, ◌++◌, length, take, drop, slice_index_or, refl, sym, ap, subst, ◌∙◌, arith, append_assoc}
use Rattle.std.proofs.lemmas.List.{append-nil, get_or-map, length-take-le, map-append, take-append-drop}
use Rattle.gen_types.proofs.Lists.{AllPairs-front}
use Rattle.gen_net.specs.Header.{RunHeader}
use Rattle.gen_chain.specs.declared.chains.Signer.{Signer}
use Rattle.gen_chain.specs.Chain.{signed_path}
use Rattle.gen_chain.specs.Signings.{AllSigned, IsSigned, next_triples, triple_next, triple_of}
use Rattle.gen_chain.specs.declared.signings.Signing.{Signing}
use Rattle.gen_chain.specs.Store.{Triple}
use Rattle.gen_chain.specs.Verifying.{EachHasSigned}
use Rattle.gen_chain.proofs.DistinctPaths.{AreDistinct}
use Rattle.gen_chain.proofs.SignedSoFar.{SignedSoFar, goes_on, next_signed}

pub all_on : (h : RunHeader) (order : ℕ) (signers some others : List Signer) (path : List ℕ) → SignedSoFar h order signers (some ++ others) path → AllSigned h (next_triples order path some) → SignedSoFar h order signers others (path ++ signed_path some)
unfolding next_triples
all_on h order signers [] others path so_far all = subst (SignedSoFar h order signers others) (sym (append-nil path)) so_far
all_on h order signers (s ∷ some) others path so_far all =
    let longer = path ++ s.general ∷ [] in
    let first : IsSigned h (triple_next order path s) = all 0 (omega arith) (triple_next order path s) in
    let on = goes_on h order signers (s ∷ (some ++ others)) (some ++ others) path longer s refl refl first so_far in
    let rest = all_on h order signers some others longer on (λ j below other. all (suc j) (omega arith) other) in
    subst (SignedSoFar h order signers others) (append_assoc path (s.general ∷ []) (signed_path some)) rest

pub all_next : (h : RunHeader) (order : ℕ) (signers some others : List Signer) (path : List ℕ) → SignedSoFar h order signers (some ++ others) path → EachHasSigned h order signers → AllSigned h (next_triples order path some)
unfolding next_triples
all_next h order signers [] others path so_far all = λ j below other. absurd (omega arith)
all_next h order signers (s ∷ some) others path so_far all =
    let longer = path ++ s.general ∷ [] in
    let first = next_signed h order signers (s ∷ (some ++ others)) (some ++ others) path longer s refl refl so_far all in
    let on = goes_on h order signers (s ∷ (some ++ others)) (some ++ others) path longer s refl refl first so_far in
    let rest = all_next h order signers some others longer on all in
    λ j below other. by first rest j below other
  where
    by : IsSigned h (triple_next order path s) → AllSigned h (next_triples order (path ++ s.general ∷ []) some) → AllSigned h (triple_next order path s ∷ next_triples order (path ++ s.general ∷ []) some)
    by first rest zero below other = first
    by first rest (suc j) below other = rest j (omega arith) other

pub length-next_triples : (order : ℕ) (path : List ℕ) (some : List Signer) → length (next_triples order path some) ≡ length some
unfolding next_triples
length-next_triples order path [] = refl
length-next_triples order path (s ∷ some) = ap suc (length-next_triples order (path ++ s.general ∷ []) some)

-- the first four of a list
pub first_four : {X : Type 0} (xs : List X) (a b c d : X) → 4 ≤ length xs
    → slice_index_or xs 0 a ∷ slice_index_or xs 1 b ∷ slice_index_or xs 2 c ∷ slice_index_or xs 3 d ∷ [] ≡ take 4 xs
first_four (w ∷ x ∷ y ∷ z ∷ xs) a b c d many = refl
first_four [] a b c d many = absurd (omega arith)
first_four (w ∷ []) a b c d many = absurd (omega arith)
first_four (w ∷ x ∷ []) a b c d many = absurd (omega arith)
first_four (w ∷ x ∷ y ∷ []) a b c d many = absurd (omega arith)

-- the triples of four
pub triples_of_four : (order : ℕ) (path : List ℕ) (a b c d : Signer) → next_triples order path (a ∷ b ∷ c ∷ d ∷ [])
    ≡ triple_next order path a
    ∷ triple_next order (path ++ a.general ∷ []) b
    ∷ triple_next order ((path ++ a.general ∷ []) ++ b.general ∷ []) c
    ∷ triple_next order (((path ++ a.general ∷ []) ++ b.general ∷ []) ++ c.general ∷ []) d ∷ []
unfolding next_triples
triples_of_four order path a b c d = refl

-- who is behind a path of distinct generals isn't in it
pub moved : (path : List ℕ) (g : ℕ) (rest longer : List ℕ) → longer ≡ path ++ g ∷ [] → AreDistinct (path ++ g ∷ rest) → AreDistinct (longer ++ rest)
moved path g rest longer e apart = subst AreDistinct (sym (ap (λ p. p ++ rest) e ∙ append_assoc path (g ∷ []) rest)) apart

-- what says the same as that a signing is true says it of its triple
pub signed_at : (h : RunHeader) (xs : List Signing) (k : ℕ) (x : Signing) (other : Triple) (A : Type 0) → k < length xs → x ≡ slice_index_or xs k x
    → A ↔ IsSigned h (triple_of x) → A ↔ IsSigned h (slice_index_or (map triple_of xs) k other)
signed_at h xs k x other A below is right =
    subst (λ t. A ↔ IsSigned h t) (ap triple_of is ∙ sym (get_or-map triple_of xs k x other below)) right

pub through : {A B C : Type 0} → A ↔ B → B ↔ C → A ↔ C
through f g = (λ a. g.0 (f.0 a), λ c. f.1 (g.1 c))

-- ---- the next four

-- they are none of those before them
pub next_apart : (path : List ℕ) (rest : List Signer) → AreDistinct (path ++ signed_path rest) → AreDistinct (path ++ signed_path (take 4 rest))
next_apart path rest apart =
    let cut : signed_path rest ≡ signed_path (take 4 rest) ++ signed_path (drop 4 rest) =
    ap signed_path (sym (take-append-drop 4 rest)) ∙ map-append (λ (s : Signer). s.general) (take 4 rest) (drop 4 rest) in
    let whole : path ++ signed_path rest ≡ (path ++ signed_path (take 4 rest)) ++ signed_path (drop 4 rest) =
    ap (λ p. path ++ p) cut ∙ sym (append_assoc path (signed_path (take 4 rest)) (signed_path (drop 4 rest))) in
    AllPairs-front (path ++ signed_path (take 4 rest)) (signed_path (drop 4 rest)) (subst AreDistinct whole apart)

pub four_apart : (path : List ℕ) (rest signers : List Signer) → AreDistinct (signed_path signers) → path ++ signed_path rest ≡ signed_path signers → AreDistinct (path ++ signed_path (take 4 rest))
four_apart path rest signers apart joined = next_apart path rest (subst AreDistinct (sym joined) apart)

module _ (h : RunHeader) (order : ℕ) (signers rest : List Signer) (path : List ℕ) (so_far : SignedSoFar h order signers rest path) where
  cut_so_far : SignedSoFar h order signers (take 4 rest ++ drop 4 rest) path
  cut_so_far = subst (λ r. SignedSoFar h order signers r path) (sym (take-append-drop 4 rest)) so_far

  pub four_on : (longer : List ℕ) → longer ≡ path ++ signed_path (take 4 rest) → AllSigned h (next_triples order path (take 4 rest)) → SignedSoFar h order signers (drop 4 rest) longer
  four_on longer pushed all =
      subst (SignedSoFar h order signers (drop 4 rest)) (sym pushed) (all_on h order signers (take 4 rest) (drop 4 rest) path cut_so_far all)

  pub four_next : EachHasSigned h order signers → AllSigned h (next_triples order path (take 4 rest))
  four_next = all_next h order signers (take 4 rest) (drop 4 rest) path cut_so_far

-- what the answers to four say of all of them
module _ (h : RunHeader) (xs : List Signing) (answers : List Bool) (order : ℕ) (path : List ℕ) (rest : List Signer) (many : 4 ≤ length rest) (are : map triple_of xs ≡ next_triples order path (take 4 rest))
    (wide : length xs ≡ 4) (right : (j : ℕ) → j < length xs → (other : Triple) → IsTrue (slice_index_or answers j false) ↔ IsSigned h (slice_index_or (map triple_of xs) j other)) where
  count : length (next_triples order path (take 4 rest)) ≡ 4
  count = length-next_triples order path (take 4 rest) ∙ length-take-le 4 rest many

  answers_true : (j : ℕ) → j < 4 → (other : Triple) → IsTrue (slice_index_or answers j false) ↔ IsSigned h (slice_index_or (next_triples order path (take 4 rest)) j other)
  answers_true j below other =
      subst (λ ts. IsTrue (slice_index_or answers j false) ↔ IsSigned h (slice_index_or ts j other)) are (right j (omega (arith, wide)) other)

  pub true_all : ((j : ℕ) → j < 4 → IsTrue (slice_index_or answers j false)) → AllSigned h (next_triples order path (take 4 rest))
  true_all yes_all j below other =
      let low : j < 4 = omega (arith, count) in
      (answers_true j low other).0 (yes_all j low)

  pub all_are_true : AllSigned h (next_triples order path (take 4 rest)) → (j : ℕ) → j < 4 → IsTrue (slice_index_or answers j false)
  all_are_true all j low =
      let other : Triple = record { signer = 0; statement = record { order = 0; path = [] }; signature = [] } in
      (answers_true j low other).1 (all j (omega (arith, count)) other)
