-- Links tell the entries below them, or the texts collide that were hashed at one place.
use Rattle.std.proofs.Common.{◌≡◌, ◌≢◌, ◌<◌, ℕ, zero, suc, ◌⊎◌, inl, inr, List, [], ◌∷◌, ◌++◌, length, take, drop, refl, sym, ap, subst, ◌∙◌, arith}
use Rattle.std.specs.Bool.{nat_eq}
use Rattle.std.specs.List.{AllByRecursion}
use Rattle.std.specs.Cmp.Lexicographic.{pointwise, same_text, other_text}
use Rattle.std.proofs.Math.Seq.{take-append_seam, drop-append_seam}
use Rattle.sha2.specs.Sha256.{sha256}
use Rattle.sha2.proofs.Facts256.{length-sha256}
use Rattle.gen_types.proofs.Lists.{bool_cases}
use Rattle.gen_types.specs.Spelled.{HasOneSpelling}
use Rattle.gen_net.specs.Header.{RunHeader, IsHeader}
use Rattle.gen_log.specs.declared.entries.Entry.{Entry}
use Rattle.gen_log.specs.Entry.{IsEntryOf, entry_spelling}
use Rattle.gen_log.specs.Links.{next_link, link_behind}
use Rattle.gen_ots.specs.Colliding.{AreColliding}
use Rattle.gen_convict.specs.LinkTexts.{link_text, IsLinkTextAt}
use Rattle.gen_convict.specs.Laws.{OneLinkText, LinksTell, OneTextOfPlace}

-- lists of numbers are the same or not
pub same_or_not : (xs ys : List ℕ) → (xs ≡ ys) ⊎ (xs ≢ ys)
same_or_not xs ys = elim (bool_cases (pointwise nat_eq xs ys)) [
  | inl e ↦ inl (same_text xs ys (sym e))
  | inr e ↦ inr (other_text xs ys (sym e))
]

-- each entry has one spelling
abbrev pub OneEntry : Type 0
OneEntry = (h : RunHeader) → IsHeader h → HasOneSpelling (IsEntryOf h) entry_spelling

pub one_entry : OneEntry → (h : RunHeader) (e f : Entry) → IsHeader h → IsEntryOf h e → IsEntryOf h f → entry_spelling e ≡ entry_spelling f → e ≡ f
one_entry one h e f ok is_e is_f same = (one h ok e f [] [] is_e is_f (ap (λ (t : List ℕ). t ++ []) same)).0

tail_of : List ℕ → List ℕ
tail_of [] = []
tail_of (x ∷ xs) = xs

pub one_text : OneEntry → OneLinkText
unfolding tail_of
one_text one h a b e f ok wide_a wide_b is_e is_f same =
    let tails : a ++ entry_spelling e ≡ b ++ entry_spelling f = ap tail_of same in
    let equal_width : length a ≡ length b = wide_a ∙ sym wide_b in
    let links : a ≡ b = sym (take-append_seam a (entry_spelling e)) ∙ ap (take (length a)) tails ∙ ap (λ n. take n (b ++ entry_spelling f)) equal_width ∙ take-append_seam b (entry_spelling f) in
    let spellings : entry_spelling e ≡ entry_spelling f = sym (drop-append_seam a (entry_spelling e)) ∙ ap (drop (length a)) tails ∙ ap (λ n. drop n (b ++ entry_spelling f)) equal_width ∙ drop-append_seam b (entry_spelling f) in
    (links, one_entry one h e f ok is_e is_f spellings)

-- one step: where the links behind are equal, all below is, or the texts collide
pub step_tells : OneEntry → (h : RunHeader) (a b : List ℕ) (e f : Entry) → IsHeader h → length a ≡ 32 → length b ≡ 32 → IsEntryOf h e → IsEntryOf h f → next_link a e ≡ next_link b f → ((a ≡ b) × (e ≡ f)) ⊎ AreColliding (link_text a e) (link_text b f)
step_tells one h a b e f ok wide_a wide_b is_e is_f hash = elim (same_or_not (link_text a e) (link_text b f)) [
  | inl same ↦ inl (one_text one h a b e f ok wide_a wide_b is_e is_f same)
  | inr differ ↦ inr (differ, hash)
]

entry_or : Entry → List Entry → Entry
entry_or d [] = d
entry_or d (e ∷ es) = e

front_at : (link : List ℕ) (es : List Entry) (place : ℕ) (text : List ℕ) (at : IsLinkTextAt link es place text) → at.before ≡ take place es
front_at link es place text at =
    sym (take-append_seam at.before (at.entry ∷ at.behind)) ∙ ap (λ n. take n (at.before ++ at.entry ∷ at.behind)) at.count ∙ ap (take place) (sym at.parts)

entry_at : (link : List ℕ) (es : List Entry) (place : ℕ) (text : List ℕ) (at : IsLinkTextAt link es place text) (d : Entry) → at.entry ≡ entry_or d (drop place es)
unfolding entry_or
entry_at link es place text at d =
    ap (entry_or d) (sym (drop-append_seam at.before (at.entry ∷ at.behind)) ∙ ap (λ n. drop n (at.before ++ at.entry ∷ at.behind)) at.count ∙ ap (drop place) (sym at.parts))

pub one_text_of_place : OneTextOfPlace
one_text_of_place link es place a b first second =
    let fronts : first.before ≡ second.before = front_at link es place a first ∙ sym (front_at link es place b second) in
    let entries : first.entry ≡ second.entry = entry_at link es place a first first.entry ∙ sym (entry_at link es place b second first.entry) in
    first.hashed ∙ ap (λ xs. link_text (link_behind link xs) first.entry) fronts ∙ ap (link_text (link_behind link second.before)) entries ∙ sym second.hashed

-- the texts at one place of both lists don't collide, with a link before each list
abbrev Apart : List ℕ → List ℕ → List Entry → List Entry → ℕ → Type 0
Apart a b es fs place = (c d : List ℕ) → IsLinkTextAt a es place c → IsLinkTextAt b fs place d → AreColliding c d → ⊥

-- the first texts at one place of two lists that collide, with a link before each list
record Meet (a b : List ℕ) (es fs : List Entry) : Type 0 where
  one : List ℕ
  other : List ℕ
  place : ℕ
  first : IsLinkTextAt a es place one
  second : IsLinkTextAt b fs place other
  collide : AreColliding one other
  earlier : (before : ℕ) → before < place → Apart a b es fs before

here : (link : List ℕ) (e : Entry) (es : List Entry) → IsLinkTextAt link (e ∷ es) 0 (link_text link e)
unfolding link_behind
here link e es = record { before = []; entry = e; behind = es; parts = refl; count = refl; hashed = refl }

further : (link : List ℕ) (e : Entry) (es : List Entry) (place : ℕ) (text : List ℕ) → IsLinkTextAt (next_link link e) es place text → IsLinkTextAt link (e ∷ es) (suc place) text
unfolding link_behind
further link e es place text at = record {
  before = e ∷ at.before;
  entry = at.entry;
  behind = at.behind;
  parts = ap (λ (xs : List Entry). e ∷ xs) at.parts;
  count = ap suc at.count;
  hashed = at.hashed;
}

tail_or : List Entry → List Entry
tail_or [] = []
tail_or (e ∷ es) = es

-- what stands at the place after the first one stands in the rest of the list
rest_at : (link : List ℕ) (e : Entry) (es : List Entry) (place : ℕ) (text : List ℕ) (before : List Entry) (entry : Entry) (behind : List Entry) → e ∷ es ≡ before ++ entry ∷ behind → length before ≡ suc place → text ≡ link_text (link_behind link before) entry → IsLinkTextAt (next_link link e) es place text
unfolding link_behind entry_or tail_or
rest_at link e es place text [] entry behind parts count hashed = absurd (omega (arith, count))
rest_at link e es place text (f ∷ before) entry behind parts count hashed =
    let same : f ≡ e = sym (ap (entry_or e) parts) in
    record {
      before = before;
      entry = entry;
      behind = behind;
      parts = ap tail_or parts;
      count = omega (arith, count);
      hashed = hashed ∙ ap (λ x. link_text (link_behind (next_link link x) before) entry) same;
    }

meet_here : (a b : List ℕ) (e f : Entry) (es fs : List Entry) → AreColliding (link_text a e) (link_text b f) → Meet a b (e ∷ es) (f ∷ fs)
meet_here a b e f es fs collide = record { one = link_text a e; other = link_text b f; place = 0; first = here a e es; second = here b f fs; collide = collide; earlier = λ before below. absurd (omega (arith, below)) }

-- if the first texts don't collide, and none before a place of the rests does, none before the next place does
apart_on : (a b : List ℕ) (e f : Entry) (es fs : List Entry) (place : ℕ) → (AreColliding (link_text a e) (link_text b f) → ⊥) → ((before : ℕ) → before < place → Apart (next_link a e) (next_link b f) es fs before) → (before : ℕ) → before < suc place → Apart a b (e ∷ es) (f ∷ fs) before
apart_on a b e f es fs place first rest zero below c d at_c at_d collide =
    let is_c : c ≡ link_text a e = one_text_of_place a (e ∷ es) 0 c (link_text a e) at_c (here a e es) in
    let is_d : d ≡ link_text b f = one_text_of_place b (f ∷ fs) 0 d (link_text b f) at_d (here b f fs) in
    first (subst (λ t. AreColliding (link_text a e) t) is_d (subst (λ t. AreColliding t d) is_c collide))
apart_on a b e f es fs place first rest (suc before) below c d at_c at_d collide =
    rest before (omega (arith, below)) c d
    (rest_at a e es before c at_c.before at_c.entry at_c.behind at_c.parts at_c.count at_c.hashed)
    (rest_at b f fs before d at_d.before at_d.entry at_d.behind at_d.parts at_d.count at_d.hashed)
    collide

meet_further : (a b : List ℕ) (e f : Entry) (es fs : List Entry) → (AreColliding (link_text a e) (link_text b f) → ⊥) → Meet (next_link a e) (next_link b f) es fs → Meet a b (e ∷ es) (f ∷ fs)
meet_further a b e f es fs apart m = record {
  one = m.one;
  other = m.other;
  place = suc m.place;
  first = further a e es m.place m.one m.first;
  second = further b f fs m.place m.other m.second;
  collide = m.collide;
  earlier = apart_on a b e f es fs m.place apart m.earlier;
}

-- two texts collide or not
colliding : (s t : List ℕ) → AreColliding s t ⊎ (AreColliding s t → ⊥)
colliding s t = elim (same_or_not s t) [
  | inl same ↦ inr (λ c. c.0 same)
  | inr differ ↦ elim (same_or_not (sha256 s) (sha256 t)) [
    | inl hash ↦ inl (differ, hash)
    | inr unlike ↦ inr (λ c. unlike c.1)
  ]
]

-- with two links before, of which nothing is known
walk : OneEntry → (h : RunHeader) (a b : List ℕ) (es fs : List Entry) → IsHeader h → length a ≡ 32 → length b ≡ 32 → AllByRecursion (IsEntryOf h) es → AllByRecursion (IsEntryOf h) fs → length es ≡ length fs → link_behind a es ≡ link_behind b fs → ((a ≡ b) × (es ≡ fs)) ⊎ Meet a b es fs
unfolding link_behind
walk one h a b [] [] ok wide_a wide_b is_es is_fs len hash = inl (hash, refl)
walk one h a b [] (f ∷ fs) ok wide_a wide_b is_es is_fs len hash = absurd (omega (arith, len))
walk one h a b (e ∷ es) [] ok wide_a wide_b is_es is_fs len hash = absurd (omega (arith, len))
walk one h a b (e ∷ es) (f ∷ fs) ok wide_a wide_b is_es is_fs len hash =
    let shorter : length es ≡ length fs = omega (arith, len) in
    elim (colliding (link_text a e) (link_text b f)) [
      | inl c ↦ inr (meet_here a b e f es fs c)
      | inr apart ↦ elim (walk one h (next_link a e) (next_link b f) es fs ok (length-sha256 (link_text a e)) (length-sha256 (link_text b f)) is_es.1 is_fs.1 shorter hash) [
        | inr m ↦ inr (meet_further a b e f es fs apart m)
        | inl same ↦ elim (step_tells one h a b e f ok wide_a wide_b is_es.0 is_fs.0 same.0) [
          | inr c ↦ absurd (apart c)
          | inl below ↦ inl (below.0, ap (λ x. x ∷ es) below.1 ∙ ap (λ xs. f ∷ xs) same.1)
        ]
      ]
    ]

pub links_tell : OneEntry → LinksTell
links_tell one h link es fs ok wide is_es is_fs len hash = elim (walk one h link link es fs ok wide wide is_es is_fs len hash) [
  | inl same ↦ inl same.1
  | inr m ↦ inr (m.one, m.other, record { place = m.place; first = m.first; second = m.second; collide = m.collide; earlier = m.earlier })
]
