-- A path that is read is spelled so and fits its line, and a path that is spelled so and fits is read.
use Rattle.std.proofs.Common.{◌≡◌, ◌≢◌, ℕ, suc, ◌-◌, ◌<◌, ◌≤◌, inl, inr, Bool, true, false, not, ◌&&◌, eqb, List, [], ◌∷◌, ◌++◌, length, map, slice_get, Contains, All, AllPairs, Option, Some, None, Result, Ok, refl, sym, ap, subst, ◌∙◌, append_assoc, arith, length-append}
use Rattle.std.specs.List.{join_with_byte, AllByRecursion}
use Rattle.std.specs.Fmt.{decimal}
use Rattle.std.proofs.lemmas.Bool.{eqb-true, eq-eqb, ltb-true, lt-ltb}
use Rattle.std.proofs.lemmas.Bool.Decides.{nat_tests}
use Rattle.std.proofs.lemmas.List.{append-nil}
use Rattle.std.proofs.lemmas.List.Elements.{All-contains, All-push, Contains-append_cases, Contains-get_or}
use Rattle.std.proofs.lemmas.List.Quantifiers.{all_pairs_push}
use Rattle.std.proofs.lemmas.List.Splits.{join_with_byte-slice_split}
use Rattle.gen_types.specs.Reading.{◌>>=◌, check}
use Rattle.gen_types.specs.Texts.{number_of}
use Rattle.gen_types.proofs.Steps.{after, after_check, at_end}
use Rattle.gen_types.proofs.Decimals.{both, number_found, number_again}
use Rattle.gen_types.proofs.Cutting.{IsFree, cut_joined, joined_free, decimal_free}
use Rattle.gen_types.proofs.Lists.{Contains_here, Contains_cases, Contains_nil, Contains-middle, bool_cases, AllPairs_head, AllPairs_tail, not_nil}
use Rattle.gen_net.specs.Network.{Network}
use Rattle.gen_types.specs.Ends.{BeginsWith, EndsWith}
use Rattle.gen_types.proofs.Among.{out_among}
use Rattle.gen_script.specs.declared.fault.ScriptFault.{ScriptFault}
use Rattle.gen_script.specs.declared.fault.ScriptFault.TheVariants.{BadPath}
use Rattle.gen_script.specs.declared.path_fields.PathKind.{PathKind}
use Rattle.gen_script.specs.declared.path_fields.PathKind.TheVariants.{Whole, Added}
use Rattle.gen_script.specs.FieldReading.{known_number, number_in}
use Rattle.gen_script.specs.PathReading.{fits_place, may_follow, longer_by, numbers_in, path_parts, is_last, ends_with, has_length, path_in}
use Rattle.gen_script.specs.Line.{path_text, IsPathTo}
use Rattle.gen_script.proofs.PathSteps.{new_in, may_so}

abbrev pub done : {A : Type 0} → A → Result A ScriptFault
done x = Ok x

-- ---- numbers

known : (o : Option ℕ) (n : ℕ) → known_number o ≡ Ok n → o ≡ Some n
known None n e = absurd cc
known (Some m) n e = cc

pub digits_found : (digits : List ℕ) (n : ℕ) → number_in digits ≡ Ok n → (digits ≡ decimal n) × (n < 256)
digits_found digits n e = number_found digits n (known (number_of digits) n e)

pub digits_again : (n : ℕ) → n < 256 → number_in (decimal n) ≡ Ok n
digits_again n lt = rw (number_again n lt) refl

-- ---- what a path of each kind keeps

-- 0 where it has to be, or nowhere
abbrev Place : PathKind → List ℕ → Type 0
Place Whole [] = Unit {0}
Place Whole (h ∷ more) = h ≡ 0
Place Added path = Contains path 0 → ⊥

record Fits (net : Network) (kind : PathKind) (path : List ℕ) : Type 0 where
  known : All (λ g. g < net.generals) path
  distinct : AllPairs (λ g h. g ≢ h) path
  place : Place kind path

other_than_0 : (g : ℕ) → not (eqb g 0) ≡ true → g ≡ 0 → ⊥
other_than_0 g e is = let z : eqb g 0 ≡ true = eq-eqb g 0 is in absurd cc

place_more : (kind : PathKind) (front : List ℕ) (g : ℕ) → fits_place kind front g ≡ true → Place kind front → Place kind (front ++ g ∷ [])
place_more Whole [] g e p = eqb-true g 0 e
place_more Whole (h ∷ front) g e p = p
place_more Added front g e p = λ h. elim (Contains-append_cases front (g ∷ []) 0 h) [
  | inl l ↦ p l
  | inr r ↦ (elim (Contains_cases g 0 [] r) [ inl is ↦ other_than_0 g e is | inr none ↦ Contains_nil 0 none ])
]

fits_more : (net : Network) (kind : PathKind) (front : List ℕ) (g : ℕ) → may_follow net kind front g ≡ true → Fits net kind front → Fits net kind (front ++ g ∷ [])
fits_more net kind front g may so =
    let h = both _ _ may in
    let k = both _ _ h.0 in
    let out : Contains front g → ⊥ = new_in net kind front g may in
    record {
      known = All-push (λ h. h < net.generals) front g so.known (ltb-true _ _ k.0);
      distinct = all_pairs_push (λ a b. a ≢ b) front g so.distinct (λ i d l e. out (subst (λ z. Contains front z) e (Contains-get_or front i d l)));
      place = place_more kind front g k.1 so.place;
    }

-- ---- all numbers

-- what was read after front
record NumbersOf (net : Network) (kind : PathKind) (front : List ℕ) (parts : List (List ℕ)) (path : List ℕ) : Type 0 where
  back : List ℕ
  path_is : path ≡ front ++ back
  parts_are : parts ≡ map decimal back
  fits : Fits net kind path

longer_found : (net : Network) (kind : PathKind) (front digits path : List ℕ) → Fits net kind front → longer_by net kind front digits ≡ Ok path → (g : ℕ) × (digits ≡ decimal g) × (path ≡ front ++ g ∷ []) × Fits net kind path
unfolding longer_by
longer_found net kind front digits path so e =
    after (number_in digits) (λ g. check (may_follow net kind front g) BadPath >>= λ fits. done (front ++ g ∷ [])) path e (λ g r0 e0.
    after_check (may_follow net kind front g) BadPath (λ fits. done (front ++ g ∷ [])) path e0 (λ may e1.
    let d = digits_found digits g r0 in
    at_end {F = ScriptFault} (λ (p : List ℕ). (g : ℕ) × (digits ≡ decimal g) × (p ≡ front ++ g ∷ []) × Fits net kind p) (front ++ g ∷ []) path e1 (g, d.0, refl, fits_more net kind front g may so)))

both_are : (x y : List ℕ) (xs ys : List (List ℕ)) → x ≡ y → xs ≡ ys → (x ∷ xs) ≡ (y ∷ ys)
both_are x y xs ys p q = cc

numbers_found : (net : Network) (kind : PathKind) (front : List ℕ) (parts : List (List ℕ)) (path : List ℕ) → Fits net kind front → numbers_in net kind front parts ≡ Ok path → NumbersOf net kind front parts path
unfolding numbers_in
numbers_found net kind front [] path so e = at_end {F = ScriptFault} (NumbersOf net kind front []) front path e (record { back = []; path_is = sym (append-nil front); parts_are = refl; fits = so })
numbers_found net kind front (digits ∷ parts) path so e =
    after (longer_by net kind front digits) (λ longer. numbers_in net kind longer parts) path e (λ longer r0 e0.
    let one = longer_found net kind front digits longer so r0 in
    let rest = numbers_found net kind longer parts path one.3 e0 in
    record {
      back = one.0 ∷ rest.back;
      path_is = rest.path_is ∙ ap (λ (p : List ℕ). p ++ rest.back) one.2 ∙ append_assoc front (one.0 ∷ []) rest.back;
      parts_are = both_are digits (decimal one.0) parts (map decimal rest.back) one.1 rest.parts_are;
      fits = rest.fits;
    })

-- ---- the last general

last_at : (x : ℕ) (more : List ℕ) (g : ℕ) → slice_get (x ∷ more) (length more) ≡ Some g → EndsWith (x ∷ more) g
last_at x [] g e = ([], cc)
last_at x (y ∷ more) g e = let r = last_at y more g e in (x ∷ r.0, ap (λ (p : List ℕ). x ∷ p) r.1)

is_last_means : (o : Option ℕ) (g : ℕ) → is_last o g ≡ true → o ≡ Some g
is_last_means None g e = absurd cc
is_last_means (Some h) g e = ap Some (eqb-true h g e)

last_found : (path : List ℕ) (g : ℕ) → ends_with path g ≡ true → EndsWith path g
last_found [] g e = absurd cc
last_found (x ∷ more) g e =
    let k : length (x ∷ more) - 1 ≡ length more = omega arith in
    last_at x more g (sym (ap (slice_get (x ∷ more)) k) ∙ is_last_means (slice_get (x ∷ more) (length (x ∷ more) - 1)) g e)

get_behind : (front : List ℕ) (g : ℕ) → slice_get (front ++ g ∷ []) (length front) ≡ Some g
get_behind [] g = refl
get_behind (x ∷ front) g = get_behind front g

last_again : (front : List ℕ) (g : ℕ) → ends_with (front ++ g ∷ []) g ≡ true
last_again front g =
    let k : length (front ++ g ∷ []) - 1 ≡ length front = omega (arith, length-append front (g ∷ [])) in
    rw (k, get_behind front g) (eq-eqb g g refl)

-- a test that tells whether he is the last is that of the path
pub last_told : (path : List ℕ) (g : ℕ) (t : Bool) → (t ≡ true → EndsWith path g) → (EndsWith path g → t ≡ true) → ends_with path g ≡ t
last_told path g true ends then = let e = ends refl in subst (λ (p : List ℕ). ends_with p g ≡ true) (sym e.1) (last_again e.0 g)
last_told path g false ends then = elim (bool_cases (ends_with path g)) [
  | inl e ↦ absurd (let t = then (last_found path g e) in cc)
  | inr e ↦ e
]

-- ---- the path of a line

-- what is asked of a path of each kind in a line of this round
abbrev pub Suits : PathKind → ℕ → List ℕ → Type 0
Suits Whole round path = BeginsWith path (0 ∷ []) × (length path ≡ round)
Suits Added round path = (Contains path 0 → ⊥) × (length path < round)

pub record PathOf (net : Network) (me : ℕ) (kind : PathKind) (round : ℕ) (digits path : List ℕ) : Type 0 where
  pub text_is : digits ≡ path_text path
  pub leads : IsPathTo net me path
  pub suits : Suits kind round path

begun : (path : List ℕ) (g : ℕ) → Place Whole path → EndsWith path g → BeginsWith path (0 ∷ [])
begun [] g p last = absurd (not_nil last.0 g [] (sym last.1))
begun (h ∷ more) g p last = (more, ap (λ (x : ℕ). x ∷ more) p)

suited : (kind : PathKind) (round : ℕ) (path : List ℕ) (g : ℕ) → Place kind path → EndsWith path g → has_length kind round (length path) ≡ true → Suits kind round path
suited Whole round path g p last e = (begun path g p last, eqb-true _ _ e)
suited Added round path g p last e = (p, ltb-true _ _ e)

no_place : (kind : PathKind) → Place kind []
no_place Whole = tt
no_place Added = Contains_nil 0

pub path_found : (net : Network) (me : ℕ) (kind : PathKind) (round : ℕ) (digits path : List ℕ) → path_in net me kind round digits ≡ Ok path → PathOf net me kind round digits path
unfolding path_in
path_found net me kind round digits path e =
    after (numbers_in net kind [] (path_parts digits)) (λ p. check (ends_with p me && has_length kind round (length p)) BadPath >>= λ ends. done p) path e (λ p r0 e0.
    after_check (ends_with p me && has_length kind round (length p)) BadPath (λ ends. done p) path e0 (λ ends e1.
    let h = both _ _ ends in
    let none : Fits net kind [] = record { known = λ i d l. absurd (omega arith); distinct = λ i j d l m. absurd (omega arith); place = no_place kind } in
    let numbers = numbers_found net kind [] (path_parts digits) p none r0 in
    let last = last_found p me h.0 in
    at_end {F = ScriptFault} (PathOf net me kind round digits) p path e1 (record {
      text_is = sym (join_with_byte-slice_split 44 digits) ∙ ap (join_with_byte 44) (numbers.parts_are ∙ ap (map decimal) (sym numbers.path_is));
      leads = record { known = numbers.fits.known; distinct = numbers.fits.distinct; last = last };
      suits = suited kind round p me numbers.fits.place last h.1;
    })))

-- ---- and back

-- the general after front fits
next_fits : (kind : PathKind) (front : List ℕ) (g : ℕ) (back : List ℕ) → Place kind (front ++ g ∷ back) → fits_place kind front g ≡ true
next_fits Whole [] g back p = eq-eqb g 0 p
next_fits Whole (h ∷ front) g back p = refl
next_fits Added front g back p = not_0 (λ is. p (subst (λ z. Contains (front ++ g ∷ back) z) is (Contains-middle front g back)))
  where
    not_0 : (g ≡ 0 → ⊥) → not (eqb g 0) ≡ true
    not_0 other = grind (arith, nat_tests, other)

-- a general does not stand in the path before him
before : (front : List ℕ) (g : ℕ) (back : List ℕ) → AllPairs (λ a b. a ≢ b) (front ++ g ∷ back) → Contains front g → ⊥
before [] g back apart h = Contains_nil g h
before (x ∷ front) g back apart h =
    elim (Contains_cases x g front h) [
      | inl is ↦ All-contains (λ b. x ≢ b) (front ++ g ∷ back) g (AllPairs_head (λ a b. a ≢ b) x (front ++ g ∷ back) apart) (Contains-middle front g back) is
      | inr k ↦ before front g back (AllPairs_tail (λ a b. a ≢ b) x (front ++ g ∷ back) apart) k
    ]

longer_again : (net : Network) (kind : PathKind) (front : List ℕ) (g : ℕ) (back : List ℕ) → net.generals ≤ 16 → Fits net kind (front ++ g ∷ back) → longer_by net kind front (decimal g) ≡ Ok (front ++ g ∷ [])
unfolding longer_by
longer_again net kind front g back few so =
    let lt : g < net.generals = All-contains (λ h. h < net.generals) (front ++ g ∷ back) g so.known (Contains-middle front g back) in
    let may : may_follow net kind front g ≡ true = may_so net kind front g (lt-ltb _ _ lt) (next_fits kind front g back so.place) (out_among front g (before front g back so.distinct)) in
    rw (digits_again g (omega arith), may) refl

numbers_again : (net : Network) (kind : PathKind) (front back : List ℕ) → net.generals ≤ 16 → Fits net kind (front ++ back) → numbers_in net kind front (map decimal back) ≡ Ok (front ++ back)
unfolding numbers_in
numbers_again net kind front [] few so = ap done (sym (append-nil front))
numbers_again net kind front (g ∷ back) few so =
    let same : (front ++ g ∷ []) ++ back ≡ front ++ g ∷ back = append_assoc front (g ∷ []) back in
    let rest = numbers_again net kind (front ++ g ∷ []) back few (subst (Fits net kind) (sym same) so) in
    rw (longer_again net kind front g back few so) (rest ∙ ap done same)

placed : (kind : PathKind) (round : ℕ) (path : List ℕ) → Suits kind round path → Place kind path
placed Whole round [] s = tt
placed Whole round (h ∷ more) s = let e : h ∷ more ≡ 0 ∷ s.0.0 = s.0.1 in cc
placed Added round path s = s.0

long_enough : (kind : PathKind) (round : ℕ) (path : List ℕ) → Suits kind round path → has_length kind round (length path) ≡ true
long_enough Whole round path s = eq-eqb _ _ s.1
long_enough Added round path s = lt-ltb _ _ s.1

decimals_free : (c : ℕ) (path : List ℕ) → c < 48 → All (λ g. g < 256) path → AllByRecursion (IsFree c) (map decimal path)
decimals_free c [] lt h = tt
decimals_free c (g ∷ path) lt h = (decimal_free c g lt (All-contains (λ g. g < 256) (g ∷ path) g h (Contains_here g path)), decimals_free c path lt (λ i d l. h (suc i) d (omega (arith, l))))

below_256 : (net : Network) (path : List ℕ) → net.generals ≤ 16 → All (λ g. g < net.generals) path → All (λ g. g < 256) path
below_256 net path few known i d l = let lt = known i d l in omega (arith, lt)

parts_again : (path : List ℕ) (g : ℕ) → EndsWith path g → All (λ g. g < 256) path → path_parts (path_text path) ≡ map decimal path
parts_again [] g last h = absurd (not_nil last.0 g [] (sym last.1))
parts_again (x ∷ path) g last h = let free = decimals_free 44 (x ∷ path) (omega arith) h in cut_joined 44 (decimal x) (map decimal path) free.0 free.1

pub path_again : (net : Network) (me : ℕ) (kind : PathKind) (round : ℕ) (path : List ℕ) → net.generals ≤ 16 → IsPathTo net me path → Suits kind round path → path_in net me kind round (path_text path) ≡ Ok path
unfolding path_in
path_again net me kind round path few is suits =
    let small = below_256 net path few is.known in
    let all = numbers_again net kind [] path few (record { known = is.known; distinct = is.distinct; place = placed kind round path suits }) in
    let ends : ends_with path me ≡ true = subst (λ (p : List ℕ). ends_with p me ≡ true) (sym is.last.1) (last_again is.last.0 me) in
    rw (parts_again path me is.last small, all, ends, long_enough kind round path suits) refl

-- a path's text has no space
pub path_free : (net : Network) (me : ℕ) (path : List ℕ) → net.generals ≤ 16 → IsPathTo net me path → IsFree 32 (path_text path)
path_free net me path few is = joined_free 32 44 (map decimal path) refl (decimals_free 32 path (omega arith) (below_256 net path few is.known))
