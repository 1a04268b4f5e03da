-- Lists whose members each are checked, or read, behind the one before it.
use Rattle.std.proofs.Common.{◌≡◌, ℕ, zero, suc, ◌+◌, ◌-◌, ◌<◌, ◌≤◌, List, [], ◌∷◌, ◌++◌, length, Contains, All, AllPairs, Result, Ok, Err, refl, sym, ap, subst, ◌∙◌, append_assoc, arith, inl, inr}
use Rattle.std.specs.List.{flat_map}
use Rattle.std.proofs.lemmas.List.{append-nil}
use Rattle.std.proofs.lemmas.List.Concat.{flat_map-cons}
use Rattle.std.proofs.lemmas.List.Elements.{All-nil, All-cons, All-head, All-tail, All-contains}
use Rattle.std.proofs.lemmas.List.Kept.{AllPairs-cons}
use Rattle.gen_types.specs.declared.reading.ReadError.{ReadError}
use Rattle.gen_types.specs.declared.reading.ReadError.TheVariants as errors
use Rattle.gen_types.specs.Reading.{◌>>=◌, Fails}
use Rattle.gen_types.proofs.Lists.{All_of, Contains_here, Contains_cases, Contains_nil, AllPairs_head, AllPairs_tail}
use Rattle.gen_types.proofs.Steps.{after, at_end}
use Rattle.gen_types.proofs.ByteFields.{IsBytes, Takes, Takes-then}
use Rattle.gen_types.proofs.ManyFields.{Reads, with_front}
use Rattle.gen_audit.specs.Behind.{check_behind, many_behind}

-- ---- members that stand behind one another

abbrev pub Stand : {A S : Type 0} → (A → Type 0) → (S → S → Type 0) → (A → S) → S → List A → Type 0
Stand P R mark before [] = Unit {0}
Stand P R mark before (x ∷ xs) = P x × R before (mark x) × Stand P R mark (mark x) xs

pub stand_all : {A S : Type 0} (P : A → Type 0) (R : S → S → Type 0) (mark : A → S) (before : S) (xs : List A) → Stand P R mark before xs → All P xs
stand_all P R mark before [] s = All-nil P
stand_all P R mark before (x ∷ xs) s = All-cons P x xs s.0 (stand_all P R mark (mark x) xs s.2)

behind_each : {A S : Type 0} (P : A → Type 0) (R : S → S → Type 0) (mark : A → S) → ((a b c : S) → R a b → R b c → R a c) → (before : S) (xs : List A) → Stand P R mark before xs → (y : A) → Contains xs y → R before (mark y)
behind_each P R mark then before [] s y at = absurd (Contains_nil y at)
behind_each {A} P R mark then before (x ∷ xs) s y at = elim (Contains_cases x y xs at) [
  | inl same ↦ subst (λ (z : A). R before (mark z)) same s.1
  | inr k ↦ then before (mark x) (mark y) s.1 (behind_each P R mark then (mark x) xs s.2 y k)
]

pub stand_ascends : {A S : Type 0} (P : A → Type 0) (R : S → S → Type 0) (mark : A → S) → ((a b c : S) → R a b → R b c → R a c) → (before : S) (xs : List A) → Stand P R mark before xs → AllPairs (λ x y. R (mark x) (mark y)) xs
stand_ascends P R mark then before [] s = λ i j d l m. absurd (omega (arith, l, m))
stand_ascends {A} P R mark then before (x ∷ xs) s =
    AllPairs-cons (λ (a b : A). R (mark a) (mark b)) x xs
    (All_of (λ (b : A). R (mark x) (mark b)) xs (behind_each P R mark then (mark x) xs s.2))
    (stand_ascends P R mark then (mark x) xs s.2)

pub stand_told : {A S : Type 0} (P : A → Type 0) (R : S → S → Type 0) (mark : A → S) (before : S) (xs : List A) → All P xs → AllPairs (λ x y. R (mark x) (mark y)) xs → ((y : A) → Contains xs y → R before (mark y)) → Stand P R mark before xs
stand_told P R mark before [] all up first = tt
stand_told {A} P R mark before (x ∷ xs) all up first =
    let Up : A → A → Type 0 = λ a b. R (mark a) (mark b) in
    (All-head P x xs all, first x (Contains_here x xs), stand_told P R mark (mark x) xs (All-tail P x xs all) (AllPairs_tail Up x xs up) (λ y k. All-contains (Up x) xs y (AllPairs_head Up x xs up) k))

-- ---- checks

pub check_goes_on : {A S F : Type 0} (rule : S → A → Result (Unit {0}) F) (mark : A → S) (before : S) (rest : List A) (x : A) (others : List A) (total : Result (Unit {0}) F) → rest ≡ x ∷ others → rule before x ≡ Ok tt
    → check_behind rule mark before rest ≡ total → check_behind rule mark (mark x) others ≡ total
unfolding check_behind
check_goes_on rule mark before rest x others total parts passed so_far =
    let one : check_behind rule mark before (x ∷ others) ≡ check_behind rule mark (mark x) others = rw passed refl in
    sym one ∙ sym (ap (check_behind rule mark before) parts) ∙ so_far

pub check_ends : {A S F : Type 0} (rule : S → A → Result (Unit {0}) F) (mark : A → S) (before : S) (rest : List A) (x : A) (others : List A) (f : F) (total : Result (Unit {0}) F) → rest ≡ x ∷ others → rule before x ≡ Err f
    → check_behind rule mark before rest ≡ total → Err f ≡ total
unfolding check_behind
check_ends rule mark before rest x others f total parts failed so_far =
    let one : check_behind rule mark before (x ∷ others) ≡ Err f = rw failed refl in
    sym one ∙ sym (ap (check_behind rule mark before) parts) ∙ so_far

pub check_is_done : {A S F : Type 0} (rule : S → A → Result (Unit {0}) F) (mark : A → S) (before : S) (rest : List A) (total : Result (Unit {0}) F) → rest ≡ [] → check_behind rule mark before rest ≡ total → Ok tt ≡ total
unfolding check_behind
check_is_done rule mark before rest total none so_far = sym (ap (check_behind rule mark before) none) ∙ so_far

pub check_stands : {A S F : Type 0} (P : A → Type 0) (R : S → S → Type 0) (rule : S → A → Result (Unit {0}) F) (mark : A → S) → ((before : S) (x : A) → rule before x ≡ Ok tt → P x × R before (mark x))
    → (before : S) (xs : List A) → check_behind rule mark before xs ≡ Ok tt → Stand P R mark before xs
unfolding check_behind
check_stands P R rule mark known before [] e = tt
check_stands P R rule mark known before (x ∷ xs) e =
    after (rule before x) (λ here. check_behind rule mark (mark x) xs) tt e (λ here r0 e0.
    let k = known before x r0 in
    (k.0, k.1, check_stands P R rule mark known (mark x) xs e0))

pub check_passes : {A S F : Type 0} (P : A → Type 0) (R : S → S → Type 0) (rule : S → A → Result (Unit {0}) F) (mark : A → S) → ((before : S) (x : A) → P x → R before (mark x) → rule before x ≡ Ok tt)
    → (before : S) (xs : List A) → Stand P R mark before xs → check_behind rule mark before xs ≡ Ok tt
unfolding check_behind
check_passes P R rule mark told before [] s = refl
check_passes P R rule mark told before (x ∷ xs) s = rw (told before x s.0 s.1, check_passes P R rule mark told (mark x) xs s.2) refl

-- ---- reading

regroup : {A F : Type 0} (front : List A) (n : A) (read : Result (List A × List ℕ) F) → with_front front (read >>= λ x. Ok (n ∷ x.0, x.1)) ≡ with_front (front ++ n ∷ []) read
regroup {A} front n (Ok x) = ap (λ (ns : List A). Ok (ns, x.1)) (sym (append_assoc front (n ∷ []) x.0))
regroup front n (Err f) = refl

pub behind_goes_on : {A S F : Type 0} (read : S → List ℕ → Result (A × List ℕ) F) (mark : A → S) (front : List A) (before : S) (count i : ℕ) (bytes : List ℕ) (n : A) (rest : List ℕ) (total : Result (List A × List ℕ) F) → i < count → read before bytes ≡ Ok (n, rest)
    → with_front front (many_behind read mark before (count - i) bytes) ≡ total → with_front (front ++ n ∷ []) (many_behind read mark (mark n) (count - (i + 1)) rest) ≡ total
unfolding many_behind
behind_goes_on read mark front before count i bytes n rest total lt h so_far =
    let k : count - i ≡ suc (count - (i + 1)) = omega arith in
    let one : with_front front (many_behind read mark before (count - i) bytes) ≡ with_front (front ++ n ∷ []) (many_behind read mark (mark n) (count - (i + 1)) rest) = rw (k, h) (regroup front n (many_behind read mark (mark n) (count - (i + 1)) rest)) in
    sym one ∙ so_far

pub behind_ends : {A S F : Type 0} (read : S → List ℕ → Result (A × List ℕ) F) (mark : A → S) (e : ReadError F) (front : List A) (before : S) (count i : ℕ) (bytes : List ℕ) (total : Result (List A × List ℕ) F) → i < count → Fails e (read before bytes)
    → with_front front (many_behind read mark before (count - i) bytes) ≡ total → Fails e total
unfolding many_behind
behind_ends read mark errors.Memory front before count i bytes total lt h so_far = tt
behind_ends read mark (errors.Fault f) front before count i bytes total lt h so_far =
    let k : count - i ≡ suc (count - (i + 1)) = omega arith in
    let one : with_front front (many_behind read mark before (count - i) bytes) ≡ Err f = rw (k, h) refl in
    sym so_far ∙ one

pub behind_is_done : {A S F : Type 0} (read : S → List ℕ → Result (A × List ℕ) F) (mark : A → S) (front : List A) (before : S) (count i : ℕ) (bytes : List ℕ) (total : Result (List A × List ℕ) F) → count ≤ i → with_front front (many_behind read mark before (count - i) bytes) ≡ total → total ≡ Ok (front, bytes)
unfolding many_behind
behind_is_done {A} read mark front before count i bytes total le so_far =
    let k : count - i ≡ 0 = omega arith in
    let one : with_front front (many_behind read mark before (count - i) bytes) ≡ Ok (front, bytes) = rw k (ap (λ (ns : List A). Ok (ns, bytes)) (append-nil front)) in
    sym so_far ∙ one

pub record BehindTaken {A S : Type 0} (P : A → Type 0) (R : S → S → Type 0) (mark : A → S) (spell : A → List ℕ) (before : S) (n : ℕ) (bytes : List ℕ) (x : List A × List ℕ) : Type 0 where
  pub taken : Takes bytes (flat_map spell x.0) x.1
  pub count : length x.0 ≡ n
  pub stand : Stand P R mark before x.0

pub behind_takes : {A S F : Type 0} (P : A → Type 0) (R : S → S → Type 0) (read : S → List ℕ → Result (A × List ℕ) F) (mark : A → S) (spell : A → List ℕ) → ((before : S) → Reads (read before) spell (λ x. P x × R before (mark x)))
    → (before : S) (n : ℕ) (bytes : List ℕ) (x : List A × List ℕ) → IsBytes bytes → many_behind read mark before n bytes ≡ Ok x → BehindTaken P R mark spell before n bytes x
unfolding many_behind
behind_takes {A} {F = F} P R read mark spell reads before zero bytes x fits e =
    at_end {F = F} (BehindTaken P R mark spell before zero bytes) ([], bytes) x e (record { taken = record { parts = refl; rest_fits = fits }; count = refl; stand = tt })
behind_takes {A} {F = F} P R read mark spell reads before (suc n) bytes x fits e =
    after (read before bytes) (λ first. many_behind read mark (mark first.0) n first.1 >>= λ others. Ok (first.0 ∷ others.0, others.1)) x e (λ first r0 e0.
    after (many_behind read mark (mark first.0) n first.1) (λ others. Ok (first.0 ∷ others.0, others.1)) x e0 (λ others r1 e1.
    let t0 = (reads before).takes bytes first fits r0 in
    let t1 = behind_takes P R read mark spell reads (mark first.0) n first.1 others t0.0.rest_fits r1 in
    let all = Takes-then bytes (spell first.0) first.1 (flat_map spell others.0) others.1 t0.0 t1.taken in
    at_end {F = F} (BehindTaken P R mark spell before (suc n) bytes) (first.0 ∷ others.0, others.1) x e1 (record {
      taken = rw flat_map-cons all;
      count = ap suc t1.count;
      stand = (t0.1.0, t0.1.1, t1.stand);
    })))

pub behind_again : {A S F : Type 0} (P : A → Type 0) (R : S → S → Type 0) (read : S → List ℕ → Result (A × List ℕ) F) (mark : A → S) (spell : A → List ℕ) → ((before : S) → Reads (read before) spell (λ x. P x × R before (mark x)))
    → (before : S) (xs : List A) (rest : List ℕ) → Stand P R mark before xs → many_behind read mark before (length xs) (flat_map spell xs ++ rest) ≡ Ok (xs, rest)
unfolding many_behind
behind_again P R read mark spell reads before [] rest s = refl
behind_again P R read mark spell reads before (x ∷ xs) rest s =
    let regrouped : flat_map spell (x ∷ xs) ++ rest ≡ spell x ++ (flat_map spell xs ++ rest) = ap (λ (t : List ℕ). t ++ rest) (flat_map-cons spell x xs) ∙ append_assoc (spell x) (flat_map spell xs) rest in
    let one = (reads before).again x (flat_map spell xs ++ rest) (s.0, s.1) in
    let others = behind_again P R read mark spell reads (mark x) xs rest s.2 in
    ap (many_behind read mark before (suc (length xs))) regrouped ∙ rw (one, others) refl
