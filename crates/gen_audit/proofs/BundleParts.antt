-- The parts of a bundle: what its checks say, and back.
use Rattle.std.proofs.Common.{◌≡◌, ℕ, ◌<◌, ◌≤◌, ◌^◌, inl, inr, Bool, true, false, List, length, All, AllPairs, Ok, refl, arith}
use Rattle.std.specs.Prelude.{nat_lt, nat_le}
use Rattle.std.proofs.lemmas.Bool.{cases_lt, ltb-true, lt-ltb, leb-true, le-leb}
use Rattle.std.proofs.lemmas.List.Elements.{All-contains, All-weaker}
use Rattle.gen_types.specs.Reading.{◌>>=◌, check}
use Rattle.gen_types.proofs.Lists.{All_of}
use Rattle.gen_types.proofs.Steps.{after_check}
use Rattle.gen_net.specs.Edges.{goes_before}
use Rattle.gen_net.specs.Header.{RunHeader, IsHeader}
use Rattle.gen_net.specs.Network.{IsBefore}
use Rattle.gen_net.proofs.PlacedEdges.{before_is, before_again, before_all}
use Rattle.gen_log.specs.Fields.{AreBelow}
use Rattle.gen_log.proofs.Holding.{two, all_hold, all_told}
use Rattle.gen_log.specs.Writing.{LogBytes}
use Rattle.gen_audit.specs.declared.bundle_fault.BundleFault.{BundleFault}
use Rattle.gen_audit.specs.declared.bundle_fault.BundleFault.TheVariants as faults
use Rattle.gen_audit.specs.Behind.{check_behind}
use Rattle.gen_audit.specs.Bundle.{Bundle, IsBundle}
use Rattle.gen_audit.specs.BundleParts.{most_walks, fewest_in_walk, most_in_walk, most_exhibits, ends_of, IsListedWalk, AreListedWalks, IsExhibit, AreExhibits}
use Rattle.gen_audit.specs.BundleMaking.{are_below, is_walk_length, no_ends, may_follow, walk_check, walks_check, shown_general, exhibit_check, exhibits_check, bundle_with}
use Rattle.gen_audit.proofs.BundleBehind.{Stand, stand_all, stand_ascends, stand_told, check_stands, check_passes}

-- a check that passes
check_known : (b : Bool) (f : BundleFault) → check b f ≡ Ok tt → b ≡ true
check_known true f e = refl
check_known false f e = absurd cc

-- ---- numbers below n

pub below_known : (n : ℕ) (xs : List ℕ) → are_below n xs ≡ true → AreBelow n xs
below_known n xs e = All_of (λ v. v < n) xs (λ v h. ltb-true v n (all_hold (λ w. nat_lt w n) xs e v h))

pub below_told : (n : ℕ) (xs : List ℕ) → AreBelow n xs → are_below n xs ≡ true
below_told n xs below = all_told (λ w. nat_lt w n) xs (λ v h. lt-ltb v n (All-contains (λ w. w < n) xs v below h))

-- ---- walks

pub walk_known : (n : ℕ) (before : ℕ × ℕ) (walk : List ℕ) → is_walk_length (length walk) ≡ true → AreBelow n walk → may_follow before walk ≡ true → IsListedWalk n walk × IsBefore before (ends_of walk)
walk_known n before walk size below follows =
    let s = two (nat_le fewest_in_walk (length walk)) (nat_le (length walk) most_in_walk) size in
    let f = two (nat_lt (ends_of walk).0 (ends_of walk).1) (goes_before before (ends_of walk)) follows in
    (record { some = leb-true _ _ s.0; few = leb-true _ _ s.1; below = below; up = ltb-true _ _ f.0 }, before_is before (ends_of walk) f.1)

pub length_told : (n : ℕ) (walk : List ℕ) → IsListedWalk n walk → is_walk_length (length walk) ≡ true
length_told n walk is =
    let a : nat_le fewest_in_walk (length walk) ≡ true = le-leb _ _ is.some in
    let b : nat_le (length walk) most_in_walk ≡ true = le-leb _ _ is.few in
    rw (a, b) refl

pub follow_told : (n : ℕ) (before : ℕ × ℕ) (walk : List ℕ) → IsListedWalk n walk → IsBefore before (ends_of walk) → may_follow before walk ≡ true
follow_told n before walk is behind =
    let a : nat_lt (ends_of walk).0 (ends_of walk).1 ≡ true = lt-ltb _ _ is.up in
    let b = before_again before (ends_of walk) behind in
    rw (a, b) refl

abbrev pub WalksStand : ℕ → ℕ × ℕ → List (List ℕ) → Type 0
WalksStand n before walks = Stand (IsListedWalk n) IsBefore ends_of before walks

pub walks_known : (n : ℕ) (walks : List (List ℕ)) → length walks ≤ most_walks → WalksStand n no_ends walks → AreListedWalks n walks
walks_known n walks few stand = record {
  few = few;
  each = stand_all (IsListedWalk n) IsBefore ends_of no_ends walks stand;
  ascending = stand_ascends (IsListedWalk n) IsBefore ends_of before_all no_ends walks stand;
}

first_ends : (e : ℕ × ℕ) → e.0 < e.1 → IsBefore no_ends e
first_ends e up = elim (cases_lt 0 e.0) [
  | inl lt ↦ inl lt
  | inr le ↦ inr (omega (arith, le), omega (arith, up))
]

pub walks_stand : (n : ℕ) (walks : List (List ℕ)) → AreListedWalks n walks → WalksStand n no_ends walks
walks_stand n walks are =
    stand_told (IsListedWalk n) IsBefore ends_of no_ends walks are.each are.ascending
    (λ w h. first_ends (ends_of w) (All-contains (IsListedWalk n) walks w are.each h).up)

walk_checked : (n : ℕ) (before : ℕ × ℕ) (walk : List ℕ) → walk_check n before walk ≡ Ok tt → IsListedWalk n walk × IsBefore before (ends_of walk)
unfolding walk_check
walk_checked n before walk e =
    after_check (is_walk_length (length walk)) faults.WalkCount (λ size. check (are_below n walk) faults.BadWalk >>= λ known. check (may_follow before walk) faults.BadWalk) tt e (λ size e0.
    after_check (are_below n walk) faults.BadWalk (λ known. check (may_follow before walk) faults.BadWalk) tt e0 (λ known e1.
    walk_known n before walk size (below_known n walk known) (check_known (may_follow before walk) faults.BadWalk e1)))

pub walks_checked : (n : ℕ) (walks : List (List ℕ)) → walks_check n walks ≡ Ok tt → AreListedWalks n walks
unfolding walks_check
walks_checked n walks e =
    after_check (nat_le (length walks) most_walks) faults.WalkCount (λ few. check_behind (walk_check n) ends_of no_ends walks) tt e (λ few e0.
    walks_known n walks (leb-true _ _ few) (check_stands (IsListedWalk n) IsBefore (walk_check n) ends_of (walk_checked n) no_ends walks e0))

-- ---- exhibits

abbrev pub NotAfter : ℕ → ℕ → Type 0
NotAfter a b = a ≤ b

exhibit_checked : (n before : ℕ) (x : LogBytes) → exhibit_check n before x ≡ Ok tt → IsExhibit n x × NotAfter before x.general
unfolding exhibit_check
exhibit_checked n before x e =
    after_check (nat_lt x.general n) faults.BadExhibit (λ known. check (nat_le before x.general) faults.OutOfOrder >>= λ ordered. check (nat_lt (length x.bytes) (2 ^ 32)) faults.LongLog) tt e (λ known e0.
    after_check (nat_le before x.general) faults.OutOfOrder (λ ordered. check (nat_lt (length x.bytes) (2 ^ 32)) faults.LongLog) tt e0 (λ ordered e1.
    let short = check_known (nat_lt (length x.bytes) (2 ^ 32)) faults.LongLog e1 in
    (record { known = ltb-true _ _ known; short = ltb-true _ _ short }, leb-true _ _ ordered)))

not_after_then : (a b c : ℕ) → NotAfter a b → NotAfter b c → NotAfter a c
not_after_then a b c h k = omega (arith, h, k)

pub exhibits_known : (n : ℕ) (P : LogBytes → Type 0) (xs : List LogBytes) → ((x : LogBytes) → P x → IsExhibit n x) → length xs ≤ most_exhibits → Stand P NotAfter shown_general 0 xs → AreExhibits n xs
exhibits_known n P xs weaker few stand = record {
  few = few;
  each = All-weaker P (IsExhibit n) weaker xs (stand_all P NotAfter shown_general 0 xs stand);
  ascending = stand_ascends P NotAfter shown_general not_after_then 0 xs stand;
}

pub exhibits_checked : (n : ℕ) (xs : List LogBytes) → exhibits_check n xs ≡ Ok tt → AreExhibits n xs
unfolding exhibits_check
exhibits_checked n xs e =
    after_check (nat_le (length xs) most_exhibits) faults.BadExhibit (λ few. check_behind (exhibit_check n) shown_general 0 xs) tt e (λ few e0.
    exhibits_known n (IsExhibit n) xs (λ x is. is) (leb-true _ _ few) (check_stands (IsExhibit n) NotAfter (exhibit_check n) shown_general (exhibit_checked n) 0 xs e0))

-- ---- the bundle

pub bundle_made : (h : RunHeader) (faulty : List ℕ) (walks : List (List ℕ)) (xs : List LogBytes) → IsHeader h → AllPairs (λ v w. v < w) faulty
    → check (are_below h.network.generals faulty) faults.FaultyRange ≡ Ok tt → walks_check h.network.generals walks ≡ Ok tt → exhibits_check h.network.generals xs ≡ Ok tt → All (λ x. AreBelow 256 x.bytes) xs
    → IsBundle (record { header = h; faulty = faulty; walks = walks; exhibits = xs })
bundle_made h faulty walks xs is up members led shown bytes = record {
  header = is;
  faulty = record { ascending = up; below = below_known h.network.generals faulty (check_known (are_below h.network.generals faulty) faults.FaultyRange members) };
  walks = walks_checked h.network.generals walks led;
  exhibits = exhibits_checked h.network.generals xs shown;
  bytes = λ x k. All-contains (λ (y : LogBytes). AreBelow 256 y.bytes) xs x bytes k;
}

pub checks_told : (h : RunHeader) (faulty : List ℕ) (walks : List (List ℕ)) (xs : List LogBytes) → are_below h.network.generals faulty ≡ true → walks_check h.network.generals walks ≡ Ok tt → exhibits_check h.network.generals xs ≡ Ok tt
    → bundle_with h faulty walks xs ≡ Ok (record { header = h; faulty = faulty; walks = walks; exhibits = xs })
unfolding bundle_with
checks_told h faulty walks xs members led shown = rw (members, led, shown) refl

walk_passes : (n : ℕ) (before : ℕ × ℕ) (walk : List ℕ) → IsListedWalk n walk → IsBefore before (ends_of walk) → walk_check n before walk ≡ Ok tt
unfolding walk_check
walk_passes n before walk is behind =
    let size = length_told n walk is in
    let known = below_told n walk is.below in
    let ordered = follow_told n before walk is behind in
    rw (size, known, ordered) refl

pub walks_pass : (n : ℕ) (walks : List (List ℕ)) → AreListedWalks n walks → walks_check n walks ≡ Ok tt
unfolding walks_check
walks_pass n walks are =
    let few : nat_le (length walks) most_walks ≡ true = le-leb _ _ are.few in
    let each = check_passes (IsListedWalk n) IsBefore (walk_check n) ends_of (walk_passes n) no_ends walks (walks_stand n walks are) in
    rw (few, each) refl

exhibit_passes : (n before : ℕ) (x : LogBytes) → IsExhibit n x → NotAfter before x.general → exhibit_check n before x ≡ Ok tt
unfolding exhibit_check
exhibit_passes n before x is behind =
    let known : nat_lt x.general n ≡ true = lt-ltb _ _ is.known in
    let ordered : nat_le before x.general ≡ true = le-leb _ _ behind in
    let short : nat_lt (length x.bytes) (2 ^ 32) ≡ true = lt-ltb _ _ is.short in
    rw (known, ordered, short) refl

pub exhibits_pass : (n : ℕ) (xs : List LogBytes) → AreExhibits n xs → exhibits_check n xs ≡ Ok tt
unfolding exhibits_check
exhibits_pass n xs are =
    let few : nat_le (length xs) most_exhibits ≡ true = le-leb _ _ are.few in
    let stand = stand_told (IsExhibit n) NotAfter shown_general 0 xs are.each are.ascending (λ y k. omega arith) in
    let each = check_passes (IsExhibit n) NotAfter (exhibit_check n) shown_general (exhibit_passes n) 0 xs stand in
    rw (few, each) refl

pub bundle_told : (b : Bundle) → IsBundle b → bundle_with b.header b.faulty b.walks b.exhibits ≡ Ok b
bundle_told b is = checks_told b.header b.faulty b.walks b.exhibits (below_told b.header.network.generals b.faulty is.faulty.below) (walks_pass b.header.network.generals b.walks is.walks) (exhibits_pass b.header.network.generals b.exhibits is.exhibits)
