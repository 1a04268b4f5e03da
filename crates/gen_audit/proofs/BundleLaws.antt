-- The laws of reading a bundle.
use Rattle.std.proofs.Common.{◌≡◌, ℕ, ◌^◌, ◌<◌, true, eqb, List, [], ◌∷◌, ◌++◌, length, Contains, Result, Ok, refl, sym, ap, subst, ◌∙◌, append_assoc, arith}
use Rattle.std.specs.Prelude.{nat_lt, nat_le}
use Rattle.std.specs.List.{flat_map}
use Rattle.std.specs.Int.{w32, to_be_bytes}
use Rattle.std.proofs.lemmas.Bool.{eqb-true, ltb-true, lt-ltb, leb-true, le-leb}
use Rattle.std.proofs.lemmas.List.{append-nil, take_at}
use Rattle.std.proofs.lemmas.List.Elements.{All-contains, All-from_recursion, recursion_from_All, All-from_get_or}
use Rattle.gen_types.specs.Reading.{◌>>=◌, check}
use Rattle.gen_types.specs.Bytes.{byte_at, bytes_at, number_at, many_at}
use Rattle.gen_types.specs.Spelled.{Spells}
use Rattle.gen_types.proofs.Lists.{All_of}
use Rattle.gen_types.proofs.Steps.{after, after_check, at_end}
use Rattle.gen_types.proofs.ByteFields.{IsBytes, IsBytes-take, Takes, Takes-then, byte_takes, bytes_takes, bytes_again, number_takes, number_again, wide32}
use Rattle.gen_types.proofs.ManyFields.{Reads, many_take, many_again}
use Rattle.gen_net.specs.Front.{front_spelling}
use Rattle.gen_net.specs.Header.{RunHeader}
use Rattle.gen_net.specs.Network.{IsBefore}
use Rattle.gen_log.specs.Fields.{AreBelow, set_spelling}
use Rattle.gen_log.specs.Writing.{LogBytes}
use Rattle.gen_audit.specs.declared.bundle_fault.BundleFault.{BundleFault}
use Rattle.gen_audit.specs.declared.bundle_fault.BundleFault.TheVariants as faults
use Rattle.gen_audit.specs.Behind.{many_behind}
use Rattle.gen_audit.specs.Bundle.{Bundle, IsBundle}
use Rattle.gen_audit.specs.BundleParts.{most_walks, most_exhibits, ends_of, IsListedWalk, AreListedWalks, IsExhibit, AreExhibits}
use Rattle.gen_audit.specs.BundleMaking.{is_walk_length, no_ends, may_follow, shown_general}
use Rattle.gen_audit.specs.BundleSpelling.{bundle_marks, walk_spelling, walks_spelling, exhibit_spelling, exhibits_spelling, bundle_spelling}
use Rattle.gen_audit.specs.BundleFields.{front_at, faulty_at}
use Rattle.gen_audit.specs.BundleReading.{general_at, walk_at, walks_at, owner_at, exhibit_at, exhibits_at, bundle_at, whole_bundle}
use Rattle.gen_audit.proofs.BundleBehind.{stand_all, stand_told, behind_takes, behind_again}
use Rattle.gen_audit.proofs.BundleParts.{walk_known, length_told, follow_told, walks_known, walks_stand, NotAfter, exhibits_known}
use Rattle.gen_audit.proofs.BundleFronts.{faulty_reads, fronts_read}

-- ---- walks

abbrev itself : ℕ → List ℕ
itself g = g ∷ []

itself_all : (xs : List ℕ) → flat_map itself xs ≡ xs
itself_all [] = refl
itself_all (x ∷ xs) = ap (λ (t : List ℕ). x ∷ t) (itself_all xs)

abbrev GeneralTaken : ℕ → List ℕ → ℕ × List ℕ → Type 0
GeneralTaken n bytes x = Takes bytes (itself x.0) x.1 × (x.0 < n)

general_takes : (n : ℕ) (bytes : List ℕ) (x : ℕ × List ℕ) → IsBytes bytes → general_at n bytes ≡ Ok x → GeneralTaken n bytes x
unfolding general_at
general_takes n bytes x fits e =
    after (byte_at faults.Truncated bytes) (λ number. check (nat_lt number.0 n) faults.BadWalk >>= λ known. Ok number) x e (λ number r0 e0.
    after_check (nat_lt number.0 n) faults.BadWalk (λ known. Ok number) x e0 (λ known e1.
    let t = byte_takes faults.Truncated bytes number.0 number.1 fits r0 in
    at_end {F = BundleFault} (GeneralTaken n bytes) number x e1 (t.0, ltb-true _ _ known)))

general_again : (n g : ℕ) (rest : List ℕ) → g < n → general_at n (itself g ++ rest) ≡ Ok (g, rest)
unfolding general_at
general_again n g rest lt =
    let known : nat_lt g n ≡ true = lt-ltb _ _ lt in
    rw known refl

generals_read : (n : ℕ) → Reads (general_at n) itself (λ g. g < n)
generals_read n = record { takes = general_takes n; again = general_again n }

abbrev WalkTaken : ℕ → ℕ × ℕ → List ℕ → List ℕ × List ℕ → Type 0
WalkTaken n before bytes x = Takes bytes (walk_spelling x.0) x.1 × (IsListedWalk n x.0 × IsBefore before (ends_of x.0))

walk_takes : (n : ℕ) (before : ℕ × ℕ) (bytes : List ℕ) (x : List ℕ × List ℕ) → IsBytes bytes → walk_at n before bytes ≡ Ok x → WalkTaken n before bytes x
unfolding walk_at
walk_takes n before bytes x fits e =
    after (byte_at faults.Truncated bytes) (λ count. check (is_walk_length count.0) faults.WalkCount >>= λ size. many_at (general_at n) count.0 count.1 >>= λ walk. check (may_follow before walk.0) faults.BadWalk >>= λ ordered. Ok walk) x e (λ count r0 e0.
    after_check (is_walk_length count.0) faults.WalkCount (λ size. many_at (general_at n) count.0 count.1 >>= λ walk. check (may_follow before walk.0) faults.BadWalk >>= λ ordered. Ok walk) x e0 (λ size e1.
    after (many_at (general_at n) count.0 count.1) (λ walk. check (may_follow before walk.0) faults.BadWalk >>= λ ordered. Ok walk) x e1 (λ walk r2 e2.
    after_check (may_follow before walk.0) faults.BadWalk (λ ordered. Ok walk) x e2 (λ ordered e3.
    let t0 = byte_takes faults.Truncated bytes count.0 count.1 fits r0 in
    let t1 = many_take (general_at n) itself (λ g. g < n) (generals_read n) count.0 count.1 walk t0.0.rest_fits r2 in
    let sized : is_walk_length (length walk.0) ≡ true = rw t1.1 size in
    let known = walk_known n before walk.0 sized (All-from_recursion (λ g. g < n) walk.0 t1.2) ordered in
    let text : Takes count.1 walk.0 walk.1 = subst (λ (t : List ℕ). Takes count.1 t walk.1) (itself_all walk.0) t1.0 in
    let all : Takes bytes (count.0 ∷ walk.0) walk.1 = Takes-then bytes (count.0 ∷ []) count.1 walk.0 walk.1 t0.0 text in
    at_end {F = BundleFault} (WalkTaken n before bytes) walk x e3 (subst (λ (k : ℕ). Takes bytes (k ∷ walk.0) walk.1) (sym t1.1) all, known)))))

walk_again : (n : ℕ) (before : ℕ × ℕ) (walk rest : List ℕ) → IsListedWalk n walk × IsBefore before (ends_of walk) → walk_at n before (walk_spelling walk ++ rest) ≡ Ok (walk, rest)
unfolding walk_at
walk_again n before walk rest is =
    let size = length_told n walk is.0 in
    let below = recursion_from_All (λ g. g < n) walk is.0.below in
    let many : many_at (general_at n) (length walk) (walk ++ rest) ≡ Ok (walk, rest) = ap (λ (t : List ℕ). many_at (general_at n) (length walk) (t ++ rest)) (sym (itself_all walk)) ∙ many_again (general_at n) itself (λ g. g < n) (generals_read n) walk rest below in
    let ordered = follow_told n before walk is.0 is.1 in
    rw (size, many, ordered) refl

pub walk_reads : (n : ℕ) (before : ℕ × ℕ) → Reads (walk_at n before) walk_spelling (λ w. IsListedWalk n w × IsBefore before (ends_of w))
walk_reads n before = record { takes = walk_takes n before; again = walk_again n before }

walks_take : (n : ℕ) (bytes : List ℕ) (x : List (List ℕ) × List ℕ) → IsBytes bytes → walks_at n bytes ≡ Ok x → Takes bytes (walks_spelling x.0) x.1 × AreListedWalks n x.0
unfolding walks_at
walks_take n bytes x fits e =
    after (byte_at faults.Truncated bytes) (λ count. check (nat_le count.0 most_walks) faults.WalkCount >>= λ few. many_behind (walk_at n) ends_of no_ends count.0 count.1) x e (λ count r0 e0.
    after_check (nat_le count.0 most_walks) faults.WalkCount (λ few. many_behind (walk_at n) ends_of no_ends count.0 count.1) x e0 (λ few e1.
    let t0 = byte_takes faults.Truncated bytes count.0 count.1 fits r0 in
    let t1 = behind_takes (IsListedWalk n) IsBefore (walk_at n) ends_of walk_spelling (walk_reads n) no_ends count.0 count.1 x t0.0.rest_fits e1 in
    let le = leb-true count.0 most_walks few in
    let all : Takes bytes (count.0 ∷ flat_map walk_spelling x.0) x.1 = Takes-then bytes (count.0 ∷ []) count.1 (flat_map walk_spelling x.0) x.1 t0.0 t1.taken in
    (subst (λ (k : ℕ). Takes bytes (k ∷ flat_map walk_spelling x.0) x.1) (sym t1.count) all, walks_known n x.0 (omega (arith, le, t1.count)) t1.stand)))

walks_again : (n : ℕ) (walks : List (List ℕ)) (rest : List ℕ) → AreListedWalks n walks → walks_at n (walks_spelling walks ++ rest) ≡ Ok (walks, rest)
unfolding walks_at
walks_again n walks rest are =
    let few : nat_le (length walks) most_walks ≡ true = le-leb _ _ are.few in
    let many = behind_again (IsListedWalk n) IsBefore (walk_at n) ends_of walk_spelling (walk_reads n) no_ends walks rest (walks_stand n walks are) in
    rw (few, many) refl

pub walks_read : (n : ℕ) → Reads (walks_at n) walks_spelling (AreListedWalks n)
walks_read n = record { takes = walks_take n; again = walks_again n }

-- ---- exhibits

-- an exhibit whose log is of bytes
pub record IsShown (n : ℕ) (x : LogBytes) : Type 0 where
  pub exhibit : IsExhibit n x
  pub bytes : AreBelow 256 x.bytes

abbrev OwnerTaken : ℕ → ℕ → List ℕ → ℕ × List ℕ → Type 0
OwnerTaken n before bytes x = Takes bytes (itself x.0) x.1 × ((x.0 < n) × NotAfter before x.0)

pub owner_takes : (n before : ℕ) (bytes : List ℕ) (x : ℕ × List ℕ) → IsBytes bytes → owner_at n before bytes ≡ Ok x → OwnerTaken n before bytes x
unfolding owner_at
owner_takes n before bytes x fits e =
    after (byte_at faults.Truncated bytes) (λ general. check (nat_lt general.0 n) faults.BadExhibit >>= λ known. check (nat_le before general.0) faults.OutOfOrder >>= λ ordered. Ok general) x e (λ general r0 e0.
    after_check (nat_lt general.0 n) faults.BadExhibit (λ known. check (nat_le before general.0) faults.OutOfOrder >>= λ ordered. Ok general) x e0 (λ known e1.
    after_check (nat_le before general.0) faults.OutOfOrder (λ ordered. Ok general) x e1 (λ ordered e2.
    let t = byte_takes faults.Truncated bytes general.0 general.1 fits r0 in
    at_end {F = BundleFault} (OwnerTaken n before bytes) general x e2 (t.0, (ltb-true _ _ known, leb-true _ _ ordered)))))

owner_again : (n before g : ℕ) (rest : List ℕ) → g < n → NotAfter before g → owner_at n before (g ∷ rest) ≡ Ok (g, rest)
unfolding owner_at
owner_again n before g rest lt le =
    let known : nat_lt g n ≡ true = lt-ltb _ _ lt in
    let ordered : nat_le before g ≡ true = le-leb _ _ le in
    rw (known, ordered) refl

bytes_of : (bytes : List ℕ) → IsBytes bytes → AreBelow 256 bytes
bytes_of bytes fits = All-from_get_or (λ b. b < 256) bytes 0 (λ i lt. fits i)

front_of : (bytes text rest : List ℕ) → IsBytes bytes → bytes ≡ text ++ rest → IsBytes text
front_of bytes text rest fits parts = subst IsBytes (take_at text rest (length text) refl) (IsBytes-take (length text) (text ++ rest) (subst IsBytes parts fits))

abbrev ExhibitTaken : ℕ → ℕ → List ℕ → LogBytes × List ℕ → Type 0
ExhibitTaken n before bytes x = Takes bytes (exhibit_spelling x.0) x.1 × (IsShown n x.0 × NotAfter before x.0.general)

pub exhibit_takes : (n before : ℕ) (bytes : List ℕ) (x : LogBytes × List ℕ) → IsBytes bytes → exhibit_at n before bytes ≡ Ok x → ExhibitTaken n before bytes x
unfolding exhibit_at
exhibit_takes n before bytes x fits e =
    let made : ℕ → List ℕ × List ℕ → Result (LogBytes × List ℕ) BundleFault = λ general log. Ok (record { general = general; bytes = log.0 }, log.1) in
    after (owner_at n before bytes) (λ general. number_at faults.Truncated w32 general.1 >>= λ size. bytes_at faults.Truncated size.0 size.1 >>= made general.0) x e (λ general r0 e0.
    after (number_at faults.Truncated w32 general.1) (λ size. bytes_at faults.Truncated size.0 size.1 >>= made general.0) x e0 (λ size r1 e1.
    after (bytes_at faults.Truncated size.0 size.1) (made general.0) x e1 (λ log r2 e2.
    let t0 = owner_takes n before bytes general fits r0 in
    let t1 = number_takes faults.Truncated w32 (2 ^ 32) wide32 general.1 size.0 size.1 t0.0.rest_fits r1 in
    let t2 = bytes_takes faults.Truncated size.0 size.1 log.0 log.1 t1.0.rest_fits r2 in
    let t12 = Takes-then general.1 (to_be_bytes w32 size.0) size.1 log.0 log.1 t1.0 t2.0 in
    let all : Takes bytes (general.0 ∷ (to_be_bytes w32 size.0 ++ log.0)) log.1 = Takes-then bytes (itself general.0) general.1 (to_be_bytes w32 size.0 ++ log.0) log.1 t0.0 t12 in
    let spelled = subst (λ (k : ℕ). Takes bytes (general.0 ∷ (to_be_bytes w32 k ++ log.0)) log.1) (sym t2.1) all in
    let below = bytes_of log.0 (front_of size.1 log.0 log.1 t1.0.rest_fits t2.0.parts) in
    let small : length log.0 < 2 ^ 32 = rw t2.1 t1.1 in
    at_end {F = BundleFault} (ExhibitTaken n before bytes) (record { general = general.0; bytes = log.0 }, log.1) x e2 (
      spelled,
      (record { exhibit = record { known = t0.1.0; short = small }; bytes = below }, t0.1.1),
    ))))

exhibit_again : (n before : ℕ) (x : LogBytes) (rest : List ℕ) → IsShown n x × NotAfter before x.general → exhibit_at n before (exhibit_spelling x ++ rest) ≡ Ok (x, rest)
unfolding exhibit_at
exhibit_again n before x rest is =
    let size = to_be_bytes w32 (length x.bytes) in
    let regrouped : exhibit_spelling x ++ rest ≡ x.general ∷ (size ++ (x.bytes ++ rest)) = ap (λ (t : List ℕ). x.general ∷ t) (append_assoc size x.bytes rest) in
    let owner = owner_again n before x.general (size ++ (x.bytes ++ rest)) is.0.exhibit.known is.1 in
    let number = number_again faults.Truncated w32 (2 ^ 32) wide32 (length x.bytes) (x.bytes ++ rest) is.0.exhibit.short in
    let log = bytes_again faults.Truncated (length x.bytes) x.bytes rest refl in
    ap (exhibit_at n before) regrouped ∙ rw (owner, number, log) refl

pub exhibit_reads : (n before : ℕ) → Reads (exhibit_at n before) exhibit_spelling (λ x. IsShown n x × NotAfter before x.general)
exhibit_reads n before = record { takes = exhibit_takes n before; again = exhibit_again n before }

-- exhibits whose logs are of bytes
pub record AreShown (n : ℕ) (shown : List LogBytes) : Type 0 where
  pub exhibits : AreExhibits n shown
  pub bytes : (x : LogBytes) → Contains shown x → AreBelow 256 x.bytes

exhibits_take : (n : ℕ) (bytes : List ℕ) (x : List LogBytes × List ℕ) → IsBytes bytes → exhibits_at n bytes ≡ Ok x → Takes bytes (exhibits_spelling x.0) x.1 × AreShown n x.0
unfolding exhibits_at
exhibits_take n bytes x fits e =
    after (byte_at faults.Truncated bytes) (λ count. check (nat_le count.0 most_exhibits) faults.BadExhibit >>= λ few. many_behind (exhibit_at n) shown_general 0 count.0 count.1) x e (λ count r0 e0.
    after_check (nat_le count.0 most_exhibits) faults.BadExhibit (λ few. many_behind (exhibit_at n) shown_general 0 count.0 count.1) x e0 (λ few e1.
    let t0 = byte_takes faults.Truncated bytes count.0 count.1 fits r0 in
    let t1 = behind_takes (IsShown n) NotAfter (exhibit_at n) shown_general exhibit_spelling (exhibit_reads n) 0 count.0 count.1 x t0.0.rest_fits e1 in
    let le = leb-true count.0 most_exhibits few in
    let all : Takes bytes (count.0 ∷ flat_map exhibit_spelling x.0) x.1 = Takes-then bytes (count.0 ∷ []) count.1 (flat_map exhibit_spelling x.0) x.1 t0.0 t1.taken in
    let each = stand_all (IsShown n) NotAfter shown_general 0 x.0 t1.stand in (
      subst (λ (k : ℕ). Takes bytes (k ∷ flat_map exhibit_spelling x.0) x.1) (sym t1.count) all,
      record {
        exhibits = exhibits_known n (IsShown n) x.0 (λ y is. is.exhibit) (omega (arith, le, t1.count)) t1.stand;
        bytes = λ y k. (All-contains (IsShown n) x.0 y each k).bytes;
      },
    )))

exhibits_again : (n : ℕ) (exhibits : List LogBytes) (rest : List ℕ) → AreShown n exhibits → exhibits_at n (exhibits_spelling exhibits ++ rest) ≡ Ok (exhibits, rest)
unfolding exhibits_at
exhibits_again n exhibits rest are =
    let few : nat_le (length exhibits) most_exhibits ≡ true = le-leb _ _ are.exhibits.few in
    let each = All_of (IsShown n) exhibits (λ y k. record { exhibit = All-contains (IsExhibit n) exhibits y are.exhibits.each k; bytes = are.bytes y k }) in
    let stand = stand_told (IsShown n) NotAfter shown_general 0 exhibits each are.exhibits.ascending (λ y k. omega arith) in
    let many = behind_again (IsShown n) NotAfter (exhibit_at n) shown_general exhibit_spelling (exhibit_reads n) 0 exhibits rest stand in
    rw (few, many) refl

pub exhibits_read : (n : ℕ) → Reads (exhibits_at n) exhibits_spelling (AreShown n)
exhibits_read n = record { takes = exhibits_take n; again = exhibits_again n }

-- ---- the bundle

abbrev BundleTaken : List ℕ → Bundle × List ℕ → Type 0
BundleTaken bytes x = Takes bytes (bundle_spelling x.0) x.1 × IsBundle x.0

bundle_takes : (bytes : List ℕ) (x : Bundle × List ℕ) → IsBytes bytes → bundle_at bytes ≡ Ok x → BundleTaken bytes x
unfolding bundle_at
bundle_takes bytes x fits e =
    after (front_at bytes) (λ header. faulty_at header.0.network.generals header.1 >>= λ faulty. walks_at header.0.network.generals faulty.1 >>= λ walks. exhibits_at header.0.network.generals walks.1 >>= λ exhibits. Ok (record { header = header.0; faulty = faulty.0; walks = walks.0; exhibits = exhibits.0 }, exhibits.1)) x e (λ header r0 e0.
    let n = header.0.network.generals in
    after (faulty_at header.0.network.generals header.1) (λ faulty. walks_at header.0.network.generals faulty.1 >>= λ walks. exhibits_at header.0.network.generals walks.1 >>= λ exhibits. Ok (record { header = header.0; faulty = faulty.0; walks = walks.0; exhibits = exhibits.0 }, exhibits.1)) x e0 (λ faulty r1 e1.
    after (walks_at header.0.network.generals faulty.1) (λ walks. exhibits_at header.0.network.generals walks.1 >>= λ exhibits. Ok (record { header = header.0; faulty = faulty.0; walks = walks.0; exhibits = exhibits.0 }, exhibits.1)) x e1 (λ walks r2 e2.
    after (exhibits_at header.0.network.generals walks.1) (λ exhibits. Ok (record { header = header.0; faulty = faulty.0; walks = walks.0; exhibits = exhibits.0 }, exhibits.1)) x e2 (λ exhibits r3 e3.
    let t0 = fronts_read.takes bytes header fits r0 in
    let t1 = (faulty_reads n t0.1.network.ranges.few_generals).takes header.1 faulty t0.0.rest_fits r1 in
    let t2 = (walks_read n).takes faulty.1 walks t1.0.rest_fits r2 in
    let t3 = (exhibits_read n).takes walks.1 exhibits t2.0.rest_fits r3 in
    let t23 = Takes-then faulty.1 (walks_spelling walks.0) walks.1 (exhibits_spelling exhibits.0) exhibits.1 t2.0 t3.0 in
    let behind = walks_spelling walks.0 ++ exhibits_spelling exhibits.0 in
    let t13 = Takes-then header.1 (set_spelling faulty.0) faulty.1 behind exhibits.1 t1.0 t23 in
    let t03 = Takes-then bytes (front_spelling bundle_marks header.0) header.1 (set_spelling faulty.0 ++ behind) exhibits.1 t0.0 t13 in
    let b : Bundle = record { header = header.0; faulty = faulty.0; walks = walks.0; exhibits = exhibits.0 } in
    at_end {F = BundleFault} (BundleTaken bytes) (b, exhibits.1) x e3 (
      t03,
      record { header = t0.1; faulty = t1.1; walks = t2.1; exhibits = t3.1.exhibits; bytes = t3.1.bytes },
    )))))

-- what was read part by part is a bundle
pub bundle_from : (bytes : List ℕ) (header : RunHeader × List ℕ) (faulty : List ℕ × List ℕ) (walks : List (List ℕ) × List ℕ) (exhibits : List LogBytes × List ℕ) → IsBytes bytes → front_at bytes ≡ Ok header
    → faulty_at header.0.network.generals header.1 ≡ Ok faulty → walks_at header.0.network.generals faulty.1 ≡ Ok walks → exhibits_at header.0.network.generals walks.1 ≡ Ok exhibits
    → IsBundle (record { header = header.0; faulty = faulty.0; walks = walks.0; exhibits = exhibits.0 })
unfolding bundle_at
bundle_from bytes header faulty walks exhibits fits r0 r1 r2 r3 =
    let b : Bundle = record { header = header.0; faulty = faulty.0; walks = walks.0; exhibits = exhibits.0 } in
    let read : bundle_at bytes ≡ Ok (b, exhibits.1) = rw (r0, r1, r2, r3) refl in
    (bundle_takes bytes (b, exhibits.1) fits read).1

bundle_again : (b : Bundle) (rest : List ℕ) → IsBundle b → bundle_at (bundle_spelling b ++ rest) ≡ Ok (b, rest)
unfolding bundle_at
bundle_again b rest is =
    let n = b.header.network.generals in
    let shown = exhibits_spelling b.exhibits in
    let walks = walks_spelling b.walks in
    let members = set_spelling b.faulty in
    let third : (walks ++ shown) ++ rest ≡ walks ++ (shown ++ rest) = append_assoc walks shown rest in
    let second : (members ++ (walks ++ shown)) ++ rest ≡ members ++ (walks ++ (shown ++ rest)) = append_assoc members (walks ++ shown) rest ∙ ap (λ (t : List ℕ). members ++ t) third in
    let regrouped : bundle_spelling b ++ rest ≡ front_spelling bundle_marks b.header ++ (members ++ (walks ++ (shown ++ rest))) = append_assoc (front_spelling bundle_marks b.header) (members ++ (walks ++ shown)) rest ∙ ap (λ (t : List ℕ). front_spelling bundle_marks b.header ++ t) second in
    let r0 = fronts_read.again b.header (members ++ (walks ++ (shown ++ rest))) is.header in
    let r1 = (faulty_reads n is.header.network.ranges.few_generals).again b.faulty (walks ++ (shown ++ rest)) is.faulty in
    let r2 = (walks_read n).again b.walks (shown ++ rest) is.walks in
    let r3 = (exhibits_read n).again b.exhibits rest (record { exhibits = is.exhibits; bytes = is.bytes }) in
    ap bundle_at regrouped ∙ rw (r0, r1, r2, r3) refl

pub bundles_read : Reads bundle_at bundle_spelling IsBundle
bundles_read = record { takes = bundle_takes; again = bundle_again }

nothing_left : (rest : List ℕ) → eqb (length rest) 0 ≡ true → rest ≡ []
nothing_left [] e = refl
nothing_left (b ∷ rest) e = absurd (omega (arith, eqb-true (length (b ∷ rest)) 0 e))

pub bundle_found : (bytes : List ℕ) (x : Bundle) → IsBytes bytes → whole_bundle bytes ≡ Ok x → Spells IsBundle bundle_spelling bytes x
unfolding whole_bundle
bundle_found bytes x fits e =
    after (bundle_at bytes) (λ b. check (eqb (length b.1) 0) faults.LeftOver >>= λ all. Ok b.0) x e (λ b r0 e0.
    after_check (eqb (length b.1) 0) faults.LeftOver (λ all. Ok b.0) x e0 (λ all e1.
    let t = bundle_takes bytes b fits r0 in
    let none = nothing_left b.1 all in
    at_end {F = BundleFault} (Spells IsBundle bundle_spelling bytes) b.0 x e1 (record {
      fits = t.1;
      spelled = t.0.parts ∙ ap (λ (r : List ℕ). bundle_spelling b.0 ++ r) none ∙ append-nil (bundle_spelling b.0);
    })))

pub bundle_only : (bytes : List ℕ) (b : Bundle) → Spells IsBundle bundle_spelling bytes b → whole_bundle bytes ≡ Ok b
unfolding whole_bundle
bundle_only bytes b s =
    let alone : bytes ≡ bundle_spelling b ++ [] = s.spelled ∙ sym (append-nil (bundle_spelling b)) in
    let read : bundle_at bytes ≡ Ok (b, []) = ap bundle_at alone ∙ bundle_again b [] s.fits in
    rw read refl
