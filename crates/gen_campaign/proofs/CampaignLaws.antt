-- The laws of reading what is shown of a campaign.
use Rattle.std.proofs.Common.{◌≡◌, ℕ, ◌^◌, Bool, true, false, cond, eqb, eqb-true, nat_lt, List, [], ◌∷◌, ◌++◌, length, take, drop, AllPairs, Result, Ok, Err, refl, sym, ap, subst, ◌∙◌, append_assoc, arith}
use Rattle.std.specs.List.{flat_map}
use Rattle.std.specs.Int.{w32, to_be_bytes, from_be_bytes, byte_len}
use Rattle.std.proofs.lemmas.List.{append-nil}
use Rattle.std.proofs.lemmas.List.Concat.{flat_map-cons}
use Rattle.gen_types.specs.Reading.{◌>>=◌, check, map_fault}
use Rattle.gen_types.specs.Bytes.{byte_at, number_at}
use Rattle.gen_types.specs.Spelled.{Spells}
use Rattle.gen_types.proofs.ByteFields.{IsBytes, Takes, Takes-then, byte_takes, number_takes, number_again, wide32}
use Rattle.gen_types.proofs.ManyFields.{Reads}
use Rattle.gen_types.proofs.Steps.{after, after_check, at_end, guard_ok}
use Rattle.gen_types.proofs.Wrapped.{mapped_reads}
use Rattle.gen_net.specs.declared.version.Version.{Version}
use Rattle.gen_net.specs.declared.version.Version.TheVariants.{One, Two}
use Rattle.gen_net.specs.Front.{mark_spelling}
use Rattle.gen_audit.specs.declared.bundle_fault.BundleFault.{BundleFault}
use Rattle.gen_audit.specs.declared.bundle_fault.BundleFault.TheVariants as rules
use Rattle.gen_audit.specs.Bundle.{Bundle, IsBundle}
use Rattle.gen_audit.specs.BundleReading.{bundle_at, whole_bundle}
use Rattle.gen_audit.specs.BundleSpelling.{bundle_marks, bundle_spelling}
use Rattle.gen_audit.specs.Ends.{IsEndOf}
use Rattle.gen_audit.proofs.BundleLaws.{bundles_read}
use Rattle.gen_audit.proofs.InputEnds.{goes_on}
use Rattle.gen_campaign.specs.declared.campaign_fault.CampaignFault.{CampaignFault}
use Rattle.gen_campaign.specs.declared.campaign_fault.CampaignFault.TheVariants as faults
use Rattle.gen_campaign.specs.Campaign.{CampaignBundle, JoinsRun, AreRuns, IsCampaign, is_run_count}
use Rattle.gen_campaign.specs.CampaignSpelling.{campaign_mark, campaign_spelling}
use Rattle.gen_campaign.specs.CampaignReading.{runs_at, several_at, sole_at, alone_at, says_several, is_marked, campaign_at, left_over, whole_campaign}
use Rattle.gen_campaign.specs.OneBundle.{shown_alone, OneBundleAsBefore}
use Rattle.gen_campaign.proofs.RunCounts.{count_fits, count_known}
use Rattle.gen_campaign.proofs.RunLaws.{behind_mark, mark_first, Stand, stand_each, stand_joined, stand_told, runs_take, runs_again}

abbrev CampaignTaken : List ℕ → CampaignBundle × List ℕ → Type 0
CampaignTaken bytes x = Takes bytes (campaign_spelling x.0) x.1 × IsCampaign x.0

-- ---- several runs

abbrev mark_bytes : List ℕ
mark_bytes = to_be_bytes w32 campaign_mark

runs_known : (bundles : List Bundle) (count : ℕ) → is_run_count count ≡ true → length bundles ≡ count → Stand [] bundles → AreRuns bundles
runs_known bundles count known same s =
    let range = count_known count known in
    let none : AllPairs JoinsRun [] = λ i j d l m. absurd (omega (arith, l, m)) in
    record {
      some = omega (arith, range.0, same);
      few = omega (arith, range.1, same);
      each = stand_each [] bundles s;
      joined = stand_joined [] bundles none s;
    }

several_takes : (all bytes : List ℕ) (x : CampaignBundle × List ℕ) → Takes all mark_bytes bytes → several_at bytes ≡ Ok x → CampaignTaken all x
unfolding several_at
several_takes all bytes x mark e =
    after (byte_at faults.NoCount bytes) (λ count. check (is_run_count count.0) faults.RunCount >>= λ known. runs_at [] count.0 count.1 >>= λ runs. Ok (record { alone = false; bundles = runs.0 }, runs.1)) x e (λ count r0 e0.
    after_check (is_run_count count.0) faults.RunCount (λ known. runs_at [] count.0 count.1 >>= λ runs. Ok (record { alone = false; bundles = runs.0 }, runs.1)) x e0 (λ known e1.
    after (runs_at [] count.0 count.1) (λ runs. Ok (record { alone = false; bundles = runs.0 }, runs.1)) x e1 (λ runs r1 e2.
    let t0 = byte_takes faults.NoCount bytes count.0 count.1 mark.rest_fits r0 in
    let t1 = runs_take [] count.0 count.1 runs t0.0.rest_fits r1 in
    let shown = flat_map bundle_spelling runs.0 in
    let t01 = Takes-then bytes (count.0 ∷ []) count.1 shown runs.1 t0.0 t1.taken in
    let whole = Takes-then all mark_bytes bytes (count.0 ∷ shown) runs.1 mark t01 in
    let grouped = subst (λ (t : List ℕ). Takes all t runs.1) (sym (append_assoc mark_bytes (count.0 ∷ []) shown)) whole in
    let counted = subst (λ (k : ℕ). Takes all ((mark_bytes ++ k ∷ []) ++ shown) runs.1) (sym t1.count) grouped in
    at_end {F = CampaignFault} (CampaignTaken all) (record { alone = false; bundles = runs.0 }, runs.1) x e2 (counted, runs_known runs.0 count.0 known t1.count t1.stand))))

-- what was read run by run keeps what runs keep
pub runs_from : (count : ℕ) (bytes : List ℕ) (x : List Bundle × List ℕ) → IsBytes bytes → is_run_count count ≡ true → runs_at [] count bytes ≡ Ok x → AreRuns x.0
runs_from count bytes x fits known e =
    let t = runs_take [] count bytes x fits e in
    runs_known x.0 count known t.count t.stand

several_again : (bundles : List Bundle) (rest : List ℕ) → AreRuns bundles → several_at (length bundles ∷ (flat_map bundle_spelling bundles ++ rest)) ≡ Ok (record { alone = false; bundles = bundles }, rest)
unfolding several_at
several_again bundles rest are =
    let known : is_run_count (length bundles) ≡ true = count_fits (length bundles) are.some are.few in
    let runs = runs_again [] bundles rest (stand_told [] bundles are.each are.joined) in
    rw (known, runs) refl

-- ---- a bundle that stands alone

sole_reads : Reads sole_at bundle_spelling IsBundle
sole_reads = mapped_reads faults.Alone bundle_at bundle_spelling IsBundle bundles_read

one_spelled : (b : Bundle) → flat_map bundle_spelling (b ∷ []) ≡ bundle_spelling b
one_spelled b = flat_map-cons bundle_spelling b [] ∙ append-nil (bundle_spelling b)

alone_takes : (bytes : List ℕ) (x : CampaignBundle × List ℕ) → IsBytes bytes → alone_at bytes ≡ Ok x → CampaignTaken bytes x
unfolding alone_at
alone_takes bytes x fits e =
    after (sole_at bytes) (λ b. Ok (record { alone = true; bundles = b.0 ∷ [] }, b.1)) x e (λ b r0 e0.
    let t = sole_reads.takes bytes b fits r0 in
    let taken = subst (λ (s : List ℕ). Takes bytes s b.1) (sym (one_spelled b.0)) t.0 in
    at_end {F = CampaignFault} (CampaignTaken bytes) (record { alone = true; bundles = b.0 ∷ [] }, b.1) x e0 (taken, t.1))

alone_again : (b : Bundle) (rest : List ℕ) → IsBundle b → alone_at (bundle_spelling b ++ rest) ≡ Ok (record { alone = true; bundles = b ∷ [] }, rest)
unfolding alone_at
alone_again b rest is = let read = sole_reads.again b rest is in rw read refl

-- ---- the mark

marked_by : (bytes : List ℕ) (read : Result (ℕ × List ℕ) CampaignFault) → IsBytes bytes → number_at faults.NoCount w32 bytes ≡ read → says_several read ≡ true → Takes bytes mark_bytes (drop 4 bytes)
marked_by bytes (Err f) fits r e = absurd cc
marked_by bytes (Ok mark) fits r e =
    let t = number_takes faults.NoCount w32 (2 ^ 32) wide32 bytes mark.0 mark.1 fits r in
    let is = eqb-true mark.0 campaign_mark e in
    let left = guard_ok (nat_lt (length bytes) (byte_len w32)) faults.NoCount (from_be_bytes w32 (take (byte_len w32) bytes), drop (byte_len w32) bytes) mark r in
    let rest : mark.1 ≡ drop 4 bytes = sym (ap (λ (m : ℕ × List ℕ). m.1) left.1) in
    subst (λ (r : List ℕ). Takes bytes mark_bytes r) rest (subst (λ (k : ℕ). Takes bytes (to_be_bytes w32 k) mark.1) is t.0)

mark_read : (rest : List ℕ) → number_at faults.NoCount w32 (mark_bytes ++ rest) ≡ Ok (campaign_mark, rest)
mark_read rest = number_again faults.NoCount w32 (2 ^ 32) wide32 campaign_mark rest (omega arith)

marked_again : (rest : List ℕ) → is_marked (mark_bytes ++ rest) ≡ true
marked_again rest = ap says_several (mark_read rest)

behind_four : (rest : List ℕ) → drop 4 (mark_bytes ++ rest) ≡ rest
behind_four rest =
    let bytes = mark_bytes ++ rest in
    let left = guard_ok (nat_lt (length bytes) (byte_len w32)) faults.NoCount (from_be_bytes w32 (take (byte_len w32) bytes), drop (byte_len w32) bytes) (campaign_mark, rest) (mark_read rest) in
    ap (λ (m : ℕ × List ℕ). m.1) left.1

unmarked_by : (v : Version) (more : List ℕ) → is_marked (mark_spelling bundle_marks v ++ more) ≡ false
unmarked_by One more = ap says_several (number_again faults.NoCount w32 (2 ^ 32) wide32 bundle_marks.one more (omega arith))
unmarked_by (Two slot) more = ap says_several (number_again faults.NoCount w32 (2 ^ 32) wide32 bundle_marks.two more (omega arith))

unmarked : (b : Bundle) (rest : List ℕ) → is_marked (bundle_spelling b ++ rest) ≡ false
unmarked b rest = ap is_marked (mark_first b rest) ∙ unmarked_by b.header.version (behind_mark b rest)

pub passed : {F : Type 0} (b : Bool) (fault : F) (u : Unit {0}) → check b fault ≡ Ok u → b ≡ true
passed true fault u e = refl
passed false fault u e = absurd cc

pub behind_marked : (all bytes : List ℕ) → IsBytes bytes → is_marked bytes ≡ true → IsEndOf all bytes → IsEndOf all (drop 4 bytes)
behind_marked all bytes fits is end = goes_on all bytes mark_bytes (drop 4 bytes) end (marked_by bytes (number_at faults.NoCount w32 bytes) fits refl is).parts

pub behind_count : (all bytes : List ℕ) (count : ℕ) (rest : List ℕ) → IsBytes bytes → byte_at faults.NoCount bytes ≡ Ok (count, rest) → IsEndOf all bytes → IsEndOf all rest
behind_count all bytes count rest fits read end = goes_on all bytes (count ∷ []) rest end (byte_takes faults.NoCount bytes count rest fits read).0.parts

-- ---- either form

form_takes : (marked : Bool) (bytes : List ℕ) (x : CampaignBundle × List ℕ) → IsBytes bytes → is_marked bytes ≡ marked → cond marked (several_at (drop 4 bytes)) (alone_at bytes) ≡ Ok x → CampaignTaken bytes x
form_takes true bytes x fits is e = several_takes bytes (drop 4 bytes) x (marked_by bytes (number_at faults.NoCount w32 bytes) fits refl is) e
form_takes false bytes x fits is e = alone_takes bytes x fits e

campaign_takes : (bytes : List ℕ) (x : CampaignBundle × List ℕ) → IsBytes bytes → campaign_at bytes ≡ Ok x → CampaignTaken bytes x
unfolding campaign_at
campaign_takes bytes x fits e = form_takes (is_marked bytes) bytes x fits refl e

several_written : (bundles : List Bundle) (rest : List ℕ) → AreRuns bundles → campaign_at (campaign_spelling (record { alone = false; bundles = bundles }) ++ rest) ≡ Ok (record { alone = false; bundles = bundles }, rest)
unfolding campaign_at
several_written bundles rest are =
    let shown = flat_map bundle_spelling bundles in
    let behind = length bundles ∷ (shown ++ rest) in
    let grouped : ((mark_bytes ++ length bundles ∷ []) ++ shown) ++ rest ≡ mark_bytes ++ behind = append_assoc (mark_bytes ++ length bundles ∷ []) shown rest ∙ append_assoc mark_bytes (length bundles ∷ []) (shown ++ rest) in
    let read : campaign_at (mark_bytes ++ behind) ≡ Ok (record { alone = false; bundles = bundles }, rest) = rw (marked_again behind, behind_four behind) (several_again bundles rest are) in
    ap campaign_at grouped ∙ read

alone_written : (b : Bundle) (rest : List ℕ) → IsBundle b → campaign_at (campaign_spelling (record { alone = true; bundles = b ∷ [] }) ++ rest) ≡ Ok (record { alone = true; bundles = b ∷ [] }, rest)
unfolding campaign_at
alone_written b rest is =
    let read : campaign_at (bundle_spelling b ++ rest) ≡ Ok (record { alone = true; bundles = b ∷ [] }, rest) = rw (unmarked b rest) (alone_again b rest is) in
    ap (λ (s : List ℕ). campaign_at (s ++ rest)) (one_spelled b) ∙ read

written : (alone : Bool) (bundles : List Bundle) (rest : List ℕ) → IsCampaign (record { alone = alone; bundles = bundles }) → campaign_at (campaign_spelling (record { alone = alone; bundles = bundles }) ++ rest) ≡ Ok (record { alone = alone; bundles = bundles }, rest)
written true [] rest is = absurd is
written true (b ∷ []) rest is = alone_written b rest is
written true (b ∷ c ∷ more) rest is = absurd is
written false bundles rest is = several_written bundles rest is

pub campaigns_read : Reads campaign_at campaign_spelling IsCampaign
campaigns_read = record { takes = campaign_takes; again = λ c rest is. written c.alone c.bundles rest is }

-- ---- the whole of the bytes

nothing_left : (rest : List ℕ) → eqb (length rest) 0 ≡ true → rest ≡ []
nothing_left [] e = refl
nothing_left (b ∷ rest) e = absurd (omega (arith, eqb-true (length (b ∷ rest)) 0 e))

pub campaign_found : (bytes : List ℕ) (x : CampaignBundle) → IsBytes bytes → whole_campaign bytes ≡ Ok x → Spells IsCampaign campaign_spelling bytes x
unfolding whole_campaign
campaign_found bytes x fits e =
    after (campaign_at bytes) (λ c. check (eqb (length c.1) 0) (left_over c.0) >>= λ all. Ok c.0) x e (λ c r0 e0.
    after_check (eqb (length c.1) 0) (left_over c.0) (λ all. Ok c.0) x e0 (λ all e1.
    let t = campaigns_read.takes bytes c fits r0 in
    let none = nothing_left c.1 all in
    at_end {F = CampaignFault} (Spells IsCampaign campaign_spelling bytes) c.0 x e1 (record {
      fits = t.1;
      spelled = t.0.parts ∙ ap (λ (r : List ℕ). campaign_spelling c.0 ++ r) none ∙ append-nil (campaign_spelling c.0);
    })))

pub campaign_only : (bytes : List ℕ) (c : CampaignBundle) → Spells IsCampaign campaign_spelling bytes c → whole_campaign bytes ≡ Ok c
unfolding whole_campaign
campaign_only bytes c s =
    let alone : bytes ≡ campaign_spelling c ++ [] = s.spelled ∙ sym (append-nil (campaign_spelling c)) in
    let read : campaign_at bytes ≡ Ok (c, []) = ap campaign_at alone ∙ campaigns_read.again c [] s.fits in
    rw read refl

-- ---- a bundle that stands alone is read as before

tested : (b : Bool) (x : Bundle) → (check b (faults.Alone rules.LeftOver) >>= λ all. shown_alone x) ≡ (map_fault faults.Alone (check b rules.LeftOver >>= λ all. Ok x) >>= shown_alone)
tested true x = refl
tested false x = refl

abbrev alone_with : Bundle × List ℕ → Result (CampaignBundle × List ℕ) CampaignFault
alone_with b = Ok (record { alone = true; bundles = b.0 ∷ [] }, b.1)

alike : (read : Result (Bundle × List ℕ) BundleFault)
    → ((map_fault faults.Alone read >>= alone_with) >>= λ c. check (eqb (length c.1) 0) (left_over c.0) >>= λ all. Ok c.0)
    ≡ (map_fault faults.Alone (read >>= λ b. check (eqb (length b.1) 0) rules.LeftOver >>= λ all. Ok b.0) >>= shown_alone)
alike (Err f) = refl
alike (Ok b) = tested (eqb (length b.1) 0) b.0

pub one_bundle_as_before : OneBundleAsBefore
unfolding whole_campaign campaign_at alone_at whole_bundle
one_bundle_as_before bytes is = rw is (alike (bundle_at bytes))
