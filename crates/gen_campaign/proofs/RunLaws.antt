-- The laws of reading runs one behind another.
use Rattle.std.proofs.Common.{◌≡◌, ℕ, zero, suc, ◌+◌, ◌-◌, ◌<◌, ◌≤◌, ◌^◌, eqb, eqb-true, List, [], ◌∷◌, ◌++◌, length, Contains, All, AllPairs, Result, Ok, Err, refl, sym, ap, subst, ◌∙◌, append_assoc, arith, inl, inr}
use Rattle.std.specs.List.{flat_map}
use Rattle.std.specs.Int.{w32}
use Rattle.std.proofs.lemmas.List.{append-nil}
use Rattle.std.proofs.lemmas.List.Concat.{flat_map-cons}
use Rattle.std.proofs.lemmas.List.Elements.{All-nil, All-cons, All-head, All-tail, All-contains}
use Rattle.gen_types.specs.declared.reading.ReadError.{ReadError}
use Rattle.gen_types.specs.declared.reading.ReadError.TheVariants as errors
use Rattle.gen_types.specs.Reading.{◌>>=◌, check, Fails}
use Rattle.gen_types.specs.Bytes.{number_at}
use Rattle.gen_types.proofs.ByteFields.{IsBytes, Takes, Takes-then, number_again, wide32}
use Rattle.gen_types.proofs.Lists.{Contains_cases, Contains_nil, Contains-middle, AllPairs_head, AllPairs_tail, AllPairs-append}
use Rattle.gen_types.proofs.ManyFields.{Reads, with_front}
use Rattle.gen_types.proofs.Steps.{after, after_check, at_end, ok_is}
use Rattle.gen_types.proofs.Wrapped.{mapped_reads}
use Rattle.gen_net.specs.declared.version.Version.{Version}
use Rattle.gen_net.specs.declared.version.Version.TheVariants.{One, Two}
use Rattle.gen_net.specs.Front.{front_spelling, mark_spelling}
use Rattle.gen_net.specs.Header.{header_spelling}
use Rattle.gen_log.specs.Fields.{set_spelling}
use Rattle.gen_audit.specs.declared.bundle_fault.BundleFault.{BundleFault}
use Rattle.gen_audit.specs.declared.bundle_fault.BundleFault.TheVariants as rules
use Rattle.gen_audit.specs.Bundle.{Bundle}
use Rattle.gen_audit.specs.BundleReading.{bundle_at}
use Rattle.gen_audit.specs.BundleSpelling.{bundle_marks, walks_spelling, exhibits_spelling, bundle_spelling}
use Rattle.gen_audit.specs.Ends.{IsEndOf}
use Rattle.gen_audit.proofs.BundleLaws.{bundles_read}
use Rattle.gen_audit.proofs.InputEnds.{goes_on}
use Rattle.gen_campaign.specs.declared.campaign_fault.CampaignFault.{CampaignFault}
use Rattle.gen_campaign.specs.declared.campaign_fault.CampaignFault.TheVariants as faults
use Rattle.gen_campaign.specs.Campaign.{JoinsRun, IsSecond, IsRunBundle}
use Rattle.gen_campaign.specs.CampaignReading.{second_bundle_at, counted_at, may_join, run_at, runs_at}
use Rattle.gen_campaign.proofs.Joined.{Behind, behind_gives, behind_told}

-- ---- a bundle of version 2

-- what follows the mark of a bundle, and anything behind it
abbrev pub behind_mark : Bundle → List ℕ → List ℕ
behind_mark b rest = header_spelling b.header ++ ((set_spelling b.faulty ++ (walks_spelling b.walks ++ exhibits_spelling b.exhibits)) ++ rest)

pub mark_first : (b : Bundle) (rest : List ℕ) → bundle_spelling b ++ rest ≡ mark_spelling bundle_marks b.header.version ++ behind_mark b rest
mark_first b rest =
    let parts = set_spelling b.faulty ++ (walks_spelling b.walks ++ exhibits_spelling b.exhibits) in
    append_assoc (front_spelling bundle_marks b.header) parts rest ∙ append_assoc (mark_spelling bundle_marks b.header.version) (header_spelling b.header) (parts ++ rest)

second_by : (v : Version) (more : List ℕ) (mark : ℕ × List ℕ) → number_at rules.Truncated w32 (mark_spelling bundle_marks v ++ more) ≡ Ok mark → mark.0 ≡ bundle_marks.two → IsSecond v
second_by One more mark e two =
    let read = number_again rules.Truncated w32 (2 ^ 32) wide32 bundle_marks.one more (omega arith) in
    let same : (bundle_marks.one, more) ≡ mark = ok_is {F = BundleFault} (bundle_marks.one, more) mark (sym read ∙ e) in
    absurd (omega (arith, ap (λ (m : ℕ × List ℕ). m.0) same, two))
second_by (Two slot) more mark e two = tt

second_again_by : (v : Version) (more : List ℕ) → IsSecond v → number_at rules.Truncated w32 (mark_spelling bundle_marks v ++ more) ≡ Ok (bundle_marks.two, more)
second_again_by One more is = absurd is
second_again_by (Two slot) more is = number_again rules.Truncated w32 (2 ^ 32) wide32 bundle_marks.two more (omega arith)

abbrev SecondTaken : List ℕ → Bundle × List ℕ → Type 0
SecondTaken bytes x = Takes bytes (bundle_spelling x.0) x.1 × IsRunBundle x.0

second_takes : (bytes : List ℕ) (x : Bundle × List ℕ) → IsBytes bytes → second_bundle_at bytes ≡ Ok x → SecondTaken bytes x
unfolding second_bundle_at
second_takes bytes x fits e =
    after (number_at rules.Truncated w32 bytes) (λ mark. check (eqb mark.0 bundle_marks.two) rules.UnknownMark >>= λ two. bundle_at bytes) x e (λ mark r0 e0.
    after_check (eqb mark.0 bundle_marks.two) rules.UnknownMark (λ two. bundle_at bytes) x e0 (λ two e1.
    let t = bundles_read.takes bytes x fits e1 in
    let begins : bytes ≡ mark_spelling bundle_marks x.0.header.version ++ behind_mark x.0 x.1 = t.0.parts ∙ mark_first x.0 x.1 in
    let read = sym (ap (number_at rules.Truncated w32) begins) ∙ r0 in
    (t.0, record { bundle = t.1; second = second_by x.0.header.version (behind_mark x.0 x.1) mark read (eqb-true mark.0 bundle_marks.two two) })))

second_again : (b : Bundle) (rest : List ℕ) → IsRunBundle b → second_bundle_at (bundle_spelling b ++ rest) ≡ Ok (b, rest)
unfolding second_bundle_at
second_again b rest is =
    let mark : number_at rules.Truncated w32 (bundle_spelling b ++ rest) ≡ Ok (bundle_marks.two, behind_mark b rest) = ap (number_at rules.Truncated w32) (mark_first b rest) ∙ second_again_by b.header.version (behind_mark b rest) is.second in
    let read = bundles_read.again b rest is.bundle in
    rw (mark, read) refl

second_reads : Reads second_bundle_at bundle_spelling IsRunBundle
second_reads = record { takes = second_takes; again = second_again }

-- ---- a run

pub counted_reads : (place : ℕ) → Reads (counted_at place) bundle_spelling IsRunBundle
counted_reads place = mapped_reads (faults.BadRun place) second_bundle_at bundle_spelling IsRunBundle second_reads

abbrev RunTaken : List Bundle → List ℕ → Bundle × List ℕ → Type 0
RunTaken before bytes x = Takes bytes (bundle_spelling x.0) x.1 × (IsRunBundle x.0 × Behind before x.0)

run_takes : (before : List Bundle) (bytes : List ℕ) (x : Bundle × List ℕ) → IsBytes bytes → run_at before bytes ≡ Ok x → RunTaken before bytes x
unfolding run_at
run_takes before bytes x fits e =
    after (counted_at (length before) bytes) (λ run. check (may_join before run.0.header) faults.Unjoined >>= λ joined. Ok run) x e (λ run r0 e0.
    after_check (may_join before run.0.header) faults.Unjoined (λ joined. Ok run) x e0 (λ joined e1.
    let t = (counted_reads (length before)).takes bytes run fits r0 in
    at_end {F = CampaignFault} (RunTaken before bytes) run x e1 (t.0, (t.1, behind_gives before run.0 joined))))

run_again : (before : List Bundle) (b : Bundle) (rest : List ℕ) → IsRunBundle b × Behind before b → run_at before (bundle_spelling b ++ rest) ≡ Ok (b, rest)
unfolding run_at
run_again before b rest is =
    let read = (counted_reads (length before)).again b rest is.0 in
    let joined = behind_told before b is.1 in
    rw (read, joined) refl

pub run_reads : (before : List Bundle) → Reads (run_at before) bundle_spelling (λ b. IsRunBundle b × Behind before b)
run_reads before = record { takes = run_takes before; again = run_again before }

-- what is left behind a run that was read is an end of the input
pub behind_run : (all bytes : List ℕ) (place : ℕ) (x : Bundle × List ℕ) → IsBytes bytes → counted_at place bytes ≡ Ok x → IsEndOf all bytes → IsEndOf all x.1
behind_run all bytes place x fits read end = goes_on all bytes (bundle_spelling x.0) x.1 end ((counted_reads place).takes bytes x fits read).0.parts

-- ---- runs that stand behind one another

abbrev pub Stand : List Bundle → List Bundle → Type 0
Stand before [] = Unit {0}
Stand before (x ∷ xs) = IsRunBundle x × Behind before x × Stand (before ++ x ∷ []) xs

pub stand_each : (before xs : List Bundle) → Stand before xs → All IsRunBundle xs
stand_each before [] s = All-nil IsRunBundle
stand_each before (x ∷ xs) s = All-cons IsRunBundle x xs s.0 (stand_each (before ++ x ∷ []) xs s.2)

alone_in : (x z : Bundle) → Contains (x ∷ []) z → x ≡ z
alone_in x z at = elim (Contains_cases x z [] at) [ inl same ↦ same | inr none ↦ absurd (Contains_nil z none) ]

pub stand_joined : (before xs : List Bundle) → AllPairs JoinsRun before → Stand before xs → AllPairs JoinsRun (before ++ xs)
stand_joined before [] up s = subst (AllPairs JoinsRun) (sym (append-nil before)) up
stand_joined before (x ∷ xs) up s =
    let one : AllPairs JoinsRun (x ∷ []) = λ i j d l m. absurd (omega (arith, l, m)) in
    let more : AllPairs JoinsRun (before ++ x ∷ []) = AllPairs-append JoinsRun before (x ∷ []) up one (λ y z k l. subst (λ (w : Bundle). JoinsRun y w) (alone_in x z l) (s.1 y k)) in
    subst (AllPairs JoinsRun) (append_assoc before (x ∷ []) xs) (stand_joined (before ++ x ∷ []) xs more s.2)

between : (before : List Bundle) (x : Bundle) (xs : List Bundle) → AllPairs JoinsRun (before ++ x ∷ xs) → Behind before x
between [] x xs up k at = absurd (Contains_nil k at)
between (b ∷ before) x xs up k at = elim (Contains_cases b k before at) [
  | inl same ↦ subst (λ (y : Bundle). JoinsRun y x) same (All-contains (JoinsRun b) (before ++ x ∷ xs) x (AllPairs_head JoinsRun b (before ++ x ∷ xs) up) (Contains-middle before x xs))
  | inr later ↦ between before x xs (AllPairs_tail JoinsRun b (before ++ x ∷ xs) up) k later
]

pub stand_told : (before xs : List Bundle) → All IsRunBundle xs → AllPairs JoinsRun (before ++ xs) → Stand before xs
stand_told before [] each up = tt
stand_told before (x ∷ xs) each up = (
  All-head IsRunBundle x xs each,
  between before x xs up,
  stand_told (before ++ x ∷ []) xs (All-tail IsRunBundle x xs each) (subst (AllPairs JoinsRun) (sym (append_assoc before (x ∷ []) xs)) up),
)

-- ---- reading them

pub record RunsTaken (before : List Bundle) (n : ℕ) (bytes : List ℕ) (x : List Bundle × List ℕ) : Type 0 where
  pub taken : Takes bytes (flat_map bundle_spelling x.0) x.1
  pub count : length x.0 ≡ n
  pub stand : Stand before x.0

pub runs_take : (before : List Bundle) (n : ℕ) (bytes : List ℕ) (x : List Bundle × List ℕ) → IsBytes bytes → runs_at before n bytes ≡ Ok x → RunsTaken before n bytes x
unfolding runs_at
runs_take before zero bytes x fits e =
    at_end {F = CampaignFault} (RunsTaken before zero bytes) ([], bytes) x e (record { taken = record { parts = refl; rest_fits = fits }; count = refl; stand = tt })
runs_take before (suc n) bytes x fits e =
    after (run_at before bytes) (λ run. runs_at (before ++ run.0 ∷ []) n run.1 >>= λ others. Ok (run.0 ∷ others.0, others.1)) x e (λ run r0 e0.
    after (runs_at (before ++ run.0 ∷ []) n run.1) (λ others. Ok (run.0 ∷ others.0, others.1)) x e0 (λ others r1 e1.
    let t0 = (run_reads before).takes bytes run fits r0 in
    let t1 = runs_take (before ++ run.0 ∷ []) n run.1 others t0.0.rest_fits r1 in
    let all = Takes-then bytes (bundle_spelling run.0) run.1 (flat_map bundle_spelling others.0) others.1 t0.0 t1.taken in
    at_end {F = CampaignFault} (RunsTaken before (suc n) bytes) (run.0 ∷ others.0, others.1) x e1 (record {
      taken = rw flat_map-cons all;
      count = ap suc t1.count;
      stand = (t0.1.0, t0.1.1, t1.stand);
    })))

pub runs_again : (before xs : List Bundle) (rest : List ℕ) → Stand before xs → runs_at before (length xs) (flat_map bundle_spelling xs ++ rest) ≡ Ok (xs, rest)
unfolding runs_at
runs_again before [] rest s = refl
runs_again before (x ∷ xs) rest s =
    let regrouped : flat_map bundle_spelling (x ∷ xs) ++ rest ≡ bundle_spelling x ++ (flat_map bundle_spelling xs ++ rest) = ap (λ (t : List ℕ). t ++ rest) (flat_map-cons bundle_spelling x xs) ∙ append_assoc (bundle_spelling x) (flat_map bundle_spelling xs) rest in
    let one = (run_reads before).again x (flat_map bundle_spelling xs ++ rest) (s.0, s.1) in
    let others = runs_again (before ++ x ∷ []) xs rest s.2 in
    ap (runs_at before (suc (length xs))) regrouped ∙ rw (one, others) refl

-- ---- the loop

regroup : (front : List Bundle) (n : Bundle) (read : Result (List Bundle × List ℕ) CampaignFault) → with_front front (read >>= λ x. Ok (n ∷ x.0, x.1)) ≡ with_front (front ++ n ∷ []) read
regroup front n (Ok x) = ap (λ (ns : List Bundle). Ok (ns, x.1)) (sym (append_assoc front (n ∷ []) x.0))
regroup front n (Err f) = refl

pub runs_go_on : (front : List Bundle) (count i : ℕ) (bytes : List ℕ) (n : Bundle) (rest : List ℕ) (total : Result (List Bundle × List ℕ) CampaignFault) → i < count → run_at front bytes ≡ Ok (n, rest)
    → with_front front (runs_at front (count - i) bytes) ≡ total → with_front (front ++ n ∷ []) (runs_at (front ++ n ∷ []) (count - (i + 1)) rest) ≡ total
unfolding runs_at
runs_go_on front count i bytes n rest total lt h so_far =
    let k : count - i ≡ suc (count - (i + 1)) = omega arith in
    let one : with_front front (runs_at front (count - i) bytes) ≡ with_front (front ++ n ∷ []) (runs_at (front ++ n ∷ []) (count - (i + 1)) rest) = rw (k, h) (regroup front n (runs_at (front ++ n ∷ []) (count - (i + 1)) rest)) in
    sym one ∙ so_far

pub runs_end : (e : ReadError CampaignFault) (front : List Bundle) (count i : ℕ) (bytes : List ℕ) (total : Result (List Bundle × List ℕ) CampaignFault) → i < count → Fails e (run_at front bytes)
    → with_front front (runs_at front (count - i) bytes) ≡ total → Fails e total
unfolding runs_at
runs_end errors.Memory front count i bytes total lt h so_far = tt
runs_end (errors.Fault f) front count i bytes total lt h so_far =
    let k : count - i ≡ suc (count - (i + 1)) = omega arith in
    let one : with_front front (runs_at front (count - i) bytes) ≡ Err f = rw (k, h) refl in
    sym so_far ∙ one

pub runs_are_done : (front : List Bundle) (count i : ℕ) (bytes : List ℕ) (total : Result (List Bundle × List ℕ) CampaignFault) → count ≤ i → with_front front (runs_at front (count - i) bytes) ≡ total → total ≡ Ok (front, bytes)
unfolding runs_at
runs_are_done front count i bytes total le so_far =
    let k : count - i ≡ 0 = omega arith in
    let one : with_front front (runs_at front (count - i) bytes) ≡ Ok (front, bytes) = rw k (ap (λ (ns : List Bundle). Ok (ns, bytes)) (append-nil front)) in
    sym so_far ∙ one
