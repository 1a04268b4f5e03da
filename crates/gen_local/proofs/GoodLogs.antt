-- Nothing is found exactly against good logs.
use Rattle.std.proofs.Common.{◌≡◌, ◌↔◌, ◌<◌, ◌≤◌, ◌+◌, ℕ, suc, Bool, true, false, ◌&&◌, not, cond, IsTrue, List, [], ◌∷◌, ◌++◌, length, Option, Some, None, Result, Ok, Err, refl, sym, ap, ◌∙◌, subst, arith}
use Rattle.std.specs.Prelude.{slice_get, ◌-◌, nat_lt}
use Rattle.std.specs.List.{list_all, position_from, AllByRecursion}
use Rattle.std.proofs.Math.Bool.{and-eq-true_iff}
use Rattle.std.proofs.lemmas.Bool.{lt-ltb}
use Rattle.gen_types.specs.Ends.{EndsWith}
use Rattle.gen_net.specs.Header.{RunHeader}
use Rattle.gen_chain.specs.declared.chains.Signer.{Signer}
use Rattle.gen_chain.specs.Chain.{Chain}
use Rattle.gen_chain.specs.Verifying.{ChainVerifies}
use Rattle.gen_chain.specs.Verified.{has_signed, are_signed, is_verified}
use Rattle.gen_chain.proofs.TestedChains.{tests_verifying, under_has, under_gives, signed_has, signed_gives}
use Rattle.gen_log.specs.declared.entries.Entry.{Entry}
use Rattle.gen_log.specs.declared.entries.Entry.TheVariants.{Start, Sign, Send, Recv, Decide}
use Rattle.gen_log.specs.declared.fault.LogFault.{LogFault}
use Rattle.gen_log.specs.Entry.{IsEntryOf}
use Rattle.gen_log.specs.Log.{RunLog, IsLog}
use Rattle.gen_log.specs.Links.{HeadVerifies}
use Rattle.gen_log.specs.LogReading.{log_of}
use Rattle.gen_log.specs.Verifying.{EntryVerifies, IsSignedByLast, LogVerifies, SaysItIsOf}
use Rattle.gen_local.specs.declared.reading.Reading.{Reading}
use Rattle.gen_local.specs.declared.reading.Reading.TheVariants.{Unreadable, Foreign, Own}
use Rattle.gen_local.specs.Erased.{erased}
use Rattle.gen_local.specs.SignedTexts.{stated, texts_behind, text_under, texts_in, head_in, text_verifies}
use Rattle.gen_local.specs.FoundLog.{FoundLog, IsFound, is_signed, first_unsigned}
use Rattle.gen_local.specs.Report.{LocalReport, IsReading, IsReport}
use Rattle.gen_local.specs.ReportLaws.{IsFaultless, FindsNothing, IsGood, FindsNothingInGoodLogs}

-- ---- an entry

behind_is : (h : RunHeader) (order : ℕ) (path : List ℕ) (signers : List Signer) → list_all (text_verifies h) (texts_behind order path signers) ≡ are_signed h order path signers
unfolding texts_behind are_signed
behind_is h order path [] = refl
behind_is h order path (s ∷ others) = ap (λ (b : Bool). text_verifies h (stated order (path ++ s.general ∷ []) s.general s.signature) && b) (behind_is h order (path ++ s.general ∷ []) others)

-- the last of a path
same_last : (y z : ℕ) (path : List ℕ) → slice_get (y ∷ z ∷ path) (length (y ∷ z ∷ path) - 1) ≡ slice_get (z ∷ path) (length (z ∷ path) - 1)
same_last y z path =
    let same : length (y ∷ z ∷ path) - 1 ≡ suc (length (z ∷ path) - 1) = omega arith in
    ap (λ (n : ℕ). slice_get (y ∷ z ∷ path) n) same

last_ends : (path : List ℕ) (x : ℕ) → slice_get path (length path - 1) ≡ Some x → EndsWith path x
last_ends [] x e = absurd cc
last_ends (y ∷ []) x e = let same : y ≡ x = cc in ([], ap (λ (z : ℕ). z ∷ []) same)
last_ends (y ∷ z ∷ path) x e = let there = last_ends (z ∷ path) x (sym (same_last y z path) ∙ e) in (y ∷ there.0, ap (λ (p : List ℕ). y ∷ p) there.1)

ends_last : (front : List ℕ) (x : ℕ) → slice_get (front ++ x ∷ []) (length (front ++ x ∷ []) - 1) ≡ Some x
ends_last [] x = refl
ends_last (y ∷ []) x = refl
ends_last (y ∷ z ∷ front) x = same_last y z (front ++ x ∷ []) ∙ ends_last (z ∷ front) x

some_last : (path : List ℕ) → 1 ≤ length path → (x : ℕ) × (slice_get path (length path - 1) ≡ Some x)
some_last [] some = absurd (omega arith)
some_last (y ∷ []) some = (y, refl)
some_last (y ∷ z ∷ path) some = let there = some_last (z ∷ path) (omega arith) in (there.0, same_last y z path ∙ there.1)

sign_verifies : (h : RunHeader) (order : ℕ) (path signature : List ℕ) → 1 ≤ length path → is_signed h (Sign order path signature) ≡ true → IsSignedByLast h order path signature
sign_verifies h order path signature some t =
    let last = some_last path some in
    let told : (text_verifies h (stated order path last.0 signature) && true) ≡ true = rw last.1 at t in
    (last.0, last_ends path last.0 last.1, signed_has h last.0 (record { order = order; path = path }) signature ((and-eq-true_iff _ _).0 told).0)

sign_signed : (h : RunHeader) (order : ℕ) (path signature : List ℕ) → IsSignedByLast h order path signature → is_signed h (Sign order path signature) ≡ true
sign_signed h order path signature v =
    let last : slice_get path (length path - 1) ≡ Some v.0 = ap (λ (p : List ℕ). slice_get p (length p - 1)) v.1.1 ∙ ends_last v.1.0 v.0 in
    let told : has_signed h v.0 (record { order = order; path = path }) signature ≡ true = signed_gives h v.0 (record { order = order; path = path }) signature v.2 in
    rw last ((and-eq-true_iff _ _).1 (told, refl))

pub entry_verifies : (h : RunHeader) (e : Entry) → IsEntryOf h e → is_signed h e ≡ true → EntryVerifies h e
unfolding is_verified
entry_verifies h (Start general own) ok t = tt
entry_verifies h (Sign order path signature) ok t = sign_verifies h order path signature ok.1.some t
entry_verifies h (Send to order path) ok t = tt
entry_verifies h (Recv from chain) ok t =
    (tests_verifying h chain).0 ((and-eq-true_iff (nat_lt chain.order h.network.orders) (are_signed h chain.order [] chain.signers)).1 (lt-ltb _ _ ok.1.order, sym (behind_is h chain.order [] chain.signers) ∙ t))
entry_verifies h (Decide orders order) ok t = tt

pub entry_signed : (h : RunHeader) (e : Entry) → EntryVerifies h e → is_signed h e ≡ true
unfolding is_verified
entry_signed h (Start general own) v = refl
entry_signed h (Sign order path signature) v = sign_signed h order path signature v
entry_signed h (Send to order path) v = refl
entry_signed h (Recv from chain) v =
    behind_is h chain.order [] chain.signers ∙ ((and-eq-true_iff (nat_lt chain.order h.network.orders) (are_signed h chain.order [] chain.signers)).0 ((tests_verifying h chain).1 v)).1
entry_signed h (Decide orders order) v = refl

-- ---- all entries

both_none : (b : Bool) (n : ℕ) (rest : Option ℕ) → cond (not b) (Some n) rest ≡ None → (b ≡ true) × (rest ≡ None)
both_none true n rest e = (refl, e)
both_none false n rest e = absurd cc

none_both : (b : Bool) (n : ℕ) (rest : Option ℕ) → b ≡ true → rest ≡ None → cond (not b) (Some n) rest ≡ None
none_both true n rest t e = e
none_both false n rest t e = absurd cc

all_verify : (h : RunHeader) (number : ℕ) (entries : List Entry) → AllByRecursion (IsEntryOf h) entries → first_unsigned h number entries ≡ None → AllByRecursion (EntryVerifies h) entries
all_verify h number [] ok e = tt
all_verify h number (x ∷ entries) ok e =
    let both = both_none (is_signed h x) number (first_unsigned h (number + 1) entries) e in
    (entry_verifies h x ok.0 both.0, all_verify h (number + 1) entries ok.1 both.1)

none_unsigned : (h : RunHeader) (number : ℕ) (entries : List Entry) → AllByRecursion (EntryVerifies h) entries → first_unsigned h number entries ≡ None
none_unsigned h number [] v = refl
none_unsigned h number (x ∷ entries) v = none_both (is_signed h x) number (first_unsigned h (number + 1) entries) (entry_signed h x v.0) (none_unsigned h (number + 1) entries v.1)

-- ---- a log

good_of : (h : RunHeader) (general : ℕ) (found : FoundLog) → IsFound h general found → IsFaultless found → IsGood h general found.log
good_of h general found is f = record {
  verifies = record {
    fits_run = is.fits_run;
    says = is.says;
    entries = all_verify h 0 found.log.entries is.fits_run.entries (sym is.unsigned ∙ f.signed);
    head = under_has _ _ _ _ _ (sym is.sealed ∙ f.sealed);
  };
  follows = is.follows.0 f.follows;
}

faultless_of : (h : RunHeader) (general : ℕ) (found : FoundLog) → IsFound h general found → IsGood h general found.log → IsFaultless found
faultless_of h general found is good = record {
  signed = is.unsigned ∙ none_unsigned h 0 found.log.entries good.verifies.entries;
  sealed = is.sealed ∙ under_gives _ _ _ _ _ good.verifies.head;
  follows = is.follows.1 good.follows;
}

-- ---- a report

forth : (h : RunHeader) (general : ℕ) (read : Result RunLog LogFault) (reading : Reading) (found : FoundLog) → IsReading h general read reading → reading ≡ Own found → IsFaultless found → (log : RunLog) × (read ≡ Ok log) × IsGood h general log
forth h general (Err fault) reading found is e f = let q : Own found ≡ Unreadable fault = sym e ∙ is in absurd cc
forth h general (Ok log) (Unreadable fault) found is e f = absurd is
forth h general (Ok log) Foreign found is e f = absurd cc
forth h general (Ok log) (Own x) found is e f =
    let same : x ≡ found = cc in
    (log, refl, subst (IsGood h general) is.0 (good_of h general x is.1 (subst IsFaultless (sym same) f)))

back : (h : RunHeader) (general : ℕ) (read : Result RunLog LogFault) (reading : Reading) → IsReading h general read reading → (log : RunLog) → read ≡ Ok log → IsGood h general log → (found : FoundLog) × (reading ≡ Own found) × IsFaultless found
back h general (Err fault) reading is log e good = absurd cc
back h general (Ok l) (Unreadable fault) is log e good = absurd is
back h general (Ok l) Foreign is log e good = let same : log ≡ l = cc in absurd (is (subst (SaysItIsOf h general) same good.verifies.says))
back h general (Ok l) (Own found) is log e good =
    let same : log ≡ l = cc in
    (found, refl, faultless_of h general found is.1 (subst (IsGood h general) (same ∙ sym is.0) good))

pub finds_nothing : FindsNothingInGoodLogs
finds_nothing r is = (
  λ f. forth r.header r.exhibit.general (log_of r.header r.exhibit.bytes) r.reading f.0 is f.1 f.2,
  λ g. back r.header r.exhibit.general (log_of r.header r.exhibit.bytes) r.reading is g.0 g.1 g.2,
)
