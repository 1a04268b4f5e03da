-- What a writer holds behind pieces that were written one after another, and what an enrolment has to write.
use Rattle.std.proofs.Common.{◌≡◌, ℕ, true, false, List, [], ◌++◌, length, drop, Option, Some, None, Result, Ok, Err, inl, inr, refl, sym, ap, ◌∙◌, append-nil, append_assoc}
use Rattle.std.specs.Io.KnownBytes.{Appends, Keeps}
use Rattle.gen_types.specs.declared.heights.TreeHeight.{TreeHeight}
use Rattle.gen_enrolling.specs.Enrolling.{enrolled}
use Rattle.gen_enrolling.specs.Resuming.{Writes, WritesGiven, enrolled_behind, goes_on}
use Rattle.gen_enrolling.specs.declared.enroll_error.EnrollError.{EnrollError}
use Rattle.gen_enrolling.specs.declared.enroll_error.EnrollError.TheVariants as errors
use Rattle.gen_enrolling.specs.declared.enroll_fault.EnrollFault.{EnrollFault}

pub appends_none : (a : Option (List ℕ)) → Appends a a []
appends_none None = tt
appends_none (Some x) = sym (append-nil x)

pub appends_both : (a b c : Option (List ℕ)) (xs ys : List ℕ) → Appends a b xs → Appends b c ys → Appends a c (xs ++ ys)
appends_both None b c xs ys p q = tt
appends_both (Some x) None c xs ys p q = absurd p
appends_both (Some x) (Some y) None xs ys p q = absurd q
appends_both (Some x) (Some y) (Some z) xs ys p q = q ∙ ap (λ (l : List ℕ). l ++ ys) p ∙ append_assoc x xs ys

pub appends_kept : (a b c : Option (List ℕ)) (xs : List ℕ) → Appends a b xs → Keeps b c → Appends a c xs
appends_kept None b c xs p q = tt
appends_kept (Some x) None c xs p q = absurd p
appends_kept (Some x) (Some y) None xs p q = absurd q
appends_kept (Some x) (Some y) (Some z) xs p q = q ∙ p

keeps : (a : Option (List ℕ)) → Keeps a a
keeps None = tt
keeps (Some x) = refl

-- a text was appended, and more was written behind it
pub writes_behind : (a b c : Option (List ℕ)) (text more : List ℕ) (r : Result (Unit {0}) EnrollError) → Appends a b text → Writes more b c r → Writes (text ++ more) a c r
writes_behind a b c text more (Ok done) p q = appends_both a b c text more p q
writes_behind a b c text more (Err errors.Memory) p q =
    (text ++ q.0, q.1, ap (λ (t : List ℕ). text ++ t) q.2 ∙ sym (append_assoc text q.0 q.1), appends_both a b c text q.0 p q.3)
writes_behind a b c text more (Err errors.Write) p q = tt
writes_behind a b c text more (Err errors.OtherRoots) p q = absurd q
writes_behind a b c text more (Err (errors.Fault f)) p q = absurd q

-- memory was refused before anything was written
pub refused : (given : Result (List ℕ) EnrollError) (a : Option (List ℕ)) → WritesGiven given a a (Err errors.Memory)
refused (Ok text) a = ([], text, refl, appends_none a)
refused (Err fault) a = (inl refl, keeps a)

-- a fault was found
pub faulty : (given : Result (List ℕ) EnrollError) (fault : EnrollError) (a : Option (List ℕ)) → given ≡ Err fault → WritesGiven given a a (Err fault)
faulty (Ok text) fault a e = absurd cc
faulty (Err f) fault a e = (inr cc, keeps a)

-- a text is missing, of which a front was appended, and the rest was written behind it
pub missing : (given : Result (List ℕ) EnrollError) (text own more : List ℕ) (a b c : Option (List ℕ)) (r : Result (Unit {0}) EnrollError) → given ≡ Ok text → text ≡ own ++ more → Appends a b own → Writes more b c r
    → WritesGiven given a c r
missing given text own more a b c r e parts p q = rw (e, parts) (writes_behind a b c own more r p q)

-- what is missing, by what was read
pub is_missing : (height : TreeHeight) (levels : ℕ) (secret front file : List ℕ) → enrolled height levels secret ≡ Ok file → goes_on front file ≡ true → enrolled_behind height levels secret front ≡ Ok (drop (length front) file)
unfolding enrolled_behind
is_missing height levels secret front file read on = rw (read, on) refl

pub is_other : (height : TreeHeight) (levels : ℕ) (secret front file : List ℕ) → enrolled height levels secret ≡ Ok file → goes_on front file ≡ false → enrolled_behind height levels secret front ≡ Err errors.OtherRoots
unfolding enrolled_behind
is_other height levels secret front file read off = rw (read, off) refl

pub is_faulty : (height : TreeHeight) (levels : ℕ) (secret front : List ℕ) (fault : EnrollFault) → enrolled height levels secret ≡ Err fault → enrolled_behind height levels secret front ≡ Err (errors.Fault fault)
unfolding enrolled_behind
is_faulty height levels secret front fault read = rw read refl
