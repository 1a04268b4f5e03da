-- The loop over the files of roots of nodes.
use Rattle.std.proofs.Common.{◌≡◌, ℕ, suc, ◌+◌, ◌<◌, ◌≤◌, List, [], ◌∷◌, ◌++◌, length, drop, Result, Ok, Err, refl, sym, ap, ◌∙◌, append_assoc}
use Rattle.std.proofs.lemmas.List.{append-nil, drop_more}
use Rattle.std.proofs.Math.ListN.{drop_of_length-le}
use Rattle.std.specs.Prelude.{slice_index_or}
use Rattle.gen_types.specs.declared.reading.ReadError.{ReadError}
use Rattle.gen_types.specs.declared.reading.ReadError.TheVariants as errors
use Rattle.gen_types.specs.Reading.{◌>>=◌, Fails}
use Rattle.gen_types.proofs.Steps.{after, at_end}
use Rattle.gen_system.specs.declared.opened_roots.OpenedRoot.{OpenedRoot}
use Rattle.gen_system.specs.Admissions.{SetAdmission, admission_spelling}
use Rattle.gen_system.specs.Systems.{RunSystem, system_id_of}
use Rattle.gen_enrolling.specs.declared.enroll_fault.EnrollFault.{EnrollFault}
use Rattle.gen_enrolling.specs.declared.gathering.NodeRoots.{NodeRoots}
use Rattle.gen_enrolling.specs.Gathering.{admission_given, admission_made, opened_all, opened_each, opened_from, set_asked, system_read}

-- what was opened before, and what is still opened
abbrev pub with_front : List OpenedRoot → Result (List OpenedRoot) EnrollFault → Result (List OpenedRoot) EnrollFault
with_front front read = read >>= λ opened. Ok (front ++ opened)

regroup : (front : List OpenedRoot) (one : OpenedRoot) (read : Result (List OpenedRoot) EnrollFault) → with_front front (read >>= λ others. Ok (one ∷ others)) ≡ with_front (front ++ one ∷ []) read
regroup front one (Ok others) = ap (λ (os : List OpenedRoot). Ok os) (sym (append_assoc front (one ∷ []) others))
regroup front one (Err f) = refl

-- the files from a place on
abbrev rest_of : RunSystem → ℕ → ℕ → List NodeRoots → Result (List OpenedRoot) EnrollFault
rest_of s set place files = opened_all s set place (drop place files)

pub goes_on : (s : RunSystem) (set place : ℕ) (files : List NodeRoots) (d : NodeRoots) (front : List OpenedRoot) (one : OpenedRoot) (total : Result (List OpenedRoot) EnrollFault) → place < length files
    → opened_from s set place (slice_index_or files place d) ≡ Ok one → with_front front (rest_of s set place files) ≡ total → with_front (front ++ one ∷ []) (rest_of s set (place + 1) files) ≡ total
unfolding opened_all
goes_on s set place files d front one total lt h so_far =
    let step : with_front front (rest_of s set place files) ≡ with_front (front ++ one ∷ []) (rest_of s set (place + 1) files) =
    ap (λ (fs : List NodeRoots). with_front front (opened_all s set place fs)) (drop_more files place d lt)
    ∙ rw h (regroup front one (opened_all s set (place + 1) (drop (place + 1) files))) in
    sym step ∙ so_far

pub ends : (s : RunSystem) (set place : ℕ) (files : List NodeRoots) (d : NodeRoots) (front : List OpenedRoot) (e : ReadError EnrollFault) (total : Result (List OpenedRoot) EnrollFault) → place < length files
    → Fails e (opened_from s set place (slice_index_or files place d)) → with_front front (rest_of s set place files) ≡ total → Fails e total
unfolding opened_all
ends s set place files d front errors.Memory total lt h so_far = tt
ends s set place files d front (errors.Fault f) total lt h so_far =
    let one : with_front front (rest_of s set place files) ≡ Err f =
    ap (λ (fs : List NodeRoots). with_front front (opened_all s set place fs)) (drop_more files place d lt) ∙ rw h refl in
    sym so_far ∙ one

pub is_done : (s : RunSystem) (set place : ℕ) (files : List NodeRoots) (front : List OpenedRoot) (total : Result (List OpenedRoot) EnrollFault) → length files ≤ place
    → with_front front (rest_of s set place files) ≡ total → total ≡ Ok front
unfolding opened_all
is_done s set place files front total le so_far =
    let one : with_front front (rest_of s set place files) ≡ Ok front =
    ap (λ (fs : List NodeRoots). with_front front (opened_all s set place fs)) (drop_of_length-le files le) ∙ ap (λ (os : List OpenedRoot). Ok os) (append-nil front) in
    sym so_far ∙ one

-- there are as many roots as files
pub counted : (s : RunSystem) (set place : ℕ) (files : List NodeRoots) (opened : List OpenedRoot) → opened_all s set place files ≡ Ok opened → length opened ≡ length files
unfolding opened_all
counted s set place [] opened e = at_end {F = EnrollFault} (λ (os : List OpenedRoot). length os ≡ 0) [] opened e refl
counted s set place (file ∷ files) opened e =
    after (opened_from s set place file) (λ one. opened_all s set (place + 1) files >>= λ others. Ok (one ∷ others)) opened e (λ one r0 e0.
    after (opened_all s set (place + 1) files) (λ others. Ok (one ∷ others)) opened e0 (λ others r1 e1.
    at_end {F = EnrollFault} (λ (os : List OpenedRoot). length os ≡ suc (length files)) (one ∷ others) opened e1 (ap suc (counted s set (place + 1) files others r1))))

-- the admission, by what was read and made on the way
pub given : (run : ℕ) (bytes : List ℕ) (files : List NodeRoots) (s : RunSystem) (set : ℕ) (opened : List OpenedRoot) (a : SetAdmission) (text id : List ℕ) → system_read bytes ≡ Ok s → set_asked s run ≡ Ok set
    → opened_each s set files ≡ Ok opened → admission_made s set opened ≡ Ok a → text ≡ admission_spelling a → id ≡ system_id_of a.system → admission_given run bytes files ≡ Ok (text, id)
unfolding admission_given
given run bytes files s set opened a text id read asked each made spelled named = rw (read, asked, each, made, spelled, named) refl
