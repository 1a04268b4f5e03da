-- The status of what is asked of several inputs is one of the program.
use Rattle.std.proofs.Common.{◌≡◌, ◌≤◌, ℕ, List, [], ◌∷◌, length, map, ◌⊎◌, inl, inr, Option, Some, None, Result, Ok, Err, refl, sym, ap, subst, ◌∙◌, arith, leb-true, leb-false}
use Rattle.std.specs.Prelude.{IfOk, max, nat_le, option_map}
use Rattle.std.specs.List.{All, fold}
use Rattle.std.proofs.lemmas.List.{length-map}
use Rattle.std.proofs.lemmas.List.Elements.{All-head, All-tail}
use Rattle.gen_types.specs.Members.{bool_cases}
use Rattle.gen_types.specs.declared.reading.ReadError.{ReadError}
use Rattle.gen_types.specs.declared.reading.ReadError.TheVariants as reads
use Rattle.gen_ends.specs.Ends.{status_of}
use Rattle.gen_ends.specs.declared.ends.JobEnd.TheVariants.{Done, Failed}
use Rattle.gen_ends.specs.declared.ends.JobFault.TheVariants as faults
use Rattle.gen_enrolling.specs.Resuming.{error_of}
use Rattle.gen_enrolling.specs.declared.enroll_fault.EnrollFault.{EnrollFault}
use Rattle.gen_words.specs.declared.listing.Listing.{Listing}
use Rattle.gen_words.specs.declared.words.WordsFault.{WordsFault}
use Rattle.gen_program.specs.Ends.{IsEnd, enroll_status}
use Rattle.gen_program.specs.Many.{AreEnds, AreSources, CanBeList, IsOfListing, IsUnadmitted, IsUnlisted, inputs_named, status_of_all}
use Rattle.gen_program.specs.Refusal.{IsStatus}
use Rattle.gen_program.specs.declared.asking.Admission.{Admission}
use Rattle.gen_program.specs.declared.asking.Asking.{Asking}
use Rattle.gen_program.specs.Sources.{name_of}
use Rattle.gen_program.specs.declared.ends.Ended.{Ended}
use Rattle.gen_program.specs.declared.sources.Source.{Source}
use Rattle.gen_program.proofs.Ended.{end_status}

unread_status : (error : ReadError EnrollFault) → IsStatus (enroll_status (error_of error))
unread_status reads.Memory = inr (Failed faults.Memory, refl)
unread_status (reads.Fault fault) = inr (Failed faults.OtherRun, refl)

unadmitted_status : (admission : Option Admission) (status : ℕ) → IsUnadmitted admission status → IsStatus status
unadmitted_status None status is = absurd is
unadmitted_status (Some admission) status is = subst IsStatus (sym is.2) (unread_status is.0)

unlisted_status : (file : Option (List ℕ)) (status : ℕ) → IsUnlisted file status → IsStatus status
unlisted_status None status is = absurd is
unlisted_status (Some file) status is = inr (Failed is.0, is.1)

-- the greater of two statuses is one of them
greater : (a b : ℕ) → IsStatus a → IsStatus b → IsStatus (max a b)
greater a b h k = elim (bool_cases (nat_le a b)) [
  | inl t ↦
      let below : b ≡ max a b = omega (arith, leb-true a b t) in
      subst IsStatus below k
  | inr f ↦
      let above : a ≡ max a b = omega (arith, leb-false a b f) in
      subst IsStatus above h
]

all_status : (least : ℕ) (ends : List Ended) → IsStatus least → All IsEnd ends → IsStatus (fold (λ greatest ended. max greatest ended.status) least ends)
all_status least [] h all = h
all_status least (e ∷ es) h all = all_status (max least e.status) es (greater least e.status h (end_status e (All-head IsEnd e es all))) (All-tail IsEnd e es all)

pub listed_status : (asking : Asking) (listing : Listing) (status : ℕ) → IsOfListing asking listing status → IsStatus status
listed_status asking listing status (inl is) = unadmitted_status asking.admission status is
listed_status asking listing status (inr (inl is)) = unlisted_status (option_map (λ file. file.now) listing.list) status is
listed_status asking listing status (inr (inr is)) = subst IsStatus (sym is.4) (all_status (status_of Done) is.2 (inr (Done, refl)) is.3.0)

pub listed : (asking : Asking) (listing : Listing) (r : Result ℕ WordsFault) → IfOk r (IsOfListing asking listing) → IfOk r IsStatus
listed asking listing (Ok status) is = listed_status asking listing status is
listed asking listing (Err fault) is = tt

-- ---- the status of all

-- the ends of the sources are those of the inputs that are named
pub of_all : (asking : Asking) (listing : Listing) (list : List ℕ) (sources : List Source) (ends : List Ended) (status : ℕ) → CanBeList (option_map (λ file. file.now) listing.list) list
    → AreSources sources (inputs_named (map (λ word. word.now) listing.files.items) list) → AreEnds (length sources) ends → status ≡ status_of_all ends → IsOfListing asking listing status
of_all asking listing list sources ends status can are ended is =
    let inputs = inputs_named (map (λ word. word.now) listing.files.items) list in
    let count : length sources ≡ length inputs = sym (length-map sources name_of) ∙ ap (λ (xs : List (Option (List ℕ))). length xs) are in
    inr (inr (list, can, ends, subst (λ (n : ℕ). AreEnds n ends) count ended, is))
