-- What nodes enroll leads to the header of the run.
use Rattle.std.proofs.Common.{◌≡◌, ◌<◌, ◌≤◌, ◌+◌, ◌*◌, ◌^◌, inl, inr, ℕ, zero, suc, Bool, true, false, ◌&&◌, eqb, List, [], ◌∷◌, length, map, Result, Ok, refl, sym, ap, subst, ◌∙◌, arith}
use Rattle.std.specs.Prelude.{nat_le, nat_lt, slice_index_or}
use Rattle.std.specs.Bool.{nat_eq}
use Rattle.std.specs.Cmp.Lexicographic.{pointwise}
use Rattle.std.specs.List.{range_with_len}
use Rattle.std.proofs.lemmas.Bool.{cases_eq, eq-eqb, leb-true, lt-ltb, ltb-true}
use Rattle.std.proofs.lemmas.List.{length-map}
use Rattle.std.proofs.lemmas.List.FromFn.{length-map-range_with_len}
use Rattle.std.proofs.lemmas.Slice.Eq.{bytes_eq-Decides}
use Rattle.gen_types.specs.declared.heights.TreeHeight.{TreeHeight}
use Rattle.gen_types.specs.Reading.{◌>>=◌, check, map_fault}
use Rattle.gen_types.proofs.Steps.{after, after_check, ok_is}
use Rattle.gen_net.specs.declared.version.Version.{Version}
use Rattle.gen_net.specs.declared.version.Version.TheVariants.{One, Two}
use Rattle.gen_net.specs.Version.{height_in}
use Rattle.gen_net.specs.Header.{height_of, root_of}
use Rattle.gen_identity.specs.declared.identities.Identity.{Identity}
use Rattle.gen_identity.specs.Openings.{most_levels, siblings_of}
use Rattle.gen_identity.specs.Sets.{identity_of_secret, identity_over, set_roots}
use Rattle.gen_identity.proofs.Steps.{get-set_roots}
use Rattle.gen_enroll.specs.RootFiles.{RootFile, IsRootFile, file_of_secret, file_spelling}
use Rattle.gen_enroll.specs.declared.roots_fault.RootsFault.TheVariants.{TooManyLevels}
use Rattle.gen_enroll.proofs.Pieces.{length-set_roots}
use Rattle.gen_enroll.proofs.Spelled.{whole_again}
use Rattle.gen_prepare.specs.declared.seed_fault.SeedFault.TheVariants.{SeedLength}
use Rattle.gen_system.specs.declared.opened_roots.OpenedRoot.{OpenedRoot}
use Rattle.gen_system.specs.Admissions.{admission_spelling}
use Rattle.gen_system.specs.Runs.{run_count_of, runs_of_set, set_of_run}
use Rattle.gen_system.specs.Secrets.{AreSecretsOf, admission_for, opened_by}
use Rattle.gen_system.specs.Systems.{RunSystem, IsSystem, identity_in, system_id_of, system_spelling}
use Rattle.gen_system.proofs.FromSecrets.{admission_again, secrets_lead, set_below, set_roots_wide, whole_admission_again, whole_system_again}
use Rattle.gen_enrolling.specs.declared.enroll_fault.EnrollFault.{EnrollFault}
use Rattle.gen_enrolling.specs.declared.enroll_fault.EnrollFault.TheVariants.{System, Admission, Secret, Roots, OtherSet, FileCount, OtherIdentity}
use Rattle.gen_enrolling.specs.declared.gathering.NodeRoots.{NodeRoots}
use Rattle.gen_enrolling.specs.Enrolling.{enrolled, roots_read}
use Rattle.gen_enrolling.specs.FromFiles.{AreEnrolled, FilesAreChecked, FilesLead, file_made, file_told}
use Rattle.gen_enrolling.specs.Gathering.{admission_given, admission_made, file_is_own, is_high, opened_all, opened_each, opened_from, set_asked, system_read}

-- ---- a file that was enrolled

-- the file of a secret is a file of roots
secret_file : (height : TreeHeight) (levels : ℕ) (secret : List ℕ) → levels ≤ most_levels → IsRootFile (file_of_secret secret height levels)
secret_file height levels secret few = record {
  few = few;
  count = length-set_roots secret height (2 ^ levels);
  wide = set_roots_wide secret height (2 ^ levels);
}

-- bytes that were enrolled are read as the file of the secret
enrolled_read : (height : TreeHeight) (levels : ℕ) (secret bytes : List ℕ) → enrolled height levels secret ≡ Ok bytes → roots_read bytes ≡ Ok (file_of_secret secret height levels)
unfolding enrolled
enrolled_read height levels secret bytes e =
    let file = file_of_secret secret height levels in
    after_check (eqb (length secret) 32) (Secret SeedLength) (λ wide. check (nat_le levels most_levels) (Roots TooManyLevels) >>= λ few. Ok (file_spelling file)) bytes e (λ wide e0.
    after_check (nat_le levels most_levels) (Roots TooManyLevels) (λ few. Ok (file_spelling file)) bytes e0 (λ few e1.
    let spelled : file_spelling file ≡ bytes = ok_is {F = EnrollFault} (file_spelling file) bytes e1 in
    ap (map_fault Roots) (whole_again bytes file (record { fits = secret_file height levels secret (leb-true _ _ few); spelled = sym spelled }))))

-- ---- one node

high : (v : Version) → is_high v (height_in v) ≡ true
high One = refl
high (Two slot) = refl

all_three : (a b c : Bool) → a ≡ true → b ≡ true → c ≡ true → (a && (b && c)) ≡ true
all_three a b c p q r = rw (p, q, r) refl

third : (a b c : Bool) → (a && (b && c)) ≡ true → c ≡ true
third true true c e = e
third true false c e = absurd cc
third false b c e = absurd cc

module _ (s : RunSystem) (set : ℕ) (secret : ℕ → List ℕ) where
  abbrev roots_at : ℕ → List (List ℕ)
  roots_at node = set_roots (secret node) (height_of s.header) (2 ^ s.levels)

  abbrev file_at_node : ℕ → RootFile
  file_at_node node = file_of_secret (secret node) (height_of s.header) s.levels

  abbrev opened_at_node : ℕ → OpenedRoot
  opened_at_node node = opened_by (height_of s.header) s.levels set (secret node)

  abbrev own_identity : ℕ → Type 0
  own_identity node = identity_in s node ≡ identity_of_secret (secret node) (height_of s.header) s.levels

  -- what is opened from the file that a node enrolled, if this is the node's
  abbrev opened_if : ℕ → Result OpenedRoot EnrollFault
  opened_if node =
      check (file_is_own s node (file_at_node node)) (OtherIdentity node) >>= λ own. Ok (record { root = slice_index_or (roots_at node) set []; opening = siblings_of (roots_at node) s.levels set })

  file_read : (node : ℕ) (file : NodeRoots) → file_told file ≡ file_made s secret node → opened_from s set node file ≡ opened_if node
  unfolding opened_from
  file_read node file told =
      let placed : eqb file.node node ≡ true = eq-eqb file.node node (ap (λ t. t.0) told) in
      let bytes : enrolled (height_of s.header) s.levels (secret node) ≡ Ok file.bytes.items = sym (ap (λ t. t.1) told) in
      let read : roots_read file.bytes.items ≡ Ok (file_at_node node) = enrolled_read (height_of s.header) s.levels (secret node) file.bytes.items bytes in
      rw (placed, read) refl

  opened_one : (node : ℕ) (file : NodeRoots) → file_told file ≡ file_made s secret node → own_identity node → set < 2 ^ s.levels → opened_from s set node file ≡ Ok (opened_at_node node)
  opened_one node file told own below =
      let top : (identity_over (roots_at node) s.levels).top ≡ root_of s.header node = sym (ap (λ (i : Identity). i.top) own) in
      let is_own : file_is_own s node (file_at_node node) ≡ true
      = all_three (is_high s.header.version (height_of s.header)) (eqb s.levels s.levels) (pointwise nat_eq (identity_over (roots_at node) s.levels).top (root_of s.header node))
      (high s.header.version) (eq-eqb s.levels s.levels refl) ((bytes_eq-Decides (identity_over (roots_at node) s.levels).top (root_of s.header node)).1 top) in
      let root = get-set_roots (secret node) (height_of s.header) (2 ^ s.levels) set below in
      file_read node file told
      ∙ rw is_own (ap (λ (r : List ℕ). Ok (record { root = r; opening = siblings_of (roots_at node) s.levels set })) root)

  own_one : (node : ℕ) (file : NodeRoots) (one : OpenedRoot) → file_told file ≡ file_made s secret node → opened_from s set node file ≡ Ok one → own_identity node
  own_one node file one told e =
      after_check (file_is_own s node (file_at_node node)) (OtherIdentity node) (λ own. Ok (record { root = slice_index_or (roots_at node) set []; opening = siblings_of (roots_at node) s.levels set })) one (sym (file_read node file told) ∙ e) (λ own e0.
      let same = third (is_high s.header.version (height_of s.header)) (eqb s.levels s.levels) (pointwise nat_eq (identity_over (roots_at node) s.levels).top (root_of s.header node)) own in
      let top : (identity_over (roots_at node) s.levels).top ≡ root_of s.header node = (bytes_eq-Decides (identity_over (roots_at node) s.levels).top (root_of s.header node)).0 same in
      ap (λ (t : List ℕ). record { levels = s.levels; top = t }) (sym top))

  -- ---- all nodes

  opened_rest : (k m : ℕ) (files : List NodeRoots) → map file_told files ≡ map (file_made s secret) (range_with_len k m) → ((node : ℕ) → node < k + m → own_identity node) → set < 2 ^ s.levels
      → opened_all s set k files ≡ Ok (map opened_at_node (range_with_len k m))
  unfolding opened_all
  opened_rest k zero [] told own below = refl
  opened_rest k zero (file ∷ files) told own below = absurd cc
  opened_rest k (suc m) [] told own below = absurd cc
  opened_rest k (suc m) (file ∷ files) told own below =
      let first : file_told file ≡ file_made s secret k = cc in
      let others : map file_told files ≡ map (file_made s secret) (range_with_len (k + 1) m) = cc in
      let one = opened_one k file first (own k (omega arith)) below in
      let rest = opened_rest (k + 1) m files others (λ node low. own node (omega (arith, low))) below in
      rw (one, rest) refl

  own_rest : (k m : ℕ) (files : List NodeRoots) (opened : List OpenedRoot) → map file_told files ≡ map (file_made s secret) (range_with_len k m) → opened_all s set k files ≡ Ok opened
      → (node : ℕ) → k ≤ node → node < k + m → own_identity node
  unfolding opened_all
  own_rest k zero files opened told e node from below = absurd (omega (arith, from, below))
  own_rest k (suc m) [] opened told e node from below = absurd cc
  own_rest k (suc m) (file ∷ files) opened told e node from below =
      let first : file_told file ≡ file_made s secret k = cc in
      let others : map file_told files ≡ map (file_made s secret) (range_with_len (k + 1) m) = cc in
      after (opened_from s set k file) (λ one. opened_all s set (k + 1) files >>= λ rest. Ok (one ∷ rest)) opened e (λ one r0 e0.
      after (opened_all s set (k + 1) files) (λ rest. Ok (one ∷ rest)) opened e0 (λ rest r1 e1.
      elim (cases_eq node k) [
        | inl same ↦ subst own_identity (sym same) (own_one k file one first r0)
        | inr other ↦ own_rest (k + 1) m files rest others r1 node (omega (arith, from, other)) (omega (arith, below))
      ]))

  file_each : (files : List NodeRoots) → AreEnrolled s secret files → length files ≡ s.header.network.generals
  file_each files are =
      sym (length-map files file_told) ∙ ap (λ told. length told) are ∙ length-map-range_with_len (file_made s secret) 0 s.header.network.generals

  opened_files : (files : List NodeRoots) → AreEnrolled s secret files → AreSecretsOf s secret → set < 2 ^ s.levels
      → opened_each s set files ≡ Ok (map opened_at_node (range_with_len 0 s.header.network.generals))
  unfolding opened_each
  opened_files files are own below =
      let each : eqb (length files) s.header.network.generals ≡ true = eq-eqb _ _ (file_each files are) in
      rw each (opened_rest 0 s.header.network.generals files are (λ node low. own node (omega (arith, low))) below)

  own_files : (files : List NodeRoots) (opened : List OpenedRoot) → AreEnrolled s secret files → opened_each s set files ≡ Ok opened → AreSecretsOf s secret
  unfolding opened_each
  own_files files opened are e node below =
      after_check (eqb (length files) s.header.network.generals) FileCount (λ each. opened_all s set 0 files) opened e (λ each e0.
      own_rest 0 s.header.network.generals files opened are e0 node (omega arith) (omega (arith, below)))

-- ---- the admission

-- what is made behind the system
abbrev behind_system : RunSystem → ℕ → List NodeRoots → Result (List ℕ × List ℕ) EnrollFault
behind_system s run files =
    set_asked s run >>= λ set. opened_each s set files >>= λ opened. admission_made s set opened >>= λ admission. Ok (admission_spelling admission, system_id_of admission.system)

system_again : (s : RunSystem) → IsSystem s → system_read (system_spelling s) ≡ Ok s
system_again s is = ap (map_fault System) (whole_system_again s is)

given_behind : (s : RunSystem) (run : ℕ) (files : List NodeRoots) → IsSystem s → admission_given run (system_spelling s) files ≡ behind_system s run files
unfolding admission_given
given_behind s run files is = rw (system_again s is) refl

set_again : (s : RunSystem) (run : ℕ) → set_of_run s.header.version run < 2 ^ s.levels → set_asked s run ≡ Ok (set_of_run s.header.version run)
unfolding set_asked
set_again s run below = rw (lt-ltb (set_of_run s.header.version run) (2 ^ s.levels) below) refl

pub files_lead : FilesLead
files_lead s run secret files is own are below =
    let set = set_of_run s.header.version run in
    let made = admission_for s run secret in
    let low = set_below s.header.version run (2 ^ s.levels) below in
    let leads = secrets_lead s run secret is own below in
    let opened = opened_files s set secret files are own low in
    let admission : admission_made s set made.opened ≡ Ok made = ap (map_fault Admission) (admission_again made leads.admission) in
    let given : behind_system s run files ≡ Ok (admission_spelling made, system_id_of s) = rw (set_again s run low, opened, admission) refl in (
      admission_spelling made,
      given_behind s run files is ∙ given,
      record { admission = made; read = whole_admission_again made leads.admission; leads = leads },
    )

below_again : (v : Version) (run most : ℕ) → set_of_run v run < most → run < most * runs_of_set v
below_again One run most low = omega (arith, low)
below_again (Two slot) run most low = omega (arith, low)

run_asked : (s : RunSystem) (run set : ℕ) → set_asked s run ≡ Ok set → run < run_count_of s
unfolding set_asked
run_asked s run set e =
    let of_run = set_of_run s.header.version run in
    after_check (nat_lt of_run (2 ^ s.levels)) OtherSet (λ known. Ok of_run) set e (λ known e0.
    below_again s.header.version run (2 ^ s.levels) (ltb-true of_run (2 ^ s.levels) known))

pub files_are_checked : FilesAreChecked
files_are_checked s run secret files made is are e =
    let behind : behind_system s run files ≡ Ok made = sym (given_behind s run files is) ∙ e in
    after (set_asked s run) (λ set. opened_each s set files >>= λ opened. admission_made s set opened >>= λ admission. Ok (admission_spelling admission, system_id_of admission.system)) made behind (λ set r0 e0.
    after (opened_each s set files) (λ opened. admission_made s set opened >>= λ admission. Ok (admission_spelling admission, system_id_of admission.system)) made e0 (λ opened r1 e1.
    (own_files s set secret files opened are r1, run_asked s run set r0)))
