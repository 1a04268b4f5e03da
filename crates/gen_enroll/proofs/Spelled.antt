-- The laws of reading a file of roots.
use Rattle.std.proofs.Common.{◌≡◌, ◌≤◌, ◌<◌, ◌^◌, ℕ, Bool, true, false, cond, eqb, List, [], ◌∷◌, ◌++◌, length, Result, Ok, Err, refl, sym, ap, ◌∙◌, append_assoc, arith}
use Rattle.std.specs.Prelude.{nat_le}
use Rattle.std.specs.Int.{w32, to_be_bytes}
use Rattle.std.specs.List.{flat_map}
use Rattle.std.proofs.lemmas.Bool.{eqb-true, leb-true, le-leb}
use Rattle.std.proofs.lemmas.List.{append-nil, nil_from_length}
use Rattle.gen_types.specs.declared.heights.TreeHeight.{TreeHeight}
use Rattle.gen_types.specs.declared.heights.TreeHeight.TheVariants.{Four, Six}
use Rattle.gen_types.specs.Reading.{◌>>=◌, check}
use Rattle.gen_types.specs.Bytes.{byte_at, number_at, many_at}
use Rattle.gen_types.specs.Spelled.{Spells}
use Rattle.gen_types.proofs.ByteFields.{IsBytes, Takes, Takes-then, byte_takes, bytes_takes, bytes_again, number_takes, number_again, wide32}
use Rattle.gen_types.proofs.ManyFields.{Reads, many_take, many_again}
use Rattle.gen_types.proofs.Steps.{after, after_check, at_end, ok_is}
use Rattle.gen_identity.specs.Openings.{most_levels}
use Rattle.gen_enroll.specs.declared.heads.RootsHead.{RootsHead}
use Rattle.gen_enroll.specs.declared.roots_fault.RootsFault.{RootsFault}
use Rattle.gen_enroll.specs.declared.roots_fault.RootsFault.TheVariants as faults
use Rattle.gen_enroll.specs.RootFiles.{RootFile, IsRootFile, root_length, root_mark, head_of, head_spelling, roots_spelling, file_spelling}
use Rattle.gen_enroll.specs.RootReading.{height_of, head_at, root_at, file_at, whole_file}

-- ---- heads

-- a head with at most 20 levels
abbrev pub IsHead : RootsHead → Type 0
IsHead head = head.levels ≤ most_levels

-- a mark that says a height is the mark of that height
abbrev by_tests : Bool → Bool → Result TreeHeight RootsFault
by_tests four six = cond four (Ok Four) (cond six (Ok Six) (Err faults.UnknownMark))

said_by : (mark : ℕ) (four six : Bool) (height : TreeHeight) → (four ≡ true → mark ≡ root_mark Four) → (six ≡ true → mark ≡ root_mark Six) → by_tests four six ≡ Ok height → mark ≡ root_mark height
said_by mark true six height is_four is_six e = is_four refl ∙ ap root_mark (ok_is {F = RootsFault} Four height e)
said_by mark false true height is_four is_six e = is_six refl ∙ ap root_mark (ok_is {F = RootsFault} Six height e)
said_by mark false false height is_four is_six e = absurd cc

said : (mark : ℕ) (height : TreeHeight) → height_of mark ≡ Ok height → mark ≡ root_mark height
said mark height e = said_by mark (eqb mark (root_mark Four)) (eqb mark (root_mark Six)) height (λ t. eqb-true _ _ t) (λ t. eqb-true _ _ t) e

-- the mark of a height says it
says : (height : TreeHeight) → height_of (root_mark height) ≡ Ok height
says Four = refl
says Six = refl

-- a mark takes four bytes
mark_fits : (height : TreeHeight) → root_mark height < 2 ^ 32
mark_fits Four = omega arith
mark_fits Six = omega arith

-- what the reader of a head does behind the mark and behind the levels
abbrev pub behind_levels : TreeHeight → ℕ × List ℕ → Result (RootsHead × List ℕ) RootsFault
behind_levels height levels =
    check (nat_le levels.0 most_levels) faults.TooManyLevels >>= λ few. Ok (record { height = height; levels = levels.0 }, levels.1)

abbrev pub behind_mark : ℕ × List ℕ → Result (RootsHead × List ℕ) RootsFault
behind_mark mark = height_of mark.0 >>= λ height. byte_at faults.Truncated mark.1 >>= behind_levels height

pub heads_read : Reads head_at head_spelling IsHead
heads_read = record {
  takes = λ bytes x are e. unfold head_at in
      after (number_at faults.Truncated w32 bytes) behind_mark x e (λ mark r0 e0.
      after (height_of mark.0) (λ height. byte_at faults.Truncated mark.1 >>= behind_levels height) x e0 (λ height r1 e1.
      after (byte_at faults.Truncated mark.1) (behind_levels height) x e1 (λ levels r2 e2.
      after_check (nat_le levels.0 most_levels) faults.TooManyLevels (λ few. Ok (record { height = height; levels = levels.0 }, levels.1)) x e2 (λ few e3.
      let first = number_takes faults.Truncated w32 (2 ^ 32) wide32 bytes mark.0 mark.1 are r0 in
      let second = byte_takes faults.Truncated mark.1 levels.0 levels.1 first.0.rest_fits r2 in
      let both = Takes-then bytes (to_be_bytes w32 mark.0) mark.1 (levels.0 ∷ []) levels.1 first.0 second.0 in
      let is_mark : mark.0 ≡ root_mark height = said mark.0 height r1 in
      at_end {F = RootsFault} (λ (y : RootsHead × List ℕ). Takes bytes (head_spelling y.0) y.1 × IsHead y.0) (record { height = height; levels = levels.0 }, levels.1) x e3 (
        rw (← is_mark) both,
        leb-true _ _ few,
      )))));
  again = λ head rest few. unfold head_at in
      let fits : nat_le head.levels most_levels ≡ true = le-leb _ _ few in
      let mark = number_again faults.Truncated w32 (2 ^ 32) wide32 (root_mark head.height) (head.levels ∷ rest) (mark_fits head.height) in
      let parts : head_spelling head ++ rest ≡ to_be_bytes w32 (root_mark head.height) ++ (head.levels ∷ rest) = append_assoc (to_be_bytes w32 (root_mark head.height)) (head.levels ∷ []) rest in
      ap (λ (t : List ℕ). number_at faults.Truncated w32 t >>= behind_mark) parts ∙ rw (mark, says head.height, fits) refl;
}

-- ---- roots and files

abbrev pub same : List ℕ → List ℕ
same root = root

abbrev IsWide : List ℕ → Type 0
IsWide root = length root ≡ root_length

pub roots_read : Reads root_at same IsWide
roots_read = record {
  takes = λ bytes x are e. bytes_takes faults.Truncated root_length bytes x.0 x.1 are e;
  again = λ root rest wide. bytes_again faults.Truncated root_length root rest wide;
}

-- what the reader of a file does behind the head and behind the roots
abbrev pub behind_roots : RootsHead → List (List ℕ) × List ℕ → Result (RootFile × List ℕ) RootsFault
behind_roots head roots = Ok (record { height = head.height; levels = head.levels; roots = roots.0 }, roots.1)

abbrev pub behind_head : RootsHead × List ℕ → Result (RootFile × List ℕ) RootsFault
behind_head head = many_at root_at (2 ^ head.0.levels) head.1 >>= behind_roots head.0

pub files_read : Reads file_at file_spelling IsRootFile
files_read = record {
  takes = λ bytes x are e. unfold file_at in
      after (head_at bytes) behind_head x e (λ head r0 e0.
      after (many_at root_at (2 ^ head.0.levels) head.1) (behind_roots head.0) x e0 (λ roots r1 e1.
      let first = heads_read.takes bytes head are r0 in
      let others = many_take root_at same IsWide roots_read (2 ^ head.0.levels) head.1 roots first.0.rest_fits r1 in
      let both = Takes-then bytes (head_spelling head.0) head.1 (flat_map same roots.0) roots.1 first.0 others.0 in
      at_end {F = RootsFault} (λ (y : RootFile × List ℕ). Takes bytes (file_spelling y.0) y.1 × IsRootFile y.0) (record { height = head.0.height; levels = head.0.levels; roots = roots.0 }, roots.1) x e1 (
        both,
        record { few = first.1; count = others.1; wide = others.2 },
      )));
  again = λ file rest is. unfold file_at in
      let head = head_of file in
      let behind = roots_spelling file.roots ++ rest in
      let parts : file_spelling file ++ rest ≡ head_spelling head ++ behind = append_assoc (head_spelling head) (roots_spelling file.roots) rest in
      let roots = many_again root_at same IsWide roots_read file.roots rest is.wide in
      let all : many_at root_at (2 ^ file.levels) behind ≡ Ok (file.roots, rest) = rw (← is.count) roots in
      ap (λ (t : List ℕ). head_at t >>= behind_head) parts ∙ rw (heads_read.again head behind is.few, all) refl;
}

-- ---- whole files

-- what is read of all the bytes is a file, and they are its spelling
pub whole_found : (bytes : List ℕ) (file : RootFile) → IsBytes bytes → whole_file bytes ≡ Ok file → Spells IsRootFile file_spelling bytes file
unfolding whole_file
whole_found bytes file are e =
    after (file_at bytes) (λ x. check (eqb (length x.1) 0) faults.LeftOver >>= λ all. Ok x.0) file e (λ x r0 e0.
    after_check (eqb (length x.1) 0) faults.LeftOver (λ all. Ok x.0) file e0 (λ none e1.
    let t = files_read.takes bytes x are r0 in
    at_end {F = RootsFault} (Spells IsRootFile file_spelling bytes) x.0 file e1 (record {
      fits = t.1;
      spelled = t.0.parts ∙ ap (λ (rest : List ℕ). file_spelling x.0 ++ rest) (nil_from_length x.1 (eqb-true _ _ none)) ∙ append-nil (file_spelling x.0);
    })))

-- a file that the bytes spell is read of them
pub whole_again : (bytes : List ℕ) (file : RootFile) → Spells IsRootFile file_spelling bytes file → whole_file bytes ≡ Ok file
unfolding whole_file
whole_again bytes file spells =
    let parts : bytes ≡ file_spelling file ++ [] = spells.spelled ∙ sym (append-nil (file_spelling file)) in
    let read : file_at bytes ≡ Ok (file, []) = ap file_at parts ∙ files_read.again file [] spells.fits in
    rw read refl
