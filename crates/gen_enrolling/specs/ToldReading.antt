-- What a reader of JSON finds that is told beside an admission.
use Rattle.std.specs.Prelude.{ℕ, ◌≡◌, ◌≢◌, List, ◌∷◌, ◌++◌, Some, None}
use Rattle.serde_json.specs.Data.{Data, Members, no_members, object, put}
use Rattle.serde_json.specs.Find.{get_member}
use Rattle.serde_json.specs.Read.{read}
use Rattle.serde_json.specs.Written.{IsInOrder, compact_text}
use Rattle.gen_json.specs.Line.{ReadsAs}
use Rattle.gen_enrolling.specs.declared.admitted.AdmittedRuns.{AdmittedRuns}
use Rattle.gen_enrolling.specs.Telling.{admitted_data, admitted_name}

-- The text of a value without floats has its items and members in their order, and reads as the value.
pub record ReadsBack (d : Data) : Type 0 where
  pub order : IsInOrder (compact_text d) d
  pub reads : read (compact_text d) ≡ Some d

-- An answer begins with a line, and goes on with the rest. The line begins with a brace, and reads as an
-- object of these members: at least one, of which none has the name of the runs.
pub record BeginsWith (answer line rest : List ℕ) (own : Members) : Type 0 where
  pub begins : answer ≡ (123 ∷ line) ++ rest
  pub reads : ReadsAs (123 ∷ line) (object own)
  pub some : own ≢ no_members
  pub lacks : get_member admitted_name own ≡ None

-- If an answer begins with such a line, what is told begins with a line that reads as the same object with
-- the runs put among its members, and goes on with the same rest.
abbrev pub ReadsBeside : AdmittedRuns → List ℕ → List ℕ → Type 0
ReadsBeside runs answer told =
    (line rest : List ℕ) (own : Members) → BeginsWith answer line rest own
    → (first : List ℕ) × (told ≡ first ++ rest)
    × ReadsAs first (object (put admitted_name (admitted_data runs) own))
