-- What words ask for that name a command of identities and systems.
use Rattle.std.specs.Prelude.{ℕ, ◌≡◌, ◌<◌, ◌^◌, ◌⊎◌, Bool, true, false, List, [], ◌∷◌, codes, map, Option, Some, None, IsSome, option_map, nat_le, ◌&&◌, ◌||◌}
use Rattle.std.specs.Str.Parse.{IsNumeral, digits_value}
use Rattle.std.specs.Str.{bytes_eq}
use Rattle.hex.specs.Hex.{decode_sized}
use Rattle.clap.specs.Words.{Row, Text, fault_of, first_of, subcommand_of}
use Rattle.gen_asked.specs.AskedRuns.{if_digits}
use Rattle.gen_types.specs.declared.heights.TreeHeight.{TreeHeight}
use Rattle.gen_words.specs.CommandLine.{tool}
use Rattle.gen_words.specs.Jobs.{height_asked, is_set, number_between}
use Rattle.gen_words.specs.Several.{AreNamed, NamesNone, is_standard, log_words, standards}
use Rattle.gen_words.specs.declared.systems.Systems.{Systems}
use Rattle.gen_words.specs.declared.systems.Systems.TheVariants.{Enroll, Identity, System, Admission, Admit}
use Rattle.gen_words.specs.declared.systems.SystemsFault.TheVariants.{BadLevels, BadContext, BadNumber}
use Rattle.gen_words.specs.declared.words.WordsFault.{WordsFault}
use Rattle.gen_words.specs.declared.words.WordsFault.TheVariants as faults

-- the text begins with a digit that is not 0, or is `0`
abbrev pub has_no_zero_in_front : Text → Bool
has_no_zero_in_front [] = false
has_no_zero_in_front (a ∷ []) = nat_le 48 a && nat_le a 57
has_no_zero_in_front (a ∷ b ∷ rest) = nat_le 49 a && nat_le a 57

-- The text spells the number in decimal digits, without leading zeros or a sign. The number is below 2 ^ 32.
pub record SpellsNumber (text : Text) (n : ℕ) : Type 0 where
  pub plain : has_no_zero_in_front text ≡ true
  pub digits : IsNumeral 10 text
  pub value : digits_value 10 text ≡ n
  pub below : n < 2 ^ 32

-- The text spells the number that is there; none is there if and only if there is no text or it spells none.
abbrev pub IsNumberOf : Option Text → Option ℕ → Type 0
IsNumberOf text (Some n) = (t : Text) × (text ≡ Some t) × SpellsNumber t n
IsNumberOf text None = (t : Text) (n : ℕ) → text ≡ Some t → SpellsNumber t n → ⊥

-- the 32 bytes that the text spells in 64 hexadecimal digits
unfoldable pub context_asked : Option Text → Option (List ℕ)
context_asked None = None
context_asked (Some text) = if_digits (decode_sized text 32)

-- the texts of options
abbrev pub levels_in : List Row → Option ℕ
levels_in rows = number_between 0 20 (first_of (codes "levels") rows)

abbrev pub workers_in : List Row → Option ℕ
workers_in rows = number_between 1 16 (first_of (codes "workers") rows)

-- whether two inputs are standard input: a minus stands for the first one, and a minus or no word for the
-- second one
abbrev pub read_both : Option Text → Option Text → Bool
read_both None second = false
read_both (Some first) None = is_standard first
read_both (Some first) (Some second) = is_standard first && is_standard second

-- the arguments of `enroll` say this
pub record SaysEnroll (rows : List Row) (levels : ℕ) (height : TreeHeight) (workers : ℕ)
    (resume secret : Option Text) : Type 0 where
  pub count : levels_in rows ≡ Some levels
  pub trees : height ≡ height_asked (first_of (codes "tall") rows)
  pub helpers : workers_in rows ≡ Some workers
  pub front : resume ≡ first_of (codes "resume") rows
  pub file : secret ≡ first_of (codes "file") rows
  pub once : read_both resume secret ≡ false

-- the arguments of `system` say this
pub record SaysSystem (rows : List Row) (levels : ℕ) (context : List ℕ) (turns : Bool)
    (height : TreeHeight) (prints_id : Bool) (text : Option Text) : Type 0 where
  pub count : levels_in rows ≡ Some levels
  pub agreed : context_asked (first_of (codes "context") rows) ≡ Some context
  pub each : turns ≡ is_set (first_of (codes "turns") rows)
  pub trees : height ≡ height_asked (first_of (codes "tall") rows)
  pub prints : prints_id ≡ is_set (first_of (codes "print-id") rows)
  pub file : text ≡ first_of (codes "file") rows

-- the arguments of `admission` say this
pub record SaysAdmission (rows : List Row) (run : ℕ) (prints_id : Bool) (system : Text)
    (nodes : List ℕ) (roots : List Text) : Type 0 where
  pub number : IsNumberOf (first_of (codes "number") rows) (Some run)
  pub prints : prints_id ≡ is_set (first_of (codes "print-id") rows)
  pub first : first_of (codes "file") rows ≡ Some system
  pub named : AreNamed (log_words rows) nodes roots
  pub once : nat_le (standards (system ∷ roots)) 1 ≡ true

-- the arguments of `admit` say this
pub record SaysAdmit (rows : List Row) (run : ℕ) (prints_id : Bool) (admission : Option Text) : Type 0 where
  pub number : IsNumberOf (first_of (codes "number") rows) (Some run)
  pub prints : prints_id ≡ is_set (first_of (codes "print-id") rows)
  pub file : admission ≡ first_of (codes "file") rows

-- a command with these arguments says this
abbrev pub IsForSystems : Text × List Row → Systems → Type 0
IsForSystems p (Enroll levels height workers resume secret) =
    (p.0 ≡ codes "enroll")
    × SaysEnroll p.1 levels height workers (option_map (λ t. t.now) resume) (option_map (λ t. t.now) secret)
IsForSystems p (Identity roots) =
    (p.0 ≡ codes "identity") × (option_map (λ t. t.now) roots ≡ first_of (codes "file") p.1)
IsForSystems p (System levels context turns height prints_id text) =
    (p.0 ≡ codes "system")
    × SaysSystem p.1 levels context turns height prints_id (option_map (λ t. t.now) text)
IsForSystems p (Admission run prints_id system nodes roots) =
    (p.0 ≡ codes "admission")
    × SaysAdmission p.1 run prints_id system.now nodes.items (map (λ r. r.now) roots.items)
IsForSystems p (Admit run prints_id admission) =
    (p.0 ≡ codes "admit") × SaysAdmit p.1 run prints_id (option_map (λ t. t.now) admission)

-- whether a command is one of identities and systems
abbrev pub is_of_systems : Text → Bool
is_of_systems name =
    bytes_eq name (codes "enroll") || bytes_eq name (codes "identity") || bytes_eq name (codes "system")
    || bytes_eq name (codes "admission") || bytes_eq name (codes "admit")

-- the arguments of `enroll` have this fault
abbrev pub IsEnrollFault : List Row → WordsFault → Type 0
IsEnrollFault rows (faults.Systems BadLevels) = levels_in rows ≡ None
IsEnrollFault rows faults.BadWorkers = IsSome (levels_in rows) × (workers_in rows ≡ None)
IsEnrollFault rows faults.TwoStandard =
    IsSome (levels_in rows) × (IsSome (workers_in rows)
    × (read_both (first_of (codes "resume") rows) (first_of (codes "file") rows) ≡ true))
IsEnrollFault rows _ = ⊥

-- the arguments of `system` have this fault
abbrev pub IsSystemFault : List Row → WordsFault → Type 0
IsSystemFault rows (faults.Systems BadLevels) = levels_in rows ≡ None
IsSystemFault rows (faults.Systems BadContext) =
    IsSome (levels_in rows) × (context_asked (first_of (codes "context") rows) ≡ None)
IsSystemFault rows _ = ⊥

-- some number stands behind `--number`
abbrev pub HasNumber : List Row → Type 0
HasNumber rows = (run : ℕ) × IsNumberOf (first_of (codes "number") rows) (Some run)

-- the arguments of `admission` have this fault
abbrev pub IsAdmissionFault : List Row → WordsFault → Type 0
IsAdmissionFault rows (faults.Systems BadNumber) = IsNumberOf (first_of (codes "number") rows) None
IsAdmissionFault rows faults.NoCommand = HasNumber rows × (first_of (codes "file") rows ≡ None)
IsAdmissionFault rows faults.BadLog = HasNumber rows × NamesNone (log_words rows)
IsAdmissionFault rows faults.TwoStandard =
    HasNumber rows × ((system : Text) × (nodes : List ℕ) × (roots : List Text)
    × (first_of (codes "file") rows ≡ Some system) × AreNamed (log_words rows) nodes roots
    × (nat_le (standards (system ∷ roots)) 1 ≡ false))
IsAdmissionFault rows faults.Memory = Unit {0}
IsAdmissionFault rows _ = ⊥

-- the arguments of `admit` have this fault
abbrev pub IsAdmitFault : List Row → WordsFault → Type 0
IsAdmitFault rows (faults.Systems BadNumber) = IsNumberOf (first_of (codes "number") rows) None
IsAdmitFault rows _ = ⊥

-- a command with these arguments has this fault
abbrev pub IsSystemsFault : Text × List Row → WordsFault → Type 0
IsSystemsFault p fault =
    ((p.0 ≡ codes "enroll") × IsEnrollFault p.1 fault) ⊎ (((p.0 ≡ codes "system") × IsSystemFault p.1 fault)
    ⊎ (((p.0 ≡ codes "admission") × IsAdmissionFault p.1 fault)
    ⊎ ((p.0 ≡ codes "admit") × IsAdmitFault p.1 fault)))

-- a command with these arguments says this, or it is another command
abbrev pub IsSaid : Text × List Row → Option Systems → Type 0
IsSaid p None = is_of_systems p.0 ≡ false
IsSaid p (Some systems) = IsForSystems p systems

-- The command that words name says this; or it is another, or they name none.
abbrev pub IsSaidBy : Option (Text × List Row) → Option Systems → Type 0
IsSaidBy None None = Unit {0}
IsSaidBy None (Some systems) = ⊥
IsSaidBy (Some p) said = IsSaid p said

-- Words ask for this; or the command line has a fault at them, or the command that they name is another, or
-- they name none.
abbrev pub AsksForSystems : List Text → Option Systems → Type 0
AsksForSystems words None = fault_of tool words ≡ [] → IsSaidBy (subcommand_of tool words) None
AsksForSystems words (Some systems) =
    (fault_of tool words ≡ []) × IsSaidBy (subcommand_of tool words) (Some systems)

-- the command that words name has this fault
abbrev pub HasSystemsFault : Option (Text × List Row) → WordsFault → Type 0
HasSystemsFault None fault = ⊥
HasSystemsFault (Some p) fault = IsSystemsFault p fault

-- memory was refused; or the command line has no fault at the words, and the command that they name has this
-- one
abbrev pub IsSystemsFaultOf : List Text → WordsFault → Type 0
IsSystemsFaultOf words fault =
    (fault ≡ faults.Memory) ⊎ ((fault_of tool words ≡ []) × HasSystemsFault (subcommand_of tool words) fault)
