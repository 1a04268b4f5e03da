-- The lines after that of the order that may be absent: the master seed of all keys, and the slot of the run.
use Rattle.std.specs.Prelude.{ℕ, List, [], ◌∷◌, codes, Option, Some, None, Result, Ok, Err, nat_le, if◌then◌else◌}
use Rattle.std.specs.Str.{bytes_eq}
use Rattle.hex.specs.Hex.{decode_sized}
use Rattle.hex.specs.declared.error.FromHexError.{FromHexError}
use Rattle.gen_types.specs.Reading.{◌>>=◌, check}
use Rattle.gen_net.specs.declared.version.Version.{Version}
use Rattle.gen_net.specs.declared.version.Version.TheVariants.{One, Two}
use Rattle.gen_net.specs.Version.{greatest_slot}
use Rattle.gen_text.specs.declared.fault.LineFault.TheVariants.{BadSeed, SlotRange}
use Rattle.gen_text.specs.declared.fault.ScenarioFault.{ScenarioFault}
use Rattle.gen_text.specs.Cursor.{Cursor}
use Rattle.gen_text.specs.LineReading.{fault_at, number_in}
use Rattle.gen_text.specs.CursorReading.{next_line}

-- the 32 bytes of a seed in the line k, or BadSeed
abbrev pub known_seed : ℕ → Result (List ℕ) FromHexError → Result (List ℕ) ScenarioFault
known_seed k (Err e) = Err (fault_at BadSeed k)
known_seed k (Ok seed) = Ok seed

-- the seed of the line k; None if it is no line of a seed
unfoldable pub seed_in : ℕ → List (List ℕ) → Result (Option (List ℕ)) ScenarioFault
seed_in k (w ∷ digits ∷ []) = if bytes_eq w (codes "seed") then (do
  seed ← known_seed k (decode_sized digits 32)
  Ok (Some seed)) else Ok None
seed_in k _ = Ok None

-- the slot of the line k; None if it is no line of a slot
unfoldable pub slot_in : ℕ → List (List ℕ) → Result (Option ℕ) ScenarioFault
slot_in k (w ∷ digits ∷ []) = if bytes_eq w (codes "slot") then (do
  slot ← number_in k digits
  known ← check (nat_le slot greatest_slot) (fault_at SlotRange k)
  Ok (Some slot)) else Ok None
slot_in k _ = Ok None

-- the cursor after a line that may be absent: if it is absent, the cursor before
abbrev pub behind : {A : Type 0} → Option A → Cursor → Cursor → Option A × Cursor
behind None before after = (None, before)
behind (Some x) before after = (Some x, after)

-- the seed and the cursor after it, if its line stands at this cursor; else None and this cursor
unfoldable pub seed_at : Cursor → Result (Option (List ℕ) × Cursor) ScenarioFault
seed_at c = do
  l ← next_line c
  seed ← seed_in l.0.number l.0.fields
  Ok (behind seed c l.1)

-- the slot and the cursor after it, if its line stands at this cursor; else None and this cursor
unfoldable pub slot_at : Cursor → Result (Option ℕ × Cursor) ScenarioFault
slot_at c = do
  l ← next_line c
  slot ← slot_in l.0.number l.0.fields
  Ok (behind slot c l.1)

-- the version of a text with or without a slot: 2 with a slot, 1 without
abbrev pub version_with : Option ℕ → Version
version_with None = One
version_with (Some slot) = Two slot
