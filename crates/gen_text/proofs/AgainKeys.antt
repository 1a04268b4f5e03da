-- The lines of the seed and of the slot that are spelled so are read.
use Rattle.std.proofs.Common.{◌≡◌, ℕ, ◌+◌, ◌≤◌, leb, true, List, [], ◌∷◌, length, codes, Some, None, Ok, refl, ◌∙◌, arith}
use Rattle.std.proofs.lemmas.Bool.{le-leb}
use Rattle.hex.specs.Hex.{decode_sized}
use Rattle.hex.proofs.HexLemmas.{decode_sized-twice}
use Rattle.gen_net.specs.Version.{greatest_slot}
use Rattle.gen_script.specs.Digits.{SpellsBytes}
use Rattle.gen_script.proofs.Hexes.{decoded_again}
use Rattle.gen_text.specs.Fields.{line_of, said}
use Rattle.gen_text.specs.KeysReading.{seed_in, slot_in, seed_at, slot_at}
use Rattle.gen_text.proofs.AgainLines.{word, digits_plain, AreFields, fields_line, said_line, IsGoing, fields_again, digits_again}

abbrev pub seed_fields : List ℕ → List (List ℕ)
seed_fields digits = codes "seed" ∷ digits ∷ []

pub seed_line : (digits master : List ℕ) → length digits ≡ 64 → SpellsBytes digits master → AreFields (seed_fields digits)
seed_line digits master width h = fields_line (codes "seed") (digits ∷ []) (word (codes "seed") refl (omega arith), (word digits (digits_plain digits master h) (omega (arith, width)), tt)) (omega arith)

seed_in_again : (k : ℕ) (digits master : List ℕ) → length digits ≡ 64 → SpellsBytes digits master → seed_in k (seed_fields digits) ≡ Ok (Some master)
unfolding seed_in
seed_in_again k digits master width h =
    let sized : decode_sized digits 32 ≡ Ok master = decode_sized-twice digits 32 width ∙ decoded_again digits master h in
    rw sized refl

pub seed_again : (k : ℕ) (digits master : List ℕ) (more : List (List ℕ)) → length digits ≡ 64 → SpellsBytes digits master → IsGoing more
    → seed_at (record { line = k; parts = line_of (seed_fields digits) ∷ more }) ≡ Ok (Some master, record { line = k + 1; parts = more })
unfolding seed_at
seed_again k digits master more width h going =
    rw (fields_again k (seed_fields digits) more (seed_line digits master width h) going, seed_in_again k digits master width h) refl

-- a line that is none of a seed
pub no_seed : (k : ℕ) (fs more : List (List ℕ)) → AreFields fs → IsGoing more → seed_in k fs ≡ Ok None
    → seed_at (record { line = k; parts = line_of fs ∷ more }) ≡ Ok (None, record { line = k; parts = line_of fs ∷ more })
unfolding seed_at
no_seed k fs more h going e = rw (fields_again k fs more h going, e) refl

pub slot_line : (slot : ℕ) → slot ≤ greatest_slot → AreFields (said (codes "slot") slot)
slot_line slot known = said_line (codes "slot") slot (word (codes "slot") refl (omega arith)) (omega (arith, known))

slot_in_again : (k slot : ℕ) → slot ≤ greatest_slot → slot_in k (said (codes "slot") slot) ≡ Ok (Some slot)
unfolding slot_in
slot_in_again k slot known =
    let below : leb slot greatest_slot ≡ true = le-leb slot greatest_slot known in
    rw (digits_again k slot (omega (arith, known)), below) refl

pub slot_again : (k slot : ℕ) (more : List (List ℕ)) → slot ≤ greatest_slot → IsGoing more
    → slot_at (record { line = k; parts = line_of (said (codes "slot") slot) ∷ more }) ≡ Ok (Some slot, record { line = k + 1; parts = more })
unfolding slot_at
slot_again k slot more known going = rw (fields_again k (said (codes "slot") slot) more (slot_line slot known) going, slot_in_again k slot known) refl

-- a line that is none of a slot
pub no_slot : (k : ℕ) (fs more : List (List ℕ)) → AreFields fs → IsGoing more → slot_in k fs ≡ Ok None
    → slot_at (record { line = k; parts = line_of fs ∷ more }) ≡ Ok (None, record { line = k; parts = line_of fs ∷ more })
unfolding slot_at
no_slot k fs more h going e = rw (fields_again k fs more h going, e) refl
