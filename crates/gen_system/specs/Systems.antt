-- Systems: what all runs of some nodes have in common, and the one spelling of it in bytes.
use Rattle.std.specs.Prelude.{ℕ, ◌≡◌, ◌≢◌, ◌≤◌, Bool, false, not, ◌||◌, ◌==◌, nat_le}
use Rattle.std.specs.Prelude.{List, [], ◌∷◌, ◌++◌, length, AllPairs, Result, Ok}
use Rattle.std.specs.Bool.{nat_eq}
use Rattle.std.specs.Cmp.Lexicographic.{pointwise}
use Rattle.std.specs.Int.{w32, to_be_bytes}
use Rattle.std.specs.List.{list_any}
use Rattle.sha2.specs.Sha256.{sha256}
use Rattle.gen_types.specs.Reading.{◌>>=◌, check}
use Rattle.gen_net.specs.Header.{RunHeader, IsHeader, slot_of, root_of, header_spelling}
use Rattle.gen_identity.specs.declared.identities.Identity.{Identity}
use Rattle.gen_identity.specs.Openings.{most_levels}
use Rattle.gen_system.specs.declared.proposers.Proposer.{Proposer}
use Rattle.gen_system.specs.declared.proposers.Proposer.TheVariants.{First, Turns}
use Rattle.gen_system.specs.declared.system_fault.SystemFault.{SystemFault}
use Rattle.gen_system.specs.declared.system_fault.SystemFault.TheVariants.{OtherSlot, EqualIdentities, TooManyLevels}

-- A header of the network of all runs, whose roots are the tops of the nodes' identities; who proposes; the
-- number of levels of every identity; and what the users choose to tell systems apart.
pub record RunSystem : Type 0 where
  pub header : RunHeader
  pub proposer : Proposer
  pub levels : ℕ
  pub context : List ℕ

-- the number of bytes of a context
abbrev pub context_length : ℕ
context_length = 32

-- what every system keeps: the slot is 0, the identities differ, there are at most 20 levels, and the context
-- has 32 bytes
pub record IsSystem (s : RunSystem) : Type 0 where
  pub header : IsHeader s.header
  pub slot : slot_of s.header ≡ 0
  pub apart : AllPairs (λ a b. a ≢ b) s.header.roots
  pub few : s.levels ≤ most_levels
  pub context : length s.context ≡ context_length

-- some top of an identity comes twice
abbrev pub has_equal : List (List ℕ) → Bool
has_equal [] = false
has_equal (top ∷ tops) = list_any (λ other. pointwise nat_eq other top) tops || has_equal tops

-- the header, if it can be a system's: its slot is 0, and no two identities are equal
unfoldable pub fit_header : RunHeader → Result RunHeader SystemFault
fit_header header = do
  slot ← check (slot_of header == 0) OtherSlot
  apart ← check (not (has_equal header.roots)) EqualIdentities
  Ok header

-- the system of these parts, or the first rule that they break
unfoldable pub system_with : RunHeader → Proposer → ℕ → List ℕ → Result RunSystem SystemFault
system_with header proposer levels context = do
  fit ← fit_header header
  few ← check (nat_le levels most_levels) TooManyLevels
  Ok (record { header = header; proposer = proposer; levels = levels; context = context })

-- the identity of a node
abbrev pub identity_in : RunSystem → ℕ → Identity
identity_in s node = record { levels = s.levels; top = root_of s.header node }

-- ---- bytes

-- the first four bytes of a system as a number, big-endian: `SMS1`
abbrev pub system_mark : ℕ
system_mark = 1397576497

-- the byte of a proposer
abbrev pub proposer_number : Proposer → ℕ
proposer_number First = 0
proposer_number Turns = 1

-- what follows the header: the proposer, the levels and the context
abbrev pub choices_spelling : Proposer → ℕ → List ℕ → List ℕ
choices_spelling proposer levels context = proposer_number proposer ∷ levels ∷ context

-- the one spelling of a system: the mark, the header, the proposer, the levels and the context
abbrev pub system_spelling : RunSystem → List ℕ
system_spelling s =
    to_be_bytes w32 system_mark
    ++ (header_spelling s.header ++ choices_spelling s.proposer s.levels s.context)

-- the byte that is hashed before a system in its id: 44 in hexadecimal
abbrev pub system_id_prefix : ℕ
system_id_prefix = 68

-- the text whose hash is the id of a system
abbrev pub id_text : RunSystem → List ℕ
id_text s = system_id_prefix ∷ system_spelling s

-- the id of a system: SHA-256 (FIPS 180-4) of that byte and the system's spelling
abbrev pub system_id_of : RunSystem → List ℕ
system_id_of s = sha256 (id_text s)
