-- The one spelling of a bundle in bytes.
use Rattle.std.specs.Prelude.{ℕ, List, ◌∷◌, ◌++◌, length}
use Rattle.std.specs.List.{flat_map}
use Rattle.std.specs.Int.{w32, to_be_bytes}
use Rattle.gen_net.specs.declared.marks.Marks.{Marks}
use Rattle.gen_net.specs.Front.{front_spelling}
use Rattle.gen_log.specs.Fields.{set_spelling}
use Rattle.gen_log.specs.Writing.{LogBytes}
use Rattle.gen_audit.specs.Bundle.{Bundle}

-- the first four bytes as a number, big-endian: `SMB1` before a header of version 1, `SMB2` before one of
-- version 2
abbrev pub bundle_marks : Marks
bundle_marks = record { one = 1397572145; two = 1397572146 }

-- a walk is the number of its generals and the generals, one byte each
abbrev pub walk_spelling : List ℕ → List ℕ
walk_spelling walk = length walk ∷ walk

-- the number of walks, and the walks
abbrev pub walks_spelling : List (List ℕ) → List ℕ
walks_spelling walks = length walks ∷ flat_map walk_spelling walks

-- an exhibit is its general, the length of the log in four bytes, and the log's bytes
abbrev pub exhibit_spelling : LogBytes → List ℕ
exhibit_spelling x = x.general ∷ (to_be_bytes w32 (length x.bytes) ++ x.bytes)

-- the number of exhibits, and the exhibits
abbrev pub exhibits_spelling : List LogBytes → List ℕ
exhibits_spelling exhibits = length exhibits ∷ flat_map exhibit_spelling exhibits

-- the mark and the header, the faulty generals as a number of two bytes, the walks, and the exhibits
abbrev pub bundle_spelling : Bundle → List ℕ
bundle_spelling b =
    front_spelling bundle_marks b.header
    ++ (set_spelling b.faulty
    ++ (walks_spelling b.walks ++ exhibits_spelling b.exhibits))
