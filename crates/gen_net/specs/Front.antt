-- A mark and a header: four bytes, which name a format and the header's version, and the header.
use Rattle.std.specs.Prelude.{ℕ, ◌≢◌, ◌<◌, ◌^◌, List, ◌++◌}
use Rattle.std.specs.Int.{w32, to_be_bytes}
use Rattle.gen_net.specs.declared.marks.Marks.{Marks}
use Rattle.gen_net.specs.declared.version.Version.{Version}
use Rattle.gen_net.specs.declared.version.Version.TheVariants.{One, Two}
use Rattle.gen_net.specs.Header.{RunHeader, header_spelling}

-- the two marks are numbers of four bytes, and not the same
pub record AreMarks (marks : Marks) : Type 0 where
  pub one : marks.one < 2 ^ 32
  pub two : marks.two < 2 ^ 32
  pub different : marks.one ≢ marks.two

-- the mark before a header of this version
abbrev pub mark_of : Marks → Version → ℕ
mark_of marks One = marks.one
mark_of marks (Two slot) = marks.two

-- the mark before a header of this version in four bytes, big-endian
abbrev pub mark_spelling : Marks → Version → List ℕ
mark_spelling marks version = to_be_bytes w32 (mark_of marks version)

-- the spelling of a front: the mark, and the header
abbrev pub front_spelling : Marks → RunHeader → List ℕ
front_spelling marks h = mark_spelling marks h.version ++ header_spelling h
