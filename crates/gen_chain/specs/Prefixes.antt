-- The byte before each text that is hashed here, in each version. These bytes differ, so a text of one kind
-- is never a text of the other.
use Rattle.std.specs.Prelude.{ℕ}
use Rattle.gen_net.specs.declared.version.Version.{Version}
use Rattle.gen_net.specs.declared.version.Version.TheVariants.{One, Two}

-- the byte before a statement: 0x10 in version 1, 0x12 in version 2
abbrev pub statement_prefix : Version → ℕ
statement_prefix One = 16
statement_prefix (Two slot) = 18

-- the byte before the head of a log: 0x11 in version 1, 0x13 in version 2
abbrev pub head_prefix : Version → ℕ
head_prefix One = 17
head_prefix (Two slot) = 19
