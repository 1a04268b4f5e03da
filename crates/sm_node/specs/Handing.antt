-- What the caller's room holds after a call, and what the count is.
use Rattle.std.specs.Prelude.{ℕ, ◌≡◌, ◌<◌, ◌++◌, List, length, drop}
use Rattle.sm_node.specs.declared.told.NodeReply.{NodeReply}
use Rattle.sm_node.specs.declared.told.NodeReply.TheVariants.{Done, Misuse, Fault, Memory, Length}

-- the room begins with the text and is otherwise as it was, and the count is the text's length
abbrev pub Fits : List ℕ → List ℕ → List ℕ → ℕ → Type 0
Fits text old new count = (count ≡ length text) × (new ≡ text ++ drop (length text) old)

-- the text is longer than the room, the room is as it was, and the count is the text's length
abbrev pub IsTooLong : List ℕ → List ℕ → List ℕ → ℕ → Type 0
IsTooLong text old new count = (count ≡ length text) × (length old < count) × (new ≡ old)

-- the room is as it was, and the count is 0
abbrev pub IsUntouched : List ℕ → List ℕ → ℕ → Type 0
IsUntouched old new count = (count ≡ 0) × (new ≡ old)

-- this text was put into the room; or it is longer than the room, and its length alone was told
abbrev pub PutsText : List ℕ → List ℕ → List ℕ → ℕ → NodeReply → Type 0
PutsText text old new count Done = Fits text old new count
PutsText text old new count Length = IsTooLong text old new count
PutsText text old new count Misuse = ⊥
PutsText text old new count Fault = ⊥
PutsText text old new count Memory = ⊥
