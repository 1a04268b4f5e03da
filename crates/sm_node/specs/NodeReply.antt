-- What a call answers, and the number that it returns.
use Rattle.std.specs.Prelude.{ℕ, ◌≡◌}
use Rattle.sm_node.specs.declared.told.NodeReply.{NodeReply}
use Rattle.sm_node.specs.declared.told.NodeReply.TheVariants.{Done, Misuse, Fault, Memory, Length}

-- the number of an answer
abbrev pub status_of : NodeReply → ℕ
status_of Done = 0
status_of Misuse = 2
status_of Fault = 3
status_of Memory = 4
status_of Length = 5

-- the returned number is that of an answer, and what goes with the answer holds
abbrev pub IsTold : (NodeReply → Type 0) → ℕ → Type 0
IsTold Holds status = (told : NodeReply) × (status ≡ status_of told) × Holds told
