-- What is told of a node that stands in a run.
use Rattle.std.specs.Prelude.{ℕ, ◌≡◌, if◌then◌else◌, true, false, Option}
use Rattle.gen_node.specs.Node.{Node, awaits, is_awaited, is_over, may_end}
use Rattle.sm_node.specs.declared.asking.Question.{Question}
use Rattle.sm_node.specs.declared.asking.Question.TheVariants.{Round, Awaits, Lacks, MayEnd, IsOver}
use Rattle.sm_node.specs.declared.held.NodeHandle.{NodeHandle}
use Rattle.sm_node.specs.declared.told.NodeReply.{NodeReply}
use Rattle.sm_node.specs.declared.told.NodeReply.TheVariants.{Done, Misuse, Fault, Memory, Length}
use Rattle.sm_node.specs.NodeHandle.{allows, IsRunning}

-- no node is there that has not ended
abbrev pub HasNone : Option NodeHandle → Type 0
HasNone held = allows (λ _. true) held ≡ false

-- the answer of a node: the number of the round that began last, 0 before the first; and, 1 for yes and 0 for
-- no, whether frames go to this general and come from it now, whether a frame from it is still awaited,
-- whether a round may end (one is open or half ended), and whether the last round has ended
abbrev pub answer_to : Question → Node → ℕ
answer_to Round n = n.recorder.standing.round
answer_to (Awaits general) n = if awaits n general then 1 else 0
answer_to (Lacks general) n = if is_awaited n general then 1 else 0
answer_to MayEnd n = if may_end n then 1 else 0
answer_to IsOver n = if is_over n then 1 else 0

-- the answer of the node is told
abbrev pub Tells : Question → Option NodeHandle → ℕ → NodeReply → Type 0
Tells question held told Done = (n : Node) × IsRunning held n × (told ≡ answer_to question n)
Tells question held told Misuse = (told ≡ 0) × HasNone held
Tells question held told Fault = ⊥
Tells question held told Memory = ⊥
Tells question held told Length = ⊥
