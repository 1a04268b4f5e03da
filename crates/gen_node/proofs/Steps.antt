-- How calls of a node follow each other.
use Rattle.std.proofs.Common.{◌≡◌, ◌+◌, ℕ, Bool, true, false, refl}
use Rattle.std.specs.Prelude.{◌&&◌, if◌then◌else◌}
use Rattle.gen_types.specs.Ends.{is_among}
use Rattle.gen_general.specs.Recording.{Recorder, with_recvs, with_sends}
use Rattle.gen_node.specs.declared.stages.Stage.{Stage}
use Rattle.gen_node.specs.declared.stages.Stage.TheVariants.{Between, Sending, Open, Hearing}
use Rattle.gen_node.specs.Held.{frame_in}
use Rattle.gen_node.specs.Node.{Node, awaits, is_open, neighbours_at, header_at}
use Rattle.gen_node.specs.Loops.Kept.{heard_one, is_near, sent_one}

-- ---- a round begins

chosen_header : (b : Bool) (r q : Recorder) → header_at q ≡ header_at r → header_at (if b then q else r) ≡ header_at r
chosen_header true r q e = e
chosen_header false r q e = refl

pub sent_header : (n : Node) (next : ℕ) → header_at (sent_one n next).recorder ≡ header_at n.recorder
sent_header n next = chosen_header (is_near n.recorder next) n.recorder (with_sends n.recorder next) refl

pub heard_header : (n : Node) (next : ℕ) → header_at (heard_one n next).recorder ≡ header_at n.recorder
heard_header n next = chosen_header (is_near n.recorder next) n.recorder (with_recvs n.recorder next (frame_in next n.inbox)) refl

-- ---- one step, by whether he is a neighbour

pub sent_yes : (n : Node) (next : ℕ) → is_near n.recorder next ≡ true → record { recorder = with_sends n.recorder next; stage = Sending (next + 1); inbox = n.inbox } ≡ sent_one n next
sent_yes n next e = rw e refl

pub sent_no : (n : Node) (next : ℕ) → is_near n.recorder next ≡ false → record { recorder = n.recorder; stage = Sending (next + 1); inbox = n.inbox } ≡ sent_one n next
sent_no n next e = rw e refl

pub heard_yes : (n : Node) (next : ℕ) → is_near n.recorder next ≡ true → record { recorder = with_recvs n.recorder next (frame_in next n.inbox); stage = Hearing (next + 1); inbox = n.inbox } ≡ heard_one n next
heard_yes n next e = rw e refl

pub heard_no : (n : Node) (next : ℕ) → is_near n.recorder next ≡ false → record { recorder = n.recorder; stage = Hearing (next + 1); inbox = n.inbox } ≡ heard_one n next
heard_no n next e = rw e refl

-- ---- a frame that is awaited

both_true : (a b : Bool) → (a && b) ≡ true → (a ≡ true) × (b ≡ true)
both_true true b e = (refl, e)
both_true false b e = absurd cc

open_is : (stage : Stage) → is_open stage ≡ true → stage ≡ Open
open_is Between e = absurd cc
open_is (Sending next) e = absurd cc
open_is Open e = refl
open_is (Hearing next) e = absurd cc

pub awaits_both : (n : Node) (g : ℕ) → awaits n g ≡ true → (n.stage ≡ Open) × (is_among (neighbours_at n.recorder) g ≡ true)
awaits_both n g e = let b = both_true (is_open n.stage) (is_among (neighbours_at n.recorder) g) e in (open_is n.stage b.0, b.1)

pub awaits_open : (n : Node) (g : ℕ) → n.stage ≡ Open → is_among (neighbours_at n.recorder) g ≡ awaits n g
awaits_open n g e = rw e refl
