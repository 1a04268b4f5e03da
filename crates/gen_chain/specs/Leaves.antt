-- The leaves of a general's tree that belong to a run: one for each order, and one for the head of the
-- general's log.
use Rattle.std.specs.Prelude.{ℕ, ◌+◌, ◌*◌}
use Rattle.gen_net.specs.Header.{RunHeader, slot_of}

-- the number of leaves of one run
abbrev pub leaves_per_run : ℕ
leaves_per_run = 16

-- the leaf under which statements of an order are signed
abbrev pub leaf_of_order : RunHeader → ℕ → ℕ
leaf_of_order h order = leaves_per_run * slot_of h + order

-- the leaf under which heads of logs are signed: the last leaf of the run
abbrev pub leaf_of_head : RunHeader → ℕ
leaf_of_head h = leaves_per_run * slot_of h + 15
