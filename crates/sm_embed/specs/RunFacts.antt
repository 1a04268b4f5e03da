-- The runs of a system as facts.
use Rattle.std.specs.Prelude.{ℕ, if◌then◌else◌, List, [], ◌∷◌, length, map, nat_le, slice_index_or}
use Rattle.std.specs.List.{flat_map, range_with_len}
use Rattle.gen_enrolling.specs.Admitted.{RunTold}
use Rattle.gen_facts.specs.declared.fact.Fact.{Fact}
use Rattle.gen_facts.specs.Facts.{about, no_fact}

-- the run at a place: its number in the system, and the id of the system
abbrev pub system_fact : ℕ → ℕ → List ℕ → Fact
system_fact run number system = record no_fact { kind = 10; run = run; number = number; run_id = system }

-- the node that a general of the run at a place is
abbrev pub node_fact : ℕ → ℕ → ℕ → Fact
node_fact run general node = record (about 11 run general 0) { other = node }

-- no run has more than 16 nodes, and no set more than 4 runs
abbrev pub at_most : ℕ → ℕ → ℕ
at_most most count = if nat_le count most then count else most

-- the run at a place, and the node that each general is
abbrev pub run_facts : ℕ → ℕ → List ℕ → List ℕ → List Fact
run_facts run number system nodes =
    system_fact run number system
    ∷ map (λ general. node_fact run general (slice_index_or nodes general 0))
    (range_with_len 0 (at_most 16 (length nodes)))

-- in place of a run, where there is none
abbrev pub no_run : RunTold
no_run = record { number = 0; id = []; nodes = [] }

-- the facts of the run at a place of these
abbrev pub facts_at : List ℕ → List RunTold → ℕ → List Fact
facts_at system runs place =
    let run : RunTold = slice_index_or runs place no_run in run_facts place run.number system run.nodes

-- the facts of runs of a system
abbrev pub facts_of : List ℕ → List RunTold → List Fact
facts_of system runs = flat_map (facts_at system runs) (range_with_len 0 (at_most 4 (length runs)))
