-- The entries of a log, part by part: those of each round are its SIGNs, SENDs and RECVs.
use Rattle.std.proofs.Common.{◌≡◌, ◌-◌, ℕ, suc, not, List, ◌++◌, map, filter, refl, arith, ap, ◌∙◌}
use Rattle.std.specs.List.{range_with_len, flat_map, list_any}
use Rattle.gen_net.specs.Network.{rounds}
use Rattle.gen_chain.specs.Chain.{Chain}
use Rattle.gen_log.specs.declared.entries.Entry.{Entry}
use Rattle.gen_log.specs.declared.entries.Entry.TheVariants.{Recv}
use Rattle.gen_scenario.specs.Counted.{counted_of}
use Rattle.gen_scenario.specs.Frames.{frame_of}
use Rattle.gen_scenario.specs.Scenario.{Scenario, header_of, script_of}
use Rattle.gen_scenario.specs.SignedWorld.{sender_of, neighbours_of, delivery, heard_by, frame_at, counted_at}
use Rattle.gen_scenario.specs.RoundEntries.{sign_of, send_of, sorted_by, in_order, hides, signs_by, sends_by, sign_entries, send_entries, recv_entries}
use Rattle.gen_scenario.specs.WorldLogs.{entries_after, middle_of}
use Rattle.gen_scenario.proofs.ScriptsOf.{lines_of}

-- the chains that a general signs, and those that he sends a neighbour, in the round after the first j
unfoldable pub signs_in : Scenario → ℕ → ℕ → List Chain
signs_in s g j = signs_by (sender_of s g) (script_of s.scripts g) (heard_by s j g) (suc j)

unfoldable pub sends_in : Scenario → ℕ → ℕ → ℕ → List Chain
sends_in s g j to = sends_by (sender_of s g) (script_of s.scripts g) (heard_by s j g) (suc j) to

-- the chains that count of a neighbour's frame, but for what is hidden
unfoldable pub kept_from : Scenario → ℕ → ℕ → ℕ → List Chain
kept_from s g j from =
    filter (λ c. not (list_any (hides (suc j) from c.order) (lines_of s.scripts g)))
    (sorted_by (λ c. c.order) s.net.orders (counted_of (header_of s) (delivery (suc j) from g) (frame_of (sender_of s from) (heard_by s j from) (suc j) g)))

-- the SIGNs, SENDs and RECVs of that round
unfoldable pub signs_after : Scenario → ℕ → ℕ → List Entry
signs_after s g j = map sign_of (in_order s.net.orders (signs_in s g j))

unfoldable pub sends_after : Scenario → ℕ → ℕ → List Entry
sends_after s g j = flat_map (λ to. map (send_of to) (in_order s.net.orders (sends_in s g j to))) (neighbours_of s.net g)

unfoldable pub recvs_after : Scenario → ℕ → ℕ → List Entry
recvs_after s g j = flat_map (λ from. map (Recv from) (kept_from s g j from)) (neighbours_of s.net g)

abbrev pub entries_in : Scenario → ℕ → ℕ → List Entry
entries_in s g j = signs_after s g j ++ (sends_after s g j ++ recvs_after s g j)

unfoldable pub middle_in : Scenario → ℕ → List Entry
middle_in s g = flat_map (entries_in s g) (range_with_len 0 (rounds s.net))

-- ---- these are they

pub sign_part : (s : Scenario) (g j : ℕ) → sign_entries (sender_of s g) (heard_by s j g) (suc j) ≡ signs_after s g j
unfolding sign_entries signs_after signs_in
sign_part s g j = refl

pub send_part : (s : Scenario) (g j to : ℕ) → send_entries (sender_of s g) (heard_by s j g) (suc j) to ≡ map (send_of to) (in_order s.net.orders (sends_in s g j to))
unfolding send_entries sends_in
send_part s g j to = refl

pub counted_is : (s : Scenario) (j from to : ℕ) → counted_at s (suc j) from to ≡ counted_of (header_of s) (delivery (suc j) from to) (frame_of (sender_of s from) (heard_by s j from) (suc j) to)
unfolding counted_at frame_at
counted_is s j from to =
    let back : suc j - 1 ≡ j = omega arith in
    rw back refl

recv_counted : (s : Scenario) (g j from : ℕ) → recv_entries (sender_of s g) (suc j) from (counted_of (header_of s) (delivery (suc j) from g) (frame_of (sender_of s from) (heard_by s j from) (suc j) g)) ≡ map (Recv from) (kept_from s g j from)
unfolding recv_entries kept_from
recv_counted s g j from = refl

pub recv_part : (s : Scenario) (g j from : ℕ) → recv_entries (sender_of s g) (suc j) from (counted_at s (suc j) from g) ≡ map (Recv from) (kept_from s g j from)
recv_part s g j from = ap (recv_entries (sender_of s g) (suc j) from) (counted_is s j from g) ∙ recv_counted s g j from

sends_part : (s : Scenario) (g j : ℕ) → flat_map (send_entries (sender_of s g) (heard_by s j g) (suc j)) (neighbours_of s.net g) ≡ sends_after s g j
unfolding sends_after
sends_part s g j = λ i. flat_map (λ to. send_part s g j to i) (neighbours_of s.net g)

recvs_part : (s : Scenario) (g j : ℕ) → flat_map (λ from. recv_entries (sender_of s g) (suc j) from (counted_at s (suc j) from g)) (neighbours_of s.net g) ≡ recvs_after s g j
unfolding recvs_after
recvs_part s g j = λ i. flat_map (λ from. recv_part s g j from i) (neighbours_of s.net g)

pub round_parts : (s : Scenario) (g j : ℕ) → entries_after s g j ≡ entries_in s g j
unfolding entries_after
round_parts s g j = λ i. sign_part s g j i ++ (sends_part s g j i ++ recvs_part s g j i)

pub middle_parts : (s : Scenario) (g : ℕ) → middle_of s g ≡ middle_in s g
unfolding middle_of middle_in
middle_parts s g = λ i. flat_map (λ j. round_parts s g j i) (range_with_len 0 (rounds s.net))
