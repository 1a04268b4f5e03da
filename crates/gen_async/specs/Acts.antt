-- The acts of a general: what it does on the queues of its edges, and in which order.
use Rattle.std.specs.Prelude.{ℕ, ◌==◌, Bool, false, List, map, ◌++◌}
use Rattle.std.specs.List.{flat_map, range_with_len}
use Rattle.gen_net.specs.Network.{Network, rounds}
use Rattle.gen_scenario.specs.SignedWorld.{neighbours_of}
use Rattle.gen_async.specs.declared.acts.Act.{Act}
use Rattle.gen_async.specs.declared.acts.Act.TheVariants.{Puts, Takes}

-- In one round a general puts to each of its neighbours, then takes from each of them.
abbrev pub acts_of_round : List ℕ → ℕ → List Act
acts_of_round near l = map (Puts l) near ++ map (Takes l) near

-- the acts of `count` rounds, from round l on
abbrev pub acts_of_rounds : List ℕ → ℕ → ℕ → List Act
acts_of_rounds near l count = flat_map (acts_of_round near) (range_with_len l count)

-- all acts of g
unfoldable pub acts_of : Network → ℕ → List Act
acts_of net g = acts_of_rounds (neighbours_of net g) 1 (rounds net)

-- whether an act is a put to h, and whether it is a take from h
abbrev pub is_put_to : ℕ → Act → Bool
is_put_to h (Puts l to) = to == h
is_put_to h (Takes l from) = false

abbrev pub is_take_from : ℕ → Act → Bool
is_take_from h (Puts l to) = false
is_take_from h (Takes l from) = from == h
