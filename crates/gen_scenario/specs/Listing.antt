-- What holds while the parcels of a frame are read one after another.
use Rattle.std.specs.Prelude.{ℕ, ◌≡◌, List}
use Rattle.std.specs.List.{flat_map}
use Rattle.gen_net.specs.Header.{RunHeader}
use Rattle.gen_chain.specs.Chain.{Chain}
use Rattle.gen_scenario.specs.declared.delivery.Delivery.{Delivery}
use Rattle.gen_scenario.specs.Counted.{carried_by, firsts}

-- the chains are the first ones of each order that these parcels carry, in the order of the parcels
abbrev pub AreListed : RunHeader → Delivery → List (List ℕ) → List Chain → Type 0
AreListed h d parcels chains = chains ≡ firsts (flat_map (carried_by h d) parcels)
