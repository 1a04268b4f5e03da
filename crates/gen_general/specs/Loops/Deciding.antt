-- The orders that were heard.
use Rattle.std.specs.Prelude.{ℕ, ◌≡◌, List, Contains}
use Rattle.gen_scenario.specs.declared.heard.Heard.{Heard}

-- a chain of this order was heard
abbrev pub HasHeard : List Heard → ℕ → Type 0
HasHeard heard v = (x : Heard) × Contains heard x × (x.chain.order ≡ v)
