-- The text of decisions.
use Rattle.std.specs.Prelude.{ℕ, List, [], ◌∷◌, ◌++◌, codes}
use Rattle.std.specs.List.{flat_map}
use Rattle.std.specs.Fmt.{decimal}
use Rattle.gen_scenario.specs.declared.scenario.Decision.{Decision}

-- the orders of a set, ascending and separated by commas; a minus for the empty set
abbrev pub listed : List ℕ → List ℕ
listed [] = codes "-"
listed (v ∷ vs) = decimal v ++ flat_map (λ w. codes "," ++ decimal w) vs

-- the line of a decision: a general, the orders of its set, and the order that it decides
abbrev pub decision_line : Decision → List ℕ
decision_line d =
    codes "general " ++ decimal d.general ++ codes " set " ++ listed d.orders ++ codes " decides "
    ++ decimal d.order ++ codes "\n"

-- a line for each decision
abbrev pub decisions_text : List Decision → List ℕ
decisions_text ds = flat_map decision_line ds
