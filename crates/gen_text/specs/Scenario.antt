-- Which texts spell a scenario, apart from how they are read.
use Rattle.std.specs.Prelude.{◌≡◌, ℕ, ◌<◌, List, [], ◌∷◌, ◌++◌, length, map, codes, Ok}
use Rattle.std.specs.List.{AllByRecursion}
use Rattle.gen_net.specs.declared.numbers.NetNumbers.{NetNumbers}
use Rattle.gen_net.specs.declared.version.Version.{Version}
use Rattle.gen_net.specs.declared.version.Version.TheVariants.{One, Two}
use Rattle.gen_net.specs.NetworkOf.{network_of}
use Rattle.gen_script.specs.Digits.{SpellsBytes}
use Rattle.gen_scenario.specs.Scenario.{Scenario, IsScenario}
use Rattle.gen_text.specs.declared.scenario_text.ScenarioText.{ScenarioText}
use Rattle.gen_text.specs.declared.scenario_text.ScenarioText.TheVariants as texts
use Rattle.gen_text.specs.Fields.{line_of, said, edge_line, text_of}
use Rattle.gen_text.specs.Scripts.{SpellsScripts}
use Rattle.gen_text.specs.Told.{net_of, order_of}

-- what a text gives first: a network's numbers, its edges in their order and direction, and the commander's
-- order
pub record Given : Type 0 where
  pub numbers : NetNumbers
  pub edges : List (ℕ × ℕ)
  pub order : ℕ

-- the lines of what a text gives first, each as its fields
abbrev pub given_lines : Given → List (List (List ℕ))
given_lines g =
    said (codes "generals") g.numbers.generals ∷ (map edge_line g.edges
    ++ (said (codes "traitors") g.numbers.traitors ∷ said (codes "diameter") g.numbers.diameter
    ∷ said (codes "orders") g.numbers.orders ∷ said (codes "choice") g.numbers.choice
    ∷ said (codes "order") g.order ∷ []))

-- Each number is at most 255.
pub record AreBytes (g : Given) : Type 0 where
  pub generals : g.numbers.generals < 256
  pub edges : AllByRecursion (λ e. (e.0 < 256) × (e.1 < 256)) g.edges
  pub traitors : g.numbers.traitors < 256
  pub diameter : g.numbers.diameter < 256
  pub orders : g.numbers.orders < 256
  pub choice : g.numbers.choice < 256
  pub order : g.order < 256

-- the line of the slot, in version 2
abbrev pub slot_lines : Version → List (List ℕ)
slot_lines One = []
slot_lines (Two slot) = line_of (said (codes "slot") slot) ∷ []

-- The lines spell the seed in 64 hexadecimal digits, the slot and the scripts of a lawful scenario.
pub record SpellsSigned (lines : List (List ℕ)) (s : Scenario) : Type 0 where
  pub digits : List ℕ
  pub blocks : List (List ℕ)
  pub lines_are : lines ≡ line_of (codes "seed" ∷ digits ∷ []) ∷ (slot_lines s.version ++ blocks)
  pub width : length digits ≡ 64
  pub seed : SpellsBytes digits s.master
  pub scripts : SpellsScripts s.net blocks s.scripts
  pub lawful : IsScenario s

-- A plain scenario has no lines after that of the order; a scenario with signatures has those of its seed,
-- slot and scripts.
abbrev pub SpellsKeys : List (List ℕ) → ScenarioText → Type 0
SpellsKeys lines (texts.Plain plain) = lines ≡ []
SpellsKeys lines (texts.Signed s) = SpellsSigned lines s

-- The text spells this scenario: it gives numbers and edges that make its network, its order is one of the
-- network's, and `end` is its last line.
pub record SpellsScenario (text : List ℕ) (told : ScenarioText) : Type 0 where
  pub given : Given
  pub keys : List (List ℕ)
  pub text_is : text ≡ text_of (map line_of (given_lines given) ++ (keys ++ codes "end" ∷ []))
  pub bytes : AreBytes given
  pub network : network_of given.numbers given.edges ≡ Ok (net_of told)
  pub order : given.order ≡ order_of told
  pub known : order_of told < (net_of told).orders
  pub keys_are : SpellsKeys keys told

-- a text spells at most one scenario
abbrev pub OneScenario : Type 0
OneScenario =
    (text : List ℕ) (told other : ScenarioText) → SpellsScenario text told → SpellsScenario text other
    → told ≡ other
