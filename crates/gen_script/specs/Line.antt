-- Which lines spell which script line. How a line is read is told elsewhere, in LineReading.
use Rattle.std.specs.Prelude.{ℕ, ◌≡◌, ◌≢◌, ◌<◌, ◌≤◌, List, [], ◌∷◌, length, map, codes, All, AllPairs, Contains}
use Rattle.std.specs.List.{join_with_byte}
use Rattle.std.specs.Fmt.{decimal}
use Rattle.gen_types.specs.Ends.{BeginsWith, EndsWith}
use Rattle.gen_net.specs.Network.{Network, rounds, AreNeighbours, IsNetwork}
use Rattle.gen_script.specs.declared.lines.ScriptLine.{ScriptLine}
use Rattle.gen_script.specs.declared.lines.ScriptLine.TheVariants.{Make, Pass, Bend, Raw, Hide, TwoHeads}
use Rattle.gen_script.specs.Digits.{SpellsBytes}

-- the numbers of a path, joined by commas
abbrev pub path_text : List ℕ → List ℕ
path_text path = join_with_byte 44 (map decimal path)

-- The fields of a line are those of this script line: its word, and then its parts.
abbrev pub HasFields : List (List ℕ) → ScriptLine → Type 0
HasFields fs (Make round to order path) =
    fs ≡ codes "make" ∷ decimal round ∷ decimal to ∷ decimal order ∷ path_text path ∷ []
HasFields fs (Pass round to from order path) =
    fs ≡ codes "pass" ∷ decimal round ∷ decimal to ∷ decimal from ∷ decimal order ∷ path_text path ∷ []
HasFields fs (Bend round to from order) =
    fs ≡ codes "bend" ∷ decimal round ∷ decimal to ∷ decimal from ∷ decimal order ∷ []
HasFields fs (Raw round to parcel) =
    (digits : List ℕ) × (fs ≡ codes "raw" ∷ decimal round ∷ decimal to ∷ digits ∷ [])
    × SpellsBytes digits parcel
HasFields fs (Hide round from order) = fs ≡ codes "hide" ∷ decimal round ∷ decimal from ∷ decimal order ∷ []
HasFields fs TwoHeads = fs ≡ codes "twohead" ∷ []

-- a round of a run, which is at least the first that is allowed
abbrev pub IsRound : Network → ℕ → ℕ → Type 0
IsRound net first round = (first ≤ round) × (round ≤ rounds net)

-- distinct generals of the network, the last of which is me
pub record IsPathTo (net : Network) (me : ℕ) (path : List ℕ) : Type 0 where
  pub known : All (λ g. g < net.generals) path
  pub distinct : AllPairs (λ g h. g ≢ h) path
  pub last : EndsWith path me

-- The rules for a line in the script of the general me, but for one: that the generals of its path have
-- scripts.
abbrev pub IsScriptLine : Network → ℕ → ScriptLine → Type 0
IsScriptLine net me (Make round to order path) =
    IsRound net 1 round × AreNeighbours net me to × (order < net.orders) × IsPathTo net me path
    × BeginsWith path (0 ∷ []) × (length path ≡ round)
IsScriptLine net me (Pass round to from order path) =
    IsRound net 1 round × AreNeighbours net me to × AreNeighbours net me from × (order < net.orders)
    × IsPathTo net me path
    × (Contains path 0 → ⊥) × (length path < round)
IsScriptLine net me (Bend round to from order) =
    IsRound net 2 round × AreNeighbours net me to × AreNeighbours net me from × (order < net.orders)
IsScriptLine net me (Raw round to parcel) = IsRound net 1 round × AreNeighbours net me to × (parcel ≢ [])
IsScriptLine net me (Hide round from order) =
    IsRound net 1 round × AreNeighbours net me from × (order < net.orders)
IsScriptLine net me TwoHeads = Unit {0}

-- The line spells this script line in the script of the general me: its fields are joined by single spaces,
-- and the rules hold.
pub record SpellsLine (net : Network) (me : ℕ) (line : List ℕ) (said : ScriptLine) : Type 0 where
  pub parts : List (List ℕ)
  pub line_is : line ≡ join_with_byte 32 parts
  pub fields : HasFields parts said
  pub lawful : IsScriptLine net me said

-- a line says at most one thing
abbrev pub OneScriptLine : Type 0
OneScriptLine =
    (net : Network) (me : ℕ) (line : List ℕ) (said other : ScriptLine) → IsNetwork net
    → SpellsLine net me line said → SpellsLine net me line other → said ≡ other
