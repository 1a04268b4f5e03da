-- Which texts spell a header, apart from how they are read.
use Rattle.std.specs.Prelude.{◌≡◌, ℕ, List, [], ◌∷◌, ◌++◌, length, map, codes, Ok}
use Rattle.gen_net.specs.declared.numbers.NetNumbers.{NetNumbers}
use Rattle.gen_net.specs.declared.version.Version.{Version}
use Rattle.gen_net.specs.Header.{RunHeader}
use Rattle.gen_net.specs.NetworkOf.{network_of}
use Rattle.gen_script.specs.Digits.{SpellsBytes}
use Rattle.gen_text.specs.Fields.{line_of, text_of}
use Rattle.gen_prepare.specs.NetText.{FitBytes, net_lines}

-- The line spells the root in 64 hexadecimal digits behind a word.
pub record SpellsRoot (line root : List ℕ) : Type 0 where
  pub digits : List ℕ
  pub line_is : line ≡ line_of (codes "root" ∷ digits ∷ [])
  pub width : length digits ≡ 64
  pub root_is : SpellsBytes digits root

-- The lines spell these roots, one after another.
abbrev pub SpellRoots : List (List ℕ) → List (List ℕ) → Type 0
SpellRoots [] [] = Unit {0}
SpellRoots (line ∷ lines) (root ∷ roots) = SpellsRoot line root × SpellRoots lines roots
SpellRoots _ _ = ⊥

-- The text spells this header of this version. It gives numbers of at most 255 and edges that make its
-- network, then its roots, one for each general, and `end` is its last line.
pub record SpellsHeader (version : Version) (text : List ℕ) (h : RunHeader) : Type 0 where
  pub numbers : NetNumbers
  pub edges : List (ℕ × ℕ)
  pub roots : List (List ℕ)
  pub text_is : text ≡ text_of (map line_of (net_lines numbers edges) ++ (roots ++ codes "end" ∷ []))
  pub bytes : FitBytes numbers edges
  pub network : network_of numbers edges ≡ Ok h.network
  pub roots_are : SpellRoots roots h.roots
  pub one_each : length h.roots ≡ h.network.generals
  pub version_is : h.version ≡ version
