-- A header as lines.
use Rattle.std.specs.Prelude.{ℕ, ◌+◌, List, [], ◌∷◌, ◌++◌, codes}
use Rattle.std.specs.List.{flat_map}
use Rattle.std.specs.Fmt.{decimal}
use Rattle.hex.specs.Hex.{encode_lower}
use Rattle.gen_types.specs.ChoiceOf.{choice_number}
use Rattle.gen_net.specs.Network.{Network}
use Rattle.gen_net.specs.Header.{RunHeader, run_id_of}
use Rattle.gen_net.specs.Version.{slot_in}
use Rattle.gen_plan.specs.EqualRoots.{equal_roots}
use Rattle.gen_file.specs.EqualRootsText.{equal_roots_lines}
use Rattle.gen_file.specs.Kinds.{version_number}

-- the lines of the name of the format, with its version and the slot of the run, and of the run id
unfoldable pub format_lines : List ℕ → RunHeader → List ℕ
format_lines name h =
    codes "format " ++ name ++ codes " version " ++ decimal (version_number h.version)
    ++ codes " slot " ++ decimal (slot_in h.version) ++ codes "\nrun " ++ encode_lower (run_id_of h)
    ++ codes "\n"

-- the numbers of a network, a line each
unfoldable pub number_lines : Network → List ℕ
number_lines net =
    codes "generals " ++ decimal net.generals ++ codes "\ntraitors " ++ decimal net.traitors
    ++ codes "\ndiameter " ++ decimal net.diameter ++ codes "\norders " ++ decimal net.orders
    ++ codes "\nchoice " ++ decimal (choice_number net.choice) ++ codes "\n"

-- the line of an edge
abbrev pub edge_line : ℕ × ℕ → List ℕ
edge_line e = codes "edge " ++ decimal e.0 ++ codes " " ++ decimal e.1 ++ codes "\n"

-- the line of the root of a general, and the lines of those from this general on
unfoldable pub root_line : ℕ → List ℕ → List ℕ
root_line general root =
    codes "root " ++ decimal general ++ codes " " ++ encode_lower root ++ codes "\n"

abbrev pub root_lines : ℕ → List (List ℕ) → List ℕ
root_lines general [] = []
root_lines general (root ∷ roots) = root_line general root ++ root_lines (general + 1) roots

-- the lines of a header behind a format's name: format, run id, numbers, edges, roots, and pairs of equal
-- roots
unfoldable pub header_lines : List ℕ → RunHeader → List ℕ
header_lines name h =
    format_lines name h ++ number_lines h.network ++ flat_map edge_line h.network.edges
    ++ root_lines 0 h.roots ++ equal_roots_lines (equal_roots h)
