-- The picture of the runs of a campaign: those of its bundles, one below the other.
use Rattle.std.specs.Prelude.{ℕ, ◌+◌, ◌*◌, min, max, List, [], ◌∷◌, ◌++◌, length, map, codes}
use Rattle.std.specs.Prelude.{Option, Some, None}
use Rattle.std.specs.List.{flat_map, position}
use Rattle.std.specs.Fmt.{decimal}
use Rattle.gen_net.specs.Header.{RunHeader}
use Rattle.gen_net.specs.SameHeaders.{same_header}
use Rattle.gen_convict.specs.Contradictions.{Claim, AcrossRuns}
use Rattle.gen_convict.specs.Evidence.{Accusation, told_of}
use Rattle.gen_convict.specs.First.{kind_of}
use Rattle.gen_audit.specs.Bundle.{Bundle}
use Rattle.gen_audit.specs.declared.verdicts.Judgement.{Judgement}
use Rattle.gen_draw.specs.declared.grid.Grid.{Grid}
use Rattle.gen_draw.specs.Grid.{height_of, width_of}
use Rattle.gen_draw.specs.Page.{heads_of}
use Rattle.gen_draw.specs.Picture.{grid_of, run_part}
use Rattle.gen_draw.specs.Shapes.{opening_of}
use Rattle.gen_draw.specs.Style.{style}

-- the size of the picture of a bundle: its generals, orders and rounds
abbrev pub grid_in : Bundle → Grid
grid_in b = grid_of b.header.network

-- how far down the pictures of bundles end, if the first begins at a height
abbrev pub bottom_from : ℕ → List Bundle → ℕ
bottom_from down [] = down
bottom_from down (b ∷ bundles) = bottom_from (down + height_of (grid_in b)) bundles

-- the width of the widest picture of bundles, or this width if it is greater
abbrev pub widest_from : ℕ → List Bundle → ℕ
widest_from width [] = width
widest_from width (b ∷ bundles) = widest_from (max width (width_of (grid_in b))) bundles

-- the height of the lines of the generals that are convicted across runs, of which there are at most 16
unfoldable pub across_height : ℕ → ℕ
across_height count = 24 + 18 * min count 16

-- the picture of a run at a height
unfoldable pub run_opening : ℕ → List ℕ
run_opening down = codes "<g transform=\"translate(0 " ++ (decimal down ++ codes ")\">\n")

unfoldable pub run_at : ℕ → Bundle → Judgement → List ℕ
run_at down b j =
    run_opening down ++ (opening_of (width_of (grid_in b)) (height_of (grid_in b))
    ++ (run_part b.header b.faulty b.exhibits j.verdict (map told_of j.convictions.items) ++ codes "</g>\n"))

-- the pictures of runs, each below the one before it, as far as there are judgements
abbrev pub runs_from : ℕ → List Bundle → List Judgement → List ℕ
runs_from down [] judgements = []
runs_from down (b ∷ bundles) [] = []
runs_from down (b ∷ bundles) (j ∷ judgements) =
    run_at down b j ++ runs_from (down + height_of (grid_in b)) bundles judgements

-- the place of the first run with this header, counted from 0; none if there is no such run
abbrev pub place_with : List Bundle → RunHeader → Option ℕ
place_with bundles h = position (λ b. same_header b.header h) bundles

-- the place of a run in words, if it has one
abbrev pub place_words : Option ℕ → List ℕ
place_words None = []
place_words (Some place) = codes " " ++ decimal place

-- which general is convicted, and by which kind of claim
unfoldable pub convicted_words : ℕ → ℕ → List ℕ
convicted_words accused kind =
    codes "general " ++ (decimal accused ++ (codes " is convicted by K" ++ decimal kind))

-- the places of the two runs that a claim is across; nothing for a claim within one run
unfoldable pub across_words : List Bundle → Claim → List ℕ
across_words bundles (AcrossRuns x y) =
    codes " across"
    ++ (place_words (place_with bundles x.header) ++ place_words (place_with bundles y.header))
across_words bundles claim = []

-- the kind by which the verdict names a claim: two texts under one leaf are of kind 1 across two runs too
abbrev pub kind_across : Claim → ℕ
kind_across (AcrossRuns x y) = 1
kind_across claim = kind_of claim

-- which general is convicted, by which kind of claim, and across which runs
abbrev pub both_words : List Bundle → Accusation → List ℕ
both_words bundles x = convicted_words x.accused (kind_across x.claim) ++ across_words bundles x.claim

-- the line of a general that is convicted across runs, with a title
unfoldable pub across_span : List Bundle → Accusation → List ℕ
across_span bundles x =
    codes "<tspan class=\"found\" x=\"16\" dy=\"18\"><title>" ++ (both_words bundles x
    ++ (codes "</title>" ++ (both_words bundles x ++ codes "</tspan>\n")))

-- below the runs, the generals that are convicted across them, and the end of the text
unfoldable pub across_opening : ℕ → List ℕ
across_opening down = codes "<text x=\"16\" y=\"" ++ (decimal down ++ codes "\">\n")

unfoldable pub across_part : ℕ → List Bundle → List Accusation → List ℕ
across_part down bundles across =
    across_opening down ++ (flat_map (across_span bundles) across ++ codes "</text>\n</svg>\n")

-- the number of runs, as the title of the picture
unfoldable pub several_title : ℕ → List ℕ
several_title count = codes "<title>campaign of " ++ (decimal count ++ codes " runs</title>\n")

-- the beginning of the page: its size, its style, the heads of arrows for all orders that a run can have, and
-- the number of runs
unfoldable pub several_front : List Bundle → ℕ → List ℕ
several_front bundles convicted =
    opening_of (widest_from 0 bundles) (bottom_from 0 bundles + across_height convicted)
    ++ (style ++ (heads_of (record { generals = 16; orders = 15; rounds = 16 })
    ++ several_title (length bundles)))

-- The picture of a campaign: of its bundles, the judgements on them, and the generals that are convicted
-- across runs.
unfoldable pub several_picture : List Bundle → List Judgement → List Accusation → List ℕ
several_picture bundles judgements across =
    several_front bundles (length across)
    ++ (runs_from 0 bundles judgements ++ across_part (bottom_from 0 bundles) bundles across)
