-- Findings, decisions and convictions, where a picture has them.
use Rattle.std.specs.Prelude.{ℕ, Bool, false, ◌||◌, ◌==◌, ◌+◌, ◌*◌, if◌then◌else◌, List, [], ◌++◌, codes}
use Rattle.std.specs.List.{flat_map}
use Rattle.std.specs.Fmt.{decimal}
use Rattle.gen_convict.specs.Evidence.{Accusation}
use Rattle.gen_convict.specs.First.{kind_of}
use Rattle.gen_match.specs.declared.finding.Finding.{Finding}
use Rattle.gen_match.specs.declared.finding.Finding.TheVariants.{Missing, Several, Unreadable, Foreign}
use Rattle.gen_match.specs.declared.finding.Finding.TheVariants.{Unsigned, Unsealed, Departs, Unmatched}
use Rattle.gen_match.specs.declared.finding.Finding.TheVariants.{Underivable, Unjoined, Nobody}
use Rattle.gen_report.specs.Findings.{finding_named}
use Rattle.gen_draw.specs.declared.grid.Grid.{Grid}
use Rattle.gen_draw.specs.Arrows.{message_stroke}
use Rattle.gen_draw.specs.Grid.{end_of, middle_at}
use Rattle.gen_draw.specs.Rows.{end_row, middle_of, note_row}
use Rattle.gen_draw.specs.Shapes.{words_at}

-- a finding in words, as a title
unfoldable pub found_front : List ℕ
found_front = codes "<g class=\"found\"><title>"

unfoldable pub found_opening : Finding → List ℕ
found_opening finding = found_front ++ (finding_named finding ++ codes "</title>")

-- a finding in words, to be read at a place
unfoldable pub found_words : ℕ → ℕ → Finding → List ℕ
found_words x y finding = words_at x y ++ (finding_named finding ++ codes "</text></g>\n")

-- the mark of a finding about a message, along the message's line; the words of different orders stand below
-- one another
unfoldable pub found_message : Grid → ℕ → ℕ → ℕ → ℕ → Finding → List ℕ
found_message grid from to round order finding =
    found_opening finding
    ++ (message_stroke grid from to round order
    ++ found_words (middle_at grid round order + 12) (middle_of from to + 11 * order) finding)

-- the mark of a finding about a message, or of the finding that there is nobody of the rest; nothing for any
-- other finding
unfoldable pub message_mark : Grid → Finding → List ℕ
message_mark grid (Missing general) = []
message_mark grid (Several general) = []
message_mark grid (Unreadable general fault) = []
message_mark grid (Foreign general) = []
message_mark grid (Unsigned general entry) = []
message_mark grid (Unsealed general) = []
message_mark grid (Departs general entry) = []
message_mark grid (Unmatched from to round order) =
    found_message grid from to round order (Unmatched from to round order)
message_mark grid (Underivable from to round order) =
    found_message grid from to round order (Underivable from to round order)
message_mark grid (Unjoined first second) = []
message_mark grid Nobody = found_opening Nobody ++ found_words 16 64 Nobody

-- whether a finding is marked at a general: it is about that general's log, or about a pair with that general
abbrev pub is_about : ℕ → Finding → Bool
is_about g (Missing general) = general == g
is_about g (Several general) = general == g
is_about g (Unreadable general fault) = general == g
is_about g (Foreign general) = general == g
is_about g (Unsigned general entry) = general == g
is_about g (Unsealed general) = general == g
is_about g (Departs general entry) = general == g
is_about g (Unmatched from to round order) = false
is_about g (Underivable from to round order) = false
is_about g (Unjoined first second) = first == g || second == g
is_about g Nobody = false

-- a finding in words, behind others on a line
unfoldable pub found_span : Finding → List ℕ
found_span finding =
    codes "<tspan class=\"found\" dx=\"8\"><title>" ++ (finding_named finding
    ++ (codes "</title>" ++ (finding_named finding ++ codes "</tspan>")))

abbrev pub found_at : ℕ → Finding → List ℕ
found_at g finding = if is_about g finding then found_span finding else []

-- what a general decided, in the colour of the order
unfoldable pub decided_span : ℕ → ℕ → List ℕ
decided_span general order =
    codes "<tspan class=\"o" ++ (decimal order ++ (codes "\" dx=\"8\"><title>general " ++ (decimal general
    ++ (codes " decides order " ++ (decimal order ++ (codes "</title>decides " ++ (decimal order
    ++ codes "</tspan>")))))))

abbrev pub decided_at : ℕ → ℕ × ℕ → List ℕ
decided_at g d = if d.0 == g then decided_span d.0 d.1 else []

-- the kind of evidence by which a general is convicted
unfoldable pub convicted_span : ℕ → ℕ → List ℕ
convicted_span general kind =
    codes "<tspan class=\"found\" dx=\"8\"><title>general " ++ (decimal general
    ++ (codes " is convicted by K" ++ (decimal kind ++ (codes "</title>K" ++ (decimal kind
    ++ codes "</tspan>")))))

abbrev pub convicted_at : ℕ → Accusation → List ℕ
convicted_at g x = if x.accused == g then convicted_span x.accused (kind_of x.claim) else []

-- the words at the end of a general's line: its decision, and behind it its conviction
unfoldable pub end_line : Grid → List (ℕ × ℕ) → List Accusation → ℕ → List ℕ
end_line grid decided convictions general =
    words_at (end_of grid) (end_row general)
    ++ (flat_map (decided_at general) decided
    ++ (flat_map (convicted_at general) convictions ++ codes "</text>\n"))

-- the words below a general's line: the findings that are marked at it
unfoldable pub note_line : List Finding → ℕ → List ℕ
note_line findings general =
    words_at 16 (note_row general) ++ (flat_map (found_at general) findings ++ codes "</text>\n")
