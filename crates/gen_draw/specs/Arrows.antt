-- The arrows of messages.
use Rattle.std.specs.Prelude.{ℕ, List, ◌++◌, codes, length}
use Rattle.std.specs.List.{flat_map}
use Rattle.std.specs.Fmt.{decimal}
use Rattle.gen_net.specs.declared.message.Message.{Message}
use Rattle.gen_draw.specs.declared.arrow.Arrow.{Arrow}
use Rattle.gen_draw.specs.declared.arrow.ToldBy.{ToldBy}
use Rattle.gen_draw.specs.declared.arrow.ToldBy.TheVariants.{Both, Sender, Receiver}
use Rattle.gen_draw.specs.declared.grid.Grid.{Grid}
use Rattle.gen_draw.specs.Grid.{lane_of, middle_at, tip_at}
use Rattle.gen_draw.specs.Rows.{middle_of, row_of}
use Rattle.gen_draw.specs.Shapes.{words_at}

-- the line from the sender to the receiver, in the column of the round and the lane of the order
unfoldable pub message_stroke : Grid → ℕ → ℕ → ℕ → ℕ → List ℕ
message_stroke grid from to round order =
    codes "<path d=\"M" ++ (decimal (lane_of grid round order) ++ (codes " " ++ (decimal (row_of from)
    ++ (codes "L" ++ (decimal (tip_at grid round order) ++ (codes " " ++ (decimal (row_of to)
    ++ codes "\"/>")))))))

-- the beginning of an arrow: whether it is solid or dashed, and the colour of the order; and as its title the
-- message in words, without its path
unfoldable pub arrow_opening : ToldBy → ℕ → ℕ → ℕ → ℕ → List ℕ
arrow_opening Both from to round order =
    codes "<g class=\"both o" ++ (decimal order ++ (codes "\"><title>from " ++ (decimal from
    ++ (codes " to " ++ (decimal to ++ (codes " round " ++ (decimal round ++ (codes " order "
    ++ (decimal order ++ codes " path")))))))))
arrow_opening _ from to round order =
    codes "<g class=\"alone o" ++ (decimal order ++ (codes "\"><title>from " ++ (decimal from
    ++ (codes " to " ++ (decimal to ++ (codes " round " ++ (decimal round ++ (codes " order "
    ++ (decimal order ++ codes " path")))))))))

-- a path in words
abbrev pub path_words : List ℕ → List ℕ
path_words path = flat_map (λ g. codes " " ++ decimal g) path

-- which logs have a message, in words
unfoldable pub told_words : ToldBy → ℕ → ℕ → List ℕ
told_words Both from to = codes ": both logs have it</title>"
told_words Sender from to = codes ": only the log of " ++ (decimal from ++ codes " has it</title>")
told_words Receiver from to = codes ": only the log of " ++ (decimal to ++ codes " has it</title>")

-- the arrow of a message that some shown log has: as its title the message in words, with its path and which
-- logs have it; its line; and the number of its order, at the middle of the line
unfoldable pub arrow_line : Grid → Arrow → List ℕ
arrow_line grid x =
    arrow_opening x.told x.message.from x.message.to (length x.message.path) x.message.order
    ++ (path_words x.message.path ++ (told_words x.told x.message.from x.message.to
    ++ (message_stroke grid x.message.from x.message.to (length x.message.path) x.message.order
    ++ (words_at (middle_at grid (length x.message.path) x.message.order)
    (middle_of x.message.from x.message.to)
    ++ (decimal x.message.order ++ codes "</text></g>\n")))))
