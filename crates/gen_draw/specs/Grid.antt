-- How far to the right things stand in a picture, in pixels from the left; rounds are columns.
use Rattle.std.specs.Prelude.{ℕ, ◌+◌, ◌*◌}
use Rattle.gen_draw.specs.declared.grid.Grid.{Grid}
use Rattle.gen_draw.specs.Rows.{legend_row}

-- the distance to the right from a message's beginning to its middle, which grows with the number of generals
unfoldable pub half_reach : Grid → ℕ
half_reach grid = 12 + 6 * grid.generals

-- the width of a round's column: room for each order and for a message, and a gap
unfoldable pub round_width : Grid → ℕ
round_width grid = 24 + 12 * grid.orders + 2 * half_reach grid

-- where a round's column begins; column 0 has the names, and the column after the last round the decisions
unfoldable pub column_of : Grid → ℕ → ℕ
column_of grid round = 16 + round_width grid * round

-- where the lines of generals end
abbrev pub end_of : Grid → ℕ
end_of grid = column_of grid (grid.rounds + 1)

-- where the messages of an order begin in a round's column: to the right of those of the order before
unfoldable pub lane_of : Grid → ℕ → ℕ → ℕ
lane_of grid round order = column_of grid round + 8 + 12 * order

-- where the messages of an order in a round have their middle, and where they end
abbrev pub middle_at : Grid → ℕ → ℕ → ℕ
middle_at grid round order = lane_of grid round order + half_reach grid

abbrev pub tip_at : Grid → ℕ → ℕ → ℕ
tip_at grid round order = lane_of grid round order + 2 * half_reach grid

-- the width and the height of the picture
unfoldable pub width_of : Grid → ℕ
width_of grid = end_of grid + 260

unfoldable pub height_of : Grid → ℕ
height_of grid = legend_row grid.generals grid.orders + 60
