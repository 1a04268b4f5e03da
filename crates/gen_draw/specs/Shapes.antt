-- The shapes of a picture, and its beginning.
use Rattle.std.specs.Prelude.{ℕ, List, ◌++◌, codes}
use Rattle.std.specs.Fmt.{decimal}

-- the beginning of a picture of a width and a height, in pixels
unfoldable pub opening_of : ℕ → ℕ → List ℕ
opening_of width height =
    codes "<svg xmlns=\"http://www.w3.org/2000/svg\" width=\"" ++ (decimal width
    ++ (codes "\" height=\"" ++ (decimal height ++ (codes "\" viewBox=\"0 0 " ++ (decimal width
    ++ (codes " " ++ (decimal height ++ codes "\">\n")))))))

-- the beginning of words that stand at a place
unfoldable pub words_at : ℕ → ℕ → List ℕ
words_at x y = codes "<text x=\"" ++ (decimal x ++ (codes "\" y=\"" ++ (decimal y ++ codes "\">")))

-- the head of an arrow in the colour of an order
unfoldable pub head_of : ℕ → List ℕ
head_of order =
    codes "<marker id=\"h" ++ (decimal order ++ (codes "\" class=\"o" ++ (decimal order
    ++ (codes "\" viewBox=\"0 0 8 8\" refX=\"8\" refY=\"4\" markerWidth=\"6\" markerHeight=\"6\" "
    ++ codes "orient=\"auto\"><path d=\"M0 0L8 4L0 8z\"/></marker>\n"))))
