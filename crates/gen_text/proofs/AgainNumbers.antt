-- The first lines that are spelled so are read.
use Rattle.std.proofs.Common.{◌≡◌, ℕ, ◌+◌, ◌<◌, ltb, true, List, [], ◌∷◌, ◌++◌, map, codes, Some, Ok, refl, ap, ◌∙◌, append_assoc, arith}
use Rattle.std.specs.List.{AllByRecursion}
use Rattle.std.specs.Fmt.{decimal}
use Rattle.std.proofs.lemmas.Bool.{lt-ltb}
use Rattle.std.proofs.lemmas.List.{map-append}
use Rattle.std.proofs.lemmas.Simd.{map-map}
use Rattle.gen_net.specs.Network.{Network}
use Rattle.gen_net.specs.NetworkOf.{network_of}
use Rattle.gen_text.specs.Fields.{line_of, said, edge_line}
use Rattle.gen_text.specs.EdgeReading.{edge_in, edge_lines_at}
use Rattle.gen_text.specs.NumbersReading.{opening_at, settings_at, order_at, plain_at}
use Rattle.gen_text.specs.Scenario.{Given, given_lines, AreBytes}
use Rattle.gen_text.proofs.AgainLines.{IsField, word, decimal_field, IsLine, AreFields, fields_line, said_line, IsGoing, going_behind, fields_again, digits_again, behind_again, numbered_again}
use Rattle.gen_text.proofs.FoundNumbers.{FitsByte}

abbrev pub edges_of : List (ℕ × ℕ) → List (List ℕ)
edges_of es = map (λ e. line_of (edge_line e)) es

edge_fields : (e : ℕ × ℕ) → FitsByte e → AreFields (edge_line e)
edge_fields e h = fields_line (codes "edge") (decimal e.0 ∷ decimal e.1 ∷ []) (word (codes "edge") refl (omega arith), (decimal_field e.0 h.0, (decimal_field e.1 h.1, tt))) (omega arith)

edge_again : (k : ℕ) (e : ℕ × ℕ) → FitsByte e → edge_in k (edge_line e) ≡ Ok (Some e)
unfolding edge_in
edge_again k e h = rw (digits_again k e.0 h.0, digits_again k e.1 h.1) refl

abbrev pub traitors_line : ℕ → List ℕ
traitors_line m = line_of (said (codes "traitors") m)

traitors_fields : (m : ℕ) → m < 256 → AreFields (said (codes "traitors") m)
traitors_fields m lt = said_line (codes "traitors") m (word (codes "traitors") refl (omega arith)) lt

edges_again : (k : ℕ) (es : List (ℕ × ℕ)) (m : ℕ) (more : List (List ℕ)) → AllByRecursion FitsByte es → m < 256 → IsGoing more
    → (j : ℕ) × (edge_lines_at k (edges_of es ++ (traitors_line m ∷ more)) ≡ Ok (record { found = es; next = record { number = j; bytes = traitors_line m; fields = said (codes "traitors") m }; after = record { line = j + 1; parts = more } }))
unfolding edge_lines_at edge_in
edges_again k [] m more fits lt going = (k, rw (fields_again k (said (codes "traitors") m) more (traitors_fields m lt) going) refl)
edges_again k (e ∷ es) m more fits lt going =
    let rest = edges_again (k + 1) es m more fits.1 lt going in
    (rest.0, rw (fields_again k (edge_line e) (edges_of es ++ (traitors_line m ∷ more)) (edge_fields e fits.0) (going_behind (edges_of es) (traitors_line m) more), edge_again k e fits.0, rest.1) refl)

pub opening_again : (k n : ℕ) (es : List (ℕ × ℕ)) (m : ℕ) (more : List (List ℕ)) → n < 256 → AllByRecursion FitsByte es → m < 256 → IsGoing more
    → (j : ℕ) × (opening_at (record { line = k; parts = line_of (said (codes "generals") n) ∷ (edges_of es ++ (traitors_line m ∷ more)) }) ≡ Ok (record { generals = n; edges = es; traitors = m; after = record { line = j + 1; parts = more } }))
unfolding opening_at
opening_again k n es m more small fits little going =
    let edges = edges_again (k + 1) es m more fits little going in
    (edges.0, rw (numbered_again k n (codes "generals") (edges_of es ++ (traitors_line m ∷ more)) (word (codes "generals") refl (omega arith)) small (going_behind (edges_of es) (traitors_line m) more), edges.1, behind_again edges.0 m (codes "traitors") little) refl)

pub settings_again : (k d q c : ℕ) (more : List (List ℕ)) → d < 256 → q < 256 → c < 256 → IsGoing more
    → settings_at (record { line = k; parts = line_of (said (codes "diameter") d) ∷ line_of (said (codes "orders") q) ∷ line_of (said (codes "choice") c) ∷ more }) ≡ Ok (record { diameter = d; orders = q; choice = c; line = (k + 1) + 1; after = record { line = ((k + 1) + 1) + 1; parts = more } })
unfolding settings_at
settings_again k d q c more ld lq lc going =
    rw (
      numbered_again k d (codes "diameter") (line_of (said (codes "orders") q) ∷ line_of (said (codes "choice") c) ∷ more) (word (codes "diameter") refl (omega arith)) ld (going_behind [] (line_of (said (codes "orders") q)) (line_of (said (codes "choice") c) ∷ more)),
      numbered_again (k + 1) q (codes "orders") (line_of (said (codes "choice") c) ∷ more) (word (codes "orders") refl (omega arith)) lq (going_behind [] (line_of (said (codes "choice") c)) more),
      numbered_again ((k + 1) + 1) c (codes "choice") more (word (codes "choice") refl (omega arith)) lc going,
    ) refl

order_again : (net : Network) (k v : ℕ) (more : List (List ℕ)) → v < 256 → v < net.orders → IsGoing more
    → order_at net (record { line = k; parts = line_of (said (codes "order") v) ∷ more }) ≡ Ok (record { net = net; order = v }, record { line = k + 1; parts = more })
unfolding order_at
order_again net k v more lt known going =
    let below : ltb v net.orders ≡ true = lt-ltb _ _ known in
    rw (numbered_again k v (codes "order") more (word (codes "order") refl (omega arith)) lt going, below) refl

closing_of : Given → List (List (List ℕ))
closing_of g = said (codes "traitors") g.numbers.traitors ∷ said (codes "diameter") g.numbers.diameter ∷ said (codes "orders") g.numbers.orders ∷ said (codes "choice") g.numbers.choice ∷ said (codes "order") g.order ∷ []

abbrev in_order : Given → List (List ℕ) → List (List ℕ)
in_order g more = line_of (said (codes "generals") g.numbers.generals) ∷ (edges_of g.edges ++ (traitors_line g.numbers.traitors ∷ line_of (said (codes "diameter") g.numbers.diameter) ∷ line_of (said (codes "orders") g.numbers.orders) ∷ line_of (said (codes "choice") g.numbers.choice) ∷ line_of (said (codes "order") g.order) ∷ more))

regrouped : (g : Given) (more : List (List ℕ)) → map line_of (given_lines g) ++ more ≡ in_order g more
unfolding closing_of
regrouped g more =
    ap (λ (r : List (List ℕ)). line_of (said (codes "generals") g.numbers.generals) ∷ r)
    (ap (λ (r : List (List ℕ)). r ++ more) (map-append line_of (map edge_line g.edges) (closing_of g) ∙ ap (λ (r : List (List ℕ)). r ++ map line_of (closing_of g)) (map-map line_of edge_line g.edges))
    ∙ append_assoc (edges_of g.edges) (map line_of (closing_of g)) more)

-- the lines of a text's first part are lines
pub lines_behind : (es : List (ℕ × ℕ)) (ls : List (List (List ℕ))) → AllByRecursion FitsByte es → AllByRecursion IsLine (map line_of ls) → AllByRecursion IsLine (map line_of (map edge_line es ++ ls))
lines_behind [] ls h k = k
lines_behind (e ∷ es) ls h k = ((edge_fields e h.0).line, lines_behind es ls h.1 k)

pub a_line : (w : List ℕ) (n : ℕ) → IsField w → n < 256 → IsLine (line_of (said w n))
a_line w n h lt = (said_line w n h lt).line

pub given_are_lines : (g : Given) → AreBytes g → AllByRecursion IsLine (map line_of (given_lines g))
given_are_lines g n = (
  a_line (codes "generals") g.numbers.generals (word _ refl (omega arith)) n.generals,
  lines_behind g.edges _ n.edges (
    a_line (codes "traitors") g.numbers.traitors (word _ refl (omega arith)) n.traitors,
    (
      a_line (codes "diameter") g.numbers.diameter (word _ refl (omega arith)) n.diameter,
      (
        a_line (codes "orders") g.numbers.orders (word _ refl (omega arith)) n.orders,
        (
          a_line (codes "choice") g.numbers.choice (word _ refl (omega arith)) n.choice,
          (a_line (codes "order") g.order (word _ refl (omega arith)) n.order, tt),
        ),
      ),
    ),
  ),
)

pub plain_again : (k : ℕ) (g : Given) (net : Network) (more : List (List ℕ)) → AreBytes g → network_of g.numbers g.edges ≡ Ok net → g.order < net.orders → IsGoing more
    → (j : ℕ) × (plain_at (record { line = k; parts = map line_of (given_lines g) ++ more }) ≡ Ok (record { net = net; order = g.order }, record { line = j; parts = more }))
unfolding plain_at
plain_again k g net more n made known going =
    let tail : List (List ℕ) = line_of (said (codes "diameter") g.numbers.diameter) ∷ line_of (said (codes "orders") g.numbers.orders) ∷ line_of (said (codes "choice") g.numbers.choice) ∷ line_of (said (codes "order") g.order) ∷ more in
    let after_traitors : IsGoing tail = going_behind [] (line_of (said (codes "diameter") g.numbers.diameter)) (line_of (said (codes "orders") g.numbers.orders) ∷ line_of (said (codes "choice") g.numbers.choice) ∷ line_of (said (codes "order") g.order) ∷ more) in
    let o = opening_again k g.numbers.generals g.edges g.numbers.traitors tail n.generals n.edges n.traitors after_traitors in
    let made' : network_of (record { generals = g.numbers.generals; traitors = g.numbers.traitors; diameter = g.numbers.diameter; orders = g.numbers.orders; choice = g.numbers.choice }) g.edges ≡ Ok net = made in (
      (((o.0 + 1) + 1) + 1) + 1 + 1,
      rw (
        regrouped g more,
        o.1,
        settings_again (o.0 + 1) g.numbers.diameter g.numbers.orders g.numbers.choice (line_of (said (codes "order") g.order) ∷ more) n.diameter n.orders n.choice (going_behind [] (line_of (said (codes "order") g.order)) more),
        made',
        order_again net ((((o.0 + 1) + 1) + 1) + 1) g.order more n.order known going,
      ) refl,
    )
