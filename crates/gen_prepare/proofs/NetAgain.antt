-- The lines of a network that are spelled so are read.
use Rattle.std.proofs.Common.{◌≡◌, ℕ, ◌+◌, List, [], ◌∷◌, ◌++◌, map, codes, Ok, refl, ap, ◌∙◌, append_assoc, arith}
use Rattle.std.specs.List.{AllByRecursion}
use Rattle.std.proofs.lemmas.List.{map-append}
use Rattle.std.proofs.lemmas.Simd.{map-map}
use Rattle.gen_net.specs.declared.numbers.NetNumbers.{NetNumbers}
use Rattle.gen_net.specs.Network.{Network}
use Rattle.gen_net.specs.NetworkOf.{network_of}
use Rattle.gen_text.specs.Fields.{line_of, said, edge_line}
use Rattle.gen_text.proofs.AgainLines.{word, IsLine, IsGoing, going_behind}
use Rattle.gen_text.proofs.AgainNumbers.{edges_of, traitors_line, opening_again, settings_again, lines_behind, a_line}
use Rattle.gen_prepare.specs.NetText.{FitBytes, net_at, net_lines}

closing_of : NetNumbers → List (List (List ℕ))
closing_of n = said (codes "traitors") n.traitors ∷ said (codes "diameter") n.diameter ∷ said (codes "orders") n.orders ∷ said (codes "choice") n.choice ∷ []

abbrev in_order : NetNumbers → List (ℕ × ℕ) → List (List ℕ) → List (List ℕ)
in_order n edges more = line_of (said (codes "generals") n.generals) ∷ (edges_of edges ++ (traitors_line n.traitors ∷ line_of (said (codes "diameter") n.diameter) ∷ line_of (said (codes "orders") n.orders) ∷ line_of (said (codes "choice") n.choice) ∷ more))

regrouped : (n : NetNumbers) (edges : List (ℕ × ℕ)) (more : List (List ℕ)) → map line_of (net_lines n edges) ++ more ≡ in_order n edges more
unfolding closing_of
regrouped n edges more =
    ap (λ (r : List (List ℕ)). line_of (said (codes "generals") n.generals) ∷ r)
    (ap (λ (r : List (List ℕ)). r ++ more) (map-append line_of (map edge_line edges) (closing_of n) ∙ ap (λ (r : List (List ℕ)). r ++ map line_of (closing_of n)) (map-map line_of edge_line edges))
    ∙ append_assoc (edges_of edges) (map line_of (closing_of n)) more)

-- the lines of a text's first part are lines
pub net_are_lines : (n : NetNumbers) (edges : List (ℕ × ℕ)) → FitBytes n edges → AllByRecursion IsLine (map line_of (net_lines n edges))
net_are_lines n edges fit = (
  a_line (codes "generals") n.generals (word _ refl (omega arith)) fit.generals,
  lines_behind edges _ fit.edges (
    a_line (codes "traitors") n.traitors (word _ refl (omega arith)) fit.traitors,
    (
      a_line (codes "diameter") n.diameter (word _ refl (omega arith)) fit.diameter,
      (a_line (codes "orders") n.orders (word _ refl (omega arith)) fit.orders, (a_line (codes "choice") n.choice (word _ refl (omega arith)) fit.choice, tt)),
    ),
  ),
)

-- where the lines of the network end
pub record NetRead (k : ℕ) (n : NetNumbers) (edges : List (ℕ × ℕ)) (net : Network) (more : List (List ℕ)) : Type 0 where
  pub line : ℕ
  pub is_read : net_at (record { line = k; parts = map line_of (net_lines n edges) ++ more }) ≡ Ok (net, record { line = line; parts = more })

pub net_again : (k : ℕ) (n : NetNumbers) (edges : List (ℕ × ℕ)) (net : Network) (more : List (List ℕ)) → FitBytes n edges → network_of n edges ≡ Ok net → IsGoing more → NetRead k n edges net more
unfolding net_at
net_again k n edges net more fit made going =
    let tail : List (List ℕ) = line_of (said (codes "diameter") n.diameter) ∷ line_of (said (codes "orders") n.orders) ∷ line_of (said (codes "choice") n.choice) ∷ more in
    let after_traitors : IsGoing tail = going_behind [] (line_of (said (codes "diameter") n.diameter)) (line_of (said (codes "orders") n.orders) ∷ line_of (said (codes "choice") n.choice) ∷ more) in
    let o = opening_again k n.generals edges n.traitors tail fit.generals fit.edges fit.traitors after_traitors in
    let made' : network_of (record { generals = n.generals; traitors = n.traitors; diameter = n.diameter; orders = n.orders; choice = n.choice }) edges ≡ Ok net = made in
    record {
      line = (((o.0 + 1) + 1) + 1) + 1;
      is_read = rw (
        regrouped n edges more,
        o.1,
        settings_again (o.0 + 1) n.diameter n.orders n.choice more fit.diameter fit.orders fit.choice going,
        made',
      ) refl;
    }
