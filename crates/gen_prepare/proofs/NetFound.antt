-- The lines of a network that are read are spelled so.
use Rattle.std.proofs.Common.{◌≡◌, ℕ, List, [], ◌∷◌, ◌++◌, map, codes, Ok, sym, ap, ◌∙◌, append_assoc}
use Rattle.std.proofs.lemmas.List.{map-append}
use Rattle.std.proofs.lemmas.Simd.{map-map}
use Rattle.gen_types.specs.Reading.{◌>>=◌}
use Rattle.gen_types.proofs.Steps.{after, at_end, mapped_ok}
use Rattle.gen_net.specs.declared.numbers.NetNumbers.{NetNumbers}
use Rattle.gen_net.specs.Network.{Network}
use Rattle.gen_net.specs.NetworkOf.{network_of}
use Rattle.gen_text.specs.declared.fault.LineFault.TheVariants as faults
use Rattle.gen_text.specs.declared.fault.ScenarioFault.{ScenarioFault}
use Rattle.gen_text.specs.Fields.{line_of, said, edge_line}
use Rattle.gen_text.specs.Cursor.{Cursor}
use Rattle.gen_text.specs.LineReading.{fault_at}
use Rattle.gen_text.specs.NumbersReading.{Opening, Settings, opening_at, settings_at, numbers_said, network_at}
use Rattle.gen_prepare.specs.NetText.{FitBytes, net_at, net_lines}
use Rattle.gen_text.proofs.Stepping.{done}
use Rattle.gen_text.proofs.FoundNumbers.{OpeningOf, SettingsOf, opening_found, settings_found}

-- the network of the first lines, and the lines after them
pub record NetOf (c : Cursor) (x : Network × Cursor) : Type 0 where
  pub numbers : NetNumbers
  pub edges : List (ℕ × ℕ)
  pub lines : c.parts ≡ map line_of (net_lines numbers edges) ++ x.1.parts
  pub bytes : FitBytes numbers edges
  pub network : network_of numbers edges ≡ Ok x.0

lines_are : (c : Cursor) (o : Opening) (s : Settings) → OpeningOf c o → SettingsOf o.after s → c.parts ≡ map line_of (net_lines (numbers_said o s) o.edges) ++ s.after.parts
lines_are c o s first then =
    let closing : List (List (List ℕ)) = said (codes "traitors") o.traitors ∷ said (codes "diameter") s.diameter ∷ said (codes "orders") s.orders ∷ said (codes "choice") s.choice ∷ [] in
    let tail : line_of (said (codes "traitors") o.traitors) ∷ o.after.parts ≡ map line_of closing ++ s.after.parts =
    ap (λ (r : List (List ℕ)). line_of (said (codes "traitors") o.traitors) ∷ r) then.lines in
    let edges : map line_of (map edge_line o.edges ++ closing) ++ s.after.parts ≡ map (λ e. line_of (edge_line e)) o.edges ++ (map line_of closing ++ s.after.parts) =
    ap (λ (r : List (List ℕ)). r ++ s.after.parts) (map-append line_of (map edge_line o.edges) closing ∙ ap (λ (r : List (List ℕ)). r ++ map line_of closing) (map-map line_of edge_line o.edges)) ∙ append_assoc (map (λ e. line_of (edge_line e)) o.edges) (map line_of closing) s.after.parts in
    first.lines ∙ ap (λ (r : List (List ℕ)). line_of (said (codes "generals") o.generals) ∷ r) (ap (λ (r : List (List ℕ)). map (λ e. line_of (edge_line e)) o.edges ++ r) tail ∙ sym edges)

net_made : (c : Cursor) (o : Opening) (s : Settings) (net : Network) → OpeningOf c o → SettingsOf o.after s → network_of (numbers_said o s) o.edges ≡ Ok net → NetOf c (net, s.after)
net_made c o s net first then is = record {
  numbers = numbers_said o s;
  edges = o.edges;
  lines = lines_are c o s first then;
  bytes = record { generals = first.generals; edges = first.edges; traitors = first.traitors; diameter = then.diameter; orders = then.orders; choice = then.choice };
  network = is;
}

pub net_found : (c : Cursor) (x : Network × Cursor) → net_at c ≡ Ok x → NetOf c x
unfolding net_at
net_found c x e =
    after (opening_at c) (λ o. settings_at o.after >>= λ s. network_at s.line (network_of (numbers_said o s) o.edges) >>= λ net. done (net, s.after)) x e (λ o r0 e0.
    after (settings_at o.after) (λ s. network_at s.line (network_of (numbers_said o s) o.edges) >>= λ net. done (net, s.after)) x e0 (λ s r1 e1.
    after (network_at s.line (network_of (numbers_said o s) o.edges)) (λ net. done (net, s.after)) x e1 (λ net r2 e2.
    at_end {F = ScenarioFault} (NetOf c) (net, s.after) x e2
    (net_made c o s net (opening_found c o r0) (settings_found o.after s r1) (mapped_ok (λ f. fault_at (faults.Network f) s.line) (network_of (numbers_said o s) o.edges) net r2)))))
