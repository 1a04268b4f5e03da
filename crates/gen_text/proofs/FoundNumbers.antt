-- The first lines that are read are spelled so.
use Rattle.std.proofs.Common.{◌≡◌, ℕ, ◌+◌, ◌<◌, Bool, true, false, cond, List, [], ◌∷◌, ◌++◌, map, codes, nat_lt, Option, Some, None, Result, Ok, refl, sym, ap, subst, ◌∙◌, append_assoc}
use Rattle.std.specs.List.{AllByRecursion}
use Rattle.std.specs.Str.{bytes_eq}
use Rattle.std.specs.Fmt.{decimal}
use Rattle.std.proofs.lemmas.Bool.{ltb-true}
use Rattle.std.proofs.lemmas.List.{map-append}
use Rattle.std.proofs.lemmas.Simd.{map-map}
use Rattle.std.proofs.lemmas.Slice.Eq.{bytes_eq-Decides}
use Rattle.gen_types.specs.Reading.{◌>>=◌, check}
use Rattle.gen_types.proofs.Steps.{after, after_check, at_end, mapped_ok}
use Rattle.gen_net.specs.Network.{Network}
use Rattle.gen_net.specs.NetworkOf.{network_of}
use Rattle.gen_scenario.specs.Scenario.{Plain}
use Rattle.gen_text.specs.declared.cursor.Numbered.{Numbered}
use Rattle.gen_text.specs.declared.fault.LineFault.TheVariants.{UnknownOrder}
use Rattle.gen_text.specs.declared.fault.LineFault.TheVariants as faults
use Rattle.gen_text.specs.declared.fault.ScenarioFault.{ScenarioFault}
use Rattle.gen_text.specs.Fields.{line_of, said, edge_line}
use Rattle.gen_text.specs.Cursor.{Cursor, Line}
use Rattle.gen_text.specs.LineReading.{fault_at, number_in, number_behind}
use Rattle.gen_text.specs.CursorReading.{next_line, numbered}
use Rattle.gen_text.specs.EdgeReading.{EdgeLines, after_edge, edge_in, edge_lines_at}
use Rattle.gen_text.specs.NumbersReading.{Opening, Settings, opening_at, settings_at, numbers_said, network_at, net_behind, order_at, plain_behind, plain_at}
use Rattle.gen_text.specs.Scenario.{Given, given_lines, AreBytes}
use Rattle.gen_text.proofs.Stepping.{done}
use Rattle.gen_text.proofs.FoundLines.{LineOf, line_found, first_is, digits_found, behind_found, NumberOf, numbered_found}

-- ---- edges

chosen : {P : Type 0} (b : Bool) (r : Result (Option (ℕ × ℕ)) ScenarioFault) (e : ℕ × ℕ) → cond b r (Ok None) ≡ Ok (Some e) → (b ≡ true → r ≡ Ok (Some e) → P) → P
chosen true r e h k = k refl h
chosen false r e h k = absurd cc

three : (w x y u v z : List ℕ) → w ≡ u → x ≡ v → y ≡ z → (w ∷ x ∷ y ∷ []) ≡ (u ∷ v ∷ z ∷ [])
three w x y u v z p q r = cc

abbrev some_edge : ℕ → ℕ → Result (Option (ℕ × ℕ)) ScenarioFault
some_edge a b = Ok (Some (a, b))

abbrev pub FitsByte : ℕ × ℕ → Type 0
FitsByte e = (e.0 < 256) × (e.1 < 256)

edge_found : (k : ℕ) (fs : List (List ℕ)) (e : ℕ × ℕ) → edge_in k fs ≡ Ok (Some e) → (fs ≡ edge_line e) × FitsByte e
unfolding edge_in
edge_found k [] e h = absurd cc
edge_found k (w ∷ []) e h = absurd cc
edge_found k (w ∷ x ∷ []) e h = absurd cc
edge_found k (w ∷ x ∷ y ∷ []) e h =
    chosen (bytes_eq w (codes "edge")) (number_in k x >>= λ a. number_in k y >>= λ b. some_edge a b) e h (λ word h0.
    after (number_in k x) (λ a. number_in k y >>= λ b. some_edge a b) (Some e) h0 (λ a first h1.
    after (number_in k y) (λ b. some_edge a b) (Some e) h1 (λ b second h2.
    let same : w ≡ codes "edge" = (bytes_eq-Decides w (codes "edge")).0 word in
    let da = digits_found k a x first in
    let db = digits_found k b y second in
    let pair : (a, b) ≡ e = cc in
    subst (λ (e : ℕ × ℕ). ((w ∷ x ∷ y ∷ []) ≡ edge_line e) × FitsByte e) pair (three w x y (codes "edge") (decimal a) (decimal b) same da.0 db.0, (da.1, db.1)))))
edge_found k (w ∷ x ∷ y ∷ z ∷ more) e h = absurd cc

-- the parts are lines of edges, a line that is none, and what follows it
record EdgesOf (ps : List (List ℕ)) (o : EdgeLines) : Type 0 where
  lines : ps ≡ map (λ e. line_of (edge_line e)) o.found ++ (line_of o.next.fields ∷ o.after.parts)
  small : AllByRecursion FitsByte o.found

after_found : (edge : Option (ℕ × ℕ)) (k : ℕ) (line : List ℕ) (more : List (List ℕ)) (l : Line × Cursor) (others : Result EdgeLines ScenarioFault) (o : EdgeLines) → LineOf (record { line = k; parts = line ∷ more }) l → edge_in l.0.number l.0.fields ≡ Ok edge
    → ((p : EdgeLines) → others ≡ Ok p → EdgesOf more p) → after_edge edge l others ≡ Ok o → EdgesOf (line ∷ more) o
after_found None k line more l others o f was each e =
    at_end {F = ScenarioFault} (EdgesOf (line ∷ more)) (record { found = []; next = l.0; after = l.1 }) o e (record { lines = first_is (record { line = k; parts = line ∷ more }) l l.0.fields f refl; small = tt })
after_found (Some x) k line more l others o f was each e =
    after others (λ p. done (record p { found = x ∷ p.found })) o e (λ p read made.
    let g = edge_found l.0.number l.0.fields x was in
    let t = each p read in
    let is = first_is (record { line = k; parts = line ∷ more }) l (edge_line x) f g.0 in
    let head : line ≡ line_of (edge_line x) = cc in
    at_end {F = ScenarioFault} (EdgesOf (line ∷ more)) (record p { found = x ∷ p.found }) o made
    (record { lines = ap (λ (l : List ℕ). l ∷ more) head ∙ ap (λ (m : List (List ℕ)). line_of (edge_line x) ∷ m) t.lines; small = (g.1, t.small) }))

edges_found : (k : ℕ) (ps : List (List ℕ)) (o : EdgeLines) → edge_lines_at k ps ≡ Ok o → EdgesOf ps o
unfolding edge_lines_at
edges_found k [] o e = absurd cc
edges_found k (line ∷ more) o e =
    after (next_line (record { line = k; parts = line ∷ more })) (λ l. edge_in l.0.number l.0.fields >>= λ edge. after_edge edge l (edge_lines_at (k + 1) more)) o e (λ l read e0.
    after (edge_in l.0.number l.0.fields) (λ edge. after_edge edge l (edge_lines_at (k + 1) more)) o e0 (λ edge was e1.
    let f = line_found (record { line = k; parts = line ∷ more }) l read in
    after_found edge k line more l (edge_lines_at (k + 1) more) o f was (λ p h. edges_found (k + 1) more p h) e1))

-- ---- the first lines

pub record OpeningOf (c : Cursor) (o : Opening) : Type 0 where
  pub lines : c.parts ≡ line_of (said (codes "generals") o.generals) ∷ (map (λ e. line_of (edge_line e)) o.edges ++ (line_of (said (codes "traitors") o.traitors) ∷ o.after.parts))
  pub edges : AllByRecursion FitsByte o.edges
  pub generals : o.generals < 256
  pub traitors : o.traitors < 256

abbrev opening_with : Numbered × Cursor → EdgeLines → ℕ → Opening
opening_with n edges m = record { generals = n.0.value; edges = edges.found; traitors = m; after = edges.after }

opening_made : (c : Cursor) (n : Numbered × Cursor) (edges : EdgeLines) (m : ℕ) → NumberOf (codes "generals") c n → EdgesOf n.1.parts edges → edges.next.fields ≡ said (codes "traitors") m → m < 256 → OpeningOf c (opening_with n edges m)
opening_made c n edges m first found next little = record {
  lines = first.parts ∙ ap (λ (r : List (List ℕ)). line_of (said (codes "generals") n.0.value) ∷ r) (found.lines ∙ ap (λ (fs : List (List ℕ)). map (λ e. line_of (edge_line e)) edges.found ++ (line_of fs ∷ edges.after.parts)) next);
  edges = found.small;
  generals = first.small;
  traitors = little;
}

pub opening_found : (c : Cursor) (o : Opening) → opening_at c ≡ Ok o → OpeningOf c o
unfolding opening_at
opening_found c o e =
    after (numbered (codes "generals") c) (λ n. edge_lines_at n.1.line n.1.parts >>= λ edges. number_behind edges.next.number (codes "traitors") edges.next.fields >>= λ m. done (opening_with n edges m)) o e (λ n r0 e0.
    after (edge_lines_at n.1.line n.1.parts) (λ edges. number_behind edges.next.number (codes "traitors") edges.next.fields >>= λ m. done (opening_with n edges m)) o e0 (λ edges r1 e1.
    after (number_behind edges.next.number (codes "traitors") edges.next.fields) (λ m. done (opening_with n edges m)) o e1 (λ m r2 e2.
    let next = behind_found edges.next.number m (codes "traitors") edges.next.fields r2 in
    at_end {F = ScenarioFault} (OpeningOf c) (opening_with n edges m) o e2
    (opening_made c n edges m (numbered_found (codes "generals") c n r0) (edges_found n.1.line n.1.parts edges r1) next.0 next.1))))

-- ---- the three lines of the settings

pub record SettingsOf (c : Cursor) (s : Settings) : Type 0 where
  pub lines : c.parts ≡ line_of (said (codes "diameter") s.diameter) ∷ line_of (said (codes "orders") s.orders) ∷ line_of (said (codes "choice") s.choice) ∷ s.after.parts
  pub diameter : s.diameter < 256
  pub orders : s.orders < 256
  pub choice : s.choice < 256

abbrev settings_with : Numbered × Cursor → Numbered × Cursor → Numbered × Cursor → Settings
settings_with d q c = record { diameter = d.0.value; orders = q.0.value; choice = c.0.value; line = c.0.line; after = c.1 }

settings_made : (start : Cursor) (d q c : Numbered × Cursor) → NumberOf (codes "diameter") start d → NumberOf (codes "orders") d.1 q → NumberOf (codes "choice") q.1 c → SettingsOf start (settings_with d q c)
settings_made start d q c fd fq fc = record {
  lines = fd.parts ∙ ap (λ (r : List (List ℕ)). line_of (said (codes "diameter") d.0.value) ∷ r) (fq.parts ∙ ap (λ (r : List (List ℕ)). line_of (said (codes "orders") q.0.value) ∷ r) fc.parts);
  diameter = fd.small;
  orders = fq.small;
  choice = fc.small;
}

pub settings_found : (start : Cursor) (s : Settings) → settings_at start ≡ Ok s → SettingsOf start s
unfolding settings_at
settings_found start s e =
    after (numbered (codes "diameter") start) (λ d. numbered (codes "orders") d.1 >>= λ q. numbered (codes "choice") q.1 >>= λ c. done (settings_with d q c)) s e (λ d r0 e0.
    after (numbered (codes "orders") d.1) (λ q. numbered (codes "choice") q.1 >>= λ c. done (settings_with d q c)) s e0 (λ q r1 e1.
    after (numbered (codes "choice") q.1) (λ c. done (settings_with d q c)) s e1 (λ c r2 e2.
    at_end {F = ScenarioFault} (SettingsOf start) (settings_with d q c) s e2
    (settings_made start d q c (numbered_found (codes "diameter") start d r0) (numbered_found (codes "orders") d.1 q r1) (numbered_found (codes "choice") q.1 c r2)))))

-- ---- the network and the order

record OrderOf (net : Network) (c : Cursor) (x : Plain × Cursor) : Type 0 where
  lines : c.parts ≡ line_of (said (codes "order") x.0.order) ∷ x.1.parts
  small : x.0.order < 256
  known : x.0.order < net.orders
  net_is : x.0.net ≡ net

order_found : (net : Network) (c : Cursor) (x : Plain × Cursor) → order_at net c ≡ Ok x → OrderOf net c x
unfolding order_at
order_found net c x e =
    after (numbered (codes "order") c) (λ v. check (nat_lt v.0.value net.orders) (fault_at UnknownOrder v.0.line) >>= λ known. done (record { net = net; order = v.0.value }, v.1)) x e (λ v r0 e0.
    after_check (nat_lt v.0.value net.orders) (fault_at UnknownOrder v.0.line) (λ known. done (record { net = net; order = v.0.value }, v.1)) x e0 (λ below e1.
    let f = numbered_found (codes "order") c v r0 in
    at_end {F = ScenarioFault} (OrderOf net c) (record { net = net; order = v.0.value }, v.1) x e1 (record { lines = f.parts; small = f.small; known = ltb-true _ _ below; net_is = refl })))

-- the network and the order of the first lines, and the lines after them
pub record PlainOf (c : Cursor) (x : Plain × Cursor) : Type 0 where
  pub given : Given
  pub lines : c.parts ≡ map line_of (given_lines given) ++ x.1.parts
  pub bytes : AreBytes given
  pub network : network_of given.numbers given.edges ≡ Ok x.0.net
  pub order : given.order ≡ x.0.order
  pub known : x.0.order < x.0.net.orders

abbrev given_by : Opening → Settings → ℕ → Given
given_by o s order = record { numbers = numbers_said o s; edges = o.edges; order = order }

lines_are : (c : Cursor) (o : Opening) (s : Settings) (net : Network) (x : Plain × Cursor) → OpeningOf c o → SettingsOf o.after s → OrderOf net s.after x → c.parts ≡ map line_of (given_lines (given_by o s x.0.order)) ++ x.1.parts
lines_are c o s net x first then last =
    let closing : List (List (List ℕ)) = said (codes "traitors") o.traitors ∷ said (codes "diameter") s.diameter ∷ said (codes "orders") s.orders ∷ said (codes "choice") s.choice ∷ said (codes "order") x.0.order ∷ [] in
    let tail : line_of (said (codes "traitors") o.traitors) ∷ o.after.parts ≡ map line_of closing ++ x.1.parts =
    ap (λ (r : List (List ℕ)). line_of (said (codes "traitors") o.traitors) ∷ r) (then.lines ∙ ap (λ (r : List (List ℕ)). line_of (said (codes "diameter") s.diameter) ∷ line_of (said (codes "orders") s.orders) ∷ line_of (said (codes "choice") s.choice) ∷ r) last.lines) in
    let edges : map line_of (map edge_line o.edges ++ closing) ++ x.1.parts ≡ map (λ e. line_of (edge_line e)) o.edges ++ (map line_of closing ++ x.1.parts) =
    ap (λ (r : List (List ℕ)). r ++ x.1.parts) (map-append line_of (map edge_line o.edges) closing ∙ ap (λ (r : List (List ℕ)). r ++ map line_of closing) (map-map line_of edge_line o.edges)) ∙ append_assoc (map (λ e. line_of (edge_line e)) o.edges) (map line_of closing) x.1.parts in
    first.lines ∙ ap (λ (r : List (List ℕ)). line_of (said (codes "generals") o.generals) ∷ r) (ap (λ (r : List (List ℕ)). map (λ e. line_of (edge_line e)) o.edges ++ r) tail ∙ sym edges)

plain_made : (c : Cursor) (o : Opening) (s : Settings) (net : Network) (x : Plain × Cursor) → OpeningOf c o → SettingsOf o.after s → network_of (numbers_said o s) o.edges ≡ Ok net → OrderOf net s.after x → PlainOf c x
plain_made c o s net x first then is last = record {
  given = given_by o s x.0.order;
  lines = lines_are c o s net x first then last;
  bytes = record { generals = first.generals; edges = first.edges; traitors = first.traitors; diameter = then.diameter; orders = then.orders; choice = then.choice; order = last.small };
  network = is ∙ ap (λ (n : Network). Ok n) (sym last.net_is);
  order = refl;
  known = rw last.net_is last.known;
}

pub plain_found : (c : Cursor) (x : Plain × Cursor) → plain_at c ≡ Ok x → PlainOf c x
unfolding plain_at
plain_found c x e =
    after (opening_at c) (λ o. plain_behind o) x e (λ o r0 e0.
    after (net_behind o) (λ y. order_at y.0 y.1) x e0 (λ y r1 last.
    after (settings_at o.after) (λ s. network_at s.line (network_of (numbers_said o s) o.edges) >>= λ net. done (net, s.after)) y r1 (λ s r2 e2.
    after (network_at s.line (network_of (numbers_said o s) o.edges)) (λ net. done (net, s.after)) y e2 (λ net r3 e3.
    let ordered : order_at net s.after ≡ Ok x = at_end {F = ScenarioFault} (λ (z : Network × Cursor). order_at z.0 z.1 ≡ Ok x) y (net, s.after) (sym e3) last in
    plain_made c o s net x (opening_found c o r0) (settings_found o.after s r2) (mapped_ok (λ f. fault_at (faults.Network f) s.line) (network_of (numbers_said o s) o.edges) net r3) (order_found net s.after x ordered)))))
