-- A text that is read as a header is spelled so.
use Rattle.std.proofs.Common.{◌≡◌, ℕ, zero, suc, ◌*◌, ◌<◌, Bool, true, false, List, [], ◌∷◌, ◌++◌, map, length, codes, Result, Ok, Err, refl, sym, ap, ◌∙◌, append_assoc}
use Rattle.std.specs.List.{join_with_byte}
use Rattle.std.specs.Str.{bytes_eq}
use Rattle.std.proofs.lemmas.Slice.Eq.{bytes_eq-Decides}
use Rattle.hex.specs.Hex.{decode_sized}
use Rattle.hex.specs.declared.error.FromHexError.{FromHexError}
use Rattle.hex.proofs.HexLemmas.{decode_sized-ok, decode_sized-twice}
use Rattle.gen_types.specs.Reading.{◌>>=◌, check}
use Rattle.gen_types.proofs.Steps.{after, after_check, at_end}
use Rattle.gen_net.specs.declared.version.Version.{Version}
use Rattle.gen_net.specs.Header.{RunHeader}
use Rattle.gen_net.specs.Network.{Network}
use Rattle.gen_script.proofs.Hexes.{decoded_found}
use Rattle.gen_text.specs.declared.fault.LineFault.TheVariants.{Shape, Extra}
use Rattle.gen_text.specs.declared.fault.ScenarioFault.{ScenarioFault}
use Rattle.gen_text.specs.Text.{parts}
use Rattle.gen_text.specs.Fields.{line_of}
use Rattle.gen_text.specs.Cursor.{Cursor, start_of}
use Rattle.gen_text.specs.CursorReading.{next_line, is_over}
use Rattle.gen_text.specs.KeysReading.{known_seed}
use Rattle.gen_text.specs.LineReading.{fault_at}
use Rattle.gen_text.proofs.Cuts.{joined}
use Rattle.gen_text.proofs.Stepping.{done}
use Rattle.gen_text.proofs.FoundLines.{passed, line_found, first_is}
use Rattle.gen_text.proofs.FoundScenario.{nothing_left, joined_lines}
use Rattle.gen_prepare.specs.HeaderText.{SpellsRoot, SpellRoots, SpellsHeader}
use Rattle.gen_prepare.specs.HeaderTextReading.{root_in, root_at, roots_at, last_in, last_at, header_of_text}
use Rattle.gen_prepare.specs.NetText.{net_at, net_lines}
use Rattle.gen_prepare.proofs.NetFound.{NetOf, net_found}
use Rattle.gen_prepare.proofs.RootLoop.{counted}

two : (w x u v : List ℕ) → w ≡ u → x ≡ v → (w ∷ x ∷ []) ≡ (u ∷ v ∷ [])
two w x u v p q = cc

-- ---- roots

known : (k : ℕ) (r : Result (List ℕ) FromHexError) (root : List ℕ) → known_seed k r ≡ Ok root → r ≡ Ok root
known k (Err d) root e = absurd cc
known k (Ok s) root e = cc

-- a line's fields are those of a root
record RootOf (fs : List (List ℕ)) (root : List ℕ) : Type 0 where
  digits : List ℕ
  fields_are : fs ≡ codes "root" ∷ digits ∷ []
  spells : SpellsRoot (line_of (codes "root" ∷ digits ∷ [])) root

root_made : (k : ℕ) (w digits root : List ℕ) → w ≡ codes "root" → known_seed k (decode_sized digits 32) ≡ Ok root → RootOf (w ∷ digits ∷ []) root
root_made k w digits root word e =
    let read = known k (decode_sized digits 32) root e in
    let width : length digits ≡ 2 * 32 = decode_sized-ok digits 32 root read in
    record {
      digits = digits;
      fields_are = two w digits (codes "root") digits word refl;
      spells = record { digits = digits; line_is = refl; width = width; root_is = decoded_found digits root (sym (decode_sized-twice digits 32 width) ∙ read) };
    }

root_in_found : (k : ℕ) (fs : List (List ℕ)) (root : List ℕ) → root_in k fs ≡ Ok root → RootOf fs root
unfolding root_in
root_in_found k [] root e = absurd cc
root_in_found k (w ∷ []) root e = absurd cc
root_in_found k (w ∷ x ∷ []) root e =
    passed (bytes_eq w (codes "root")) (fault_at Shape k) (known_seed k (decode_sized x 32)) root e (λ word e0.
    root_made k w x root ((bytes_eq-Decides w (codes "root")).0 word) e0)
root_in_found k (w ∷ x ∷ y ∷ more) root e = absurd cc

-- the first part is the line of a root
record RootAt (c : Cursor) (x : List ℕ × Cursor) : Type 0 where
  line : List ℕ
  lines : c.parts ≡ line ∷ x.1.parts
  spells : SpellsRoot line x.0

root_found : (c : Cursor) (x : List ℕ × Cursor) → root_at c ≡ Ok x → RootAt c x
unfolding root_at
root_found c x e =
    after (next_line c) (λ l. root_in l.0.number l.0.fields >>= λ root. done (root, l.1)) x e (λ l r0 e0.
    after (root_in l.0.number l.0.fields) (λ root. done (root, l.1)) x e0 (λ root r1 e1.
    let f = root_in_found l.0.number l.0.fields root r1 in
    at_end {F = ScenarioFault} (RootAt c) (root, l.1) x e1 (record { line = line_of (codes "root" ∷ f.digits ∷ []); lines = first_is c l (codes "root" ∷ f.digits ∷ []) (line_found c l r0) f.fields_are; spells = f.spells })))

-- the first parts are the lines of roots
record RootsAt (c : Cursor) (x : List (List ℕ) × Cursor) : Type 0 where
  roots : List (List ℕ)
  lines : c.parts ≡ roots ++ x.1.parts
  spell : SpellRoots roots x.0

roots_found : (n : ℕ) (c : Cursor) (x : List (List ℕ) × Cursor) → roots_at n c ≡ Ok x → RootsAt c x
unfolding roots_at
roots_found zero c x e = at_end {F = ScenarioFault} (RootsAt c) ([], c) x e (record { roots = []; lines = refl; spell = tt })
roots_found (suc n) c x e =
    after (root_at c) (λ root. roots_at n root.1 >>= λ others. done (root.0 ∷ others.0, others.1)) x e (λ root r0 e0.
    after (roots_at n root.1) (λ others. done (root.0 ∷ others.0, others.1)) x e0 (λ others r1 e1.
    let f = root_found c root r0 in
    let g = roots_found n root.1 others r1 in
    at_end {F = ScenarioFault} (RootsAt c) (root.0 ∷ others.0, others.1) x e1
    (record { roots = f.line ∷ g.roots; lines = f.lines ∙ ap (λ (r : List (List ℕ)). f.line ∷ r) g.lines; spell = (f.spells, g.spell) })))

-- ---- the last line

checked : (b : Bool) (d : ScenarioFault) (u : Unit {0}) → check b d ≡ Ok u → b ≡ true
checked true d u e = refl
checked false d u e = absurd cc

last_in_found : (k : ℕ) (fs : List (List ℕ)) (u : Unit {0}) → last_in k fs ≡ Ok u → fs ≡ codes "end" ∷ []
unfolding last_in
last_in_found k [] u e = absurd cc
last_in_found k (w ∷ []) u e = ap (λ (v : List ℕ). v ∷ []) ((bytes_eq-Decides w (codes "end")).0 (checked (bytes_eq w (codes "end")) (fault_at Shape k) u e))
last_in_found k (w ∷ x ∷ more) u e = absurd cc

record LastOf (c behind : Cursor) : Type 0 where
  lines : c.parts ≡ codes "end" ∷ behind.parts
  going : 0 < length behind.parts

last_found : (c behind : Cursor) → last_at c ≡ Ok behind → LastOf c behind
unfolding last_at
last_found c rest e =
    after (next_line c) (λ l. last_in l.0.number l.0.fields >>= λ ended. done l.1) rest e (λ l r0 e0.
    after (last_in l.0.number l.0.fields) (λ ended. done l.1) rest e0 (λ u r1 e1.
    let f = line_found c l r0 in
    at_end {F = ScenarioFault} (LastOf c) l.1 rest e1 (record { lines = first_is c l (codes "end" ∷ []) f (last_in_found l.0.number l.0.fields u r1); going = f.going })))

-- ---- the text

spelled : (version : Version) (text : List ℕ) (net : Network × Cursor) (roots : List (List ℕ) × Cursor) (rest : Cursor) → NetOf (start_of text) net → RootsAt net.1 roots → length roots.0 ≡ net.0.generals → LastOf roots.1 rest → rest.parts ≡ [] ∷ []
    → SpellsHeader version text (record { version = version; network = net.0; roots = roots.0 })
spelled version text net roots rest f g one_each t last =
    let front : List (List ℕ) = map line_of (net_lines f.numbers f.edges) in
    let behind : net.1.parts ≡ (g.roots ++ codes "end" ∷ []) ++ [] ∷ [] =
    g.lines ∙ ap (λ (r : List (List ℕ)). g.roots ++ r) (t.lines ∙ ap (λ (r : List (List ℕ)). codes "end" ∷ r) last) ∙ sym (append_assoc g.roots (codes "end" ∷ []) ([] ∷ [])) in
    let all : parts text ≡ (front ++ (g.roots ++ codes "end" ∷ [])) ++ [] ∷ [] =
    f.lines ∙ ap (λ (r : List (List ℕ)). front ++ r) behind ∙ sym (append_assoc front (g.roots ++ codes "end" ∷ []) ([] ∷ [])) in
    record {
      numbers = f.numbers;
      edges = f.edges;
      roots = g.roots;
      text_is = sym (joined text) ∙ ap (join_with_byte 10) all ∙ joined_lines (front ++ (g.roots ++ codes "end" ∷ []));
      bytes = f.bytes;
      network = f.network;
      roots_are = g.spell;
      one_each = one_each;
      version_is = refl;
    }

pub header_found : (version : Version) (text : List ℕ) (h : RunHeader) → header_of_text version text ≡ Ok h → SpellsHeader version text h
unfolding header_of_text
header_found version text h e =
    let made : Network → List (List ℕ) → RunHeader = λ net roots. record { version = version; network = net; roots = roots } in
    after (net_at (start_of text)) (λ net. roots_at net.0.generals net.1 >>= λ roots. last_at roots.1 >>= λ rest. check (is_over rest) (fault_at Extra rest.line) >>= λ over. done (made net.0 roots.0)) h e (λ net r0 e0.
    after (roots_at net.0.generals net.1) (λ roots. last_at roots.1 >>= λ rest. check (is_over rest) (fault_at Extra rest.line) >>= λ over. done (made net.0 roots.0)) h e0 (λ roots r1 e1.
    after (last_at roots.1) (λ rest. check (is_over rest) (fault_at Extra rest.line) >>= λ over. done (made net.0 roots.0)) h e1 (λ rest r2 e2.
    after_check (is_over rest) (fault_at Extra rest.line) (λ over. done (made net.0 roots.0)) h e2 (λ over e3.
    let t = last_found roots.1 rest r2 in
    at_end {F = ScenarioFault} (SpellsHeader version text) (made net.0 roots.0) h e3
    (spelled version text net roots rest (net_found (start_of text) net r0) (roots_found net.0.generals net.1 roots r1) (counted net.0.generals net.1 roots r1) t (nothing_left rest.parts t.going over))))))
