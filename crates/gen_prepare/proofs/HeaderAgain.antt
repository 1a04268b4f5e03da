-- A text that spells a header is read as it.
use Rattle.std.proofs.Common.{◌≡◌, ℕ, ◌+◌, List, [], ◌∷◌, ◌++◌, map, length, codes, Ok, refl, sym, ap, subst, ◌∙◌, append_assoc, arith}
use Rattle.std.specs.List.{AllByRecursion}
use Rattle.hex.specs.Hex.{decode_sized}
use Rattle.hex.proofs.HexLemmas.{decode_sized-twice}
use Rattle.gen_net.specs.declared.version.Version.{Version}
use Rattle.gen_net.specs.Header.{RunHeader}
use Rattle.gen_script.proofs.Hexes.{decoded_again}
use Rattle.gen_text.specs.Text.{parts}
use Rattle.gen_text.specs.Fields.{line_of}
use Rattle.gen_text.proofs.AgainBlocks.{end_fields}
use Rattle.gen_text.proofs.AgainLines.{word, digits_plain, IsLine, AreFields, fields_line, IsGoing, going_behind, fields_again, parts_again}
use Rattle.gen_text.proofs.AgainScenario.{append_lines}
use Rattle.gen_prepare.specs.NetText.{net_lines}
use Rattle.gen_prepare.proofs.NetAgain.{net_again, net_are_lines}
use Rattle.gen_prepare.specs.HeaderText.{SpellsRoot, SpellRoots, SpellsHeader}
use Rattle.gen_prepare.specs.HeaderTextReading.{root_in, root_at, roots_at, last_in, last_at, header_of_text}

-- ---- roots

abbrev root_fields : List ℕ → List (List ℕ)
root_fields digits = codes "root" ∷ digits ∷ []

root_line : (line root : List ℕ) (h : SpellsRoot line root) → AreFields (root_fields h.digits)
root_line line root h = fields_line (codes "root") (h.digits ∷ []) (word (codes "root") refl (omega arith), (word h.digits (digits_plain h.digits root h.root_is) (omega (arith, h.width)), tt)) (omega arith)

root_in_again : (k : ℕ) (line root : List ℕ) (h : SpellsRoot line root) → root_in k (root_fields h.digits) ≡ Ok root
unfolding root_in
root_in_again k line root h =
    let sized : decode_sized h.digits 32 ≡ Ok root = decode_sized-twice h.digits 32 h.width ∙ decoded_again h.digits root h.root_is in
    rw sized refl

root_again : (k : ℕ) (line root : List ℕ) (more : List (List ℕ)) → SpellsRoot line root → IsGoing more → root_at (record { line = k; parts = line ∷ more }) ≡ Ok (root, record { line = k + 1; parts = more })
unfolding root_at
root_again k line root more h going =
    let first : line ∷ more ≡ line_of (root_fields h.digits) ∷ more = ap (λ (l : List ℕ). l ∷ more) h.line_is in
    rw (first, fields_again k (root_fields h.digits) more (root_line line root h) going, root_in_again k line root h) refl

-- where the lines of roots end
record RootsRead (k : ℕ) (lines roots more : List (List ℕ)) : Type 0 where
  line : ℕ
  is_read : roots_at (length roots) (record { line = k; parts = lines ++ more }) ≡ Ok (roots, record { line = line; parts = more })

roots_again : (k : ℕ) (lines roots : List (List ℕ)) (last : List ℕ) (more : List (List ℕ)) → SpellRoots lines roots → RootsRead k lines roots (last ∷ more)
unfolding roots_at
roots_again k [] [] last more h = record { line = k; is_read = refl }
roots_again k [] (root ∷ roots) last more h = absurd h
roots_again k (line ∷ lines) [] last more h = absurd h
roots_again k (line ∷ lines) (root ∷ roots) last more h =
    let rest = roots_again (k + 1) lines roots last more h.1 in
    record { line = rest.line; is_read = rw (root_again k line root (lines ++ (last ∷ more)) h.0 (going_behind lines last more), rest.is_read) refl }

roots_are_lines : (lines roots : List (List ℕ)) → SpellRoots lines roots → AllByRecursion IsLine lines
roots_are_lines [] [] h = tt
roots_are_lines [] (root ∷ roots) h = absurd h
roots_are_lines (line ∷ lines) [] h = absurd h
roots_are_lines (line ∷ lines) (root ∷ roots) h = (subst IsLine (sym h.0.line_is) (root_line line root h.0).line, roots_are_lines lines roots h.1)

-- ---- the text

last_again : (k : ℕ) → last_at (record { line = k; parts = codes "end" ∷ [] ∷ [] }) ≡ Ok (record { line = k + 1; parts = [] ∷ [] })
unfolding last_at last_in
last_again k = rw (fields_again k (codes "end" ∷ []) ([] ∷ []) end_fields refl) refl

same_header : (version : Version) (h : RunHeader) → h.version ≡ version → record { version = version; network = h.network; roots = h.roots } ≡ h
same_header version h e = ap (λ (v : Version). record { version = v; network = h.network; roots = h.roots }) (sym e)

pub header_again : (version : Version) (text : List ℕ) (h : RunHeader) → SpellsHeader version text h → header_of_text version text ≡ Ok h
unfolding header_of_text
header_again version text h s =
    let front : List (List ℕ) = map line_of (net_lines s.numbers s.edges) in
    let last : List (List ℕ) = codes "end" ∷ [] in
    let each : AllByRecursion IsLine (front ++ (s.roots ++ last)) =
    append_lines front (s.roots ++ last) (net_are_lines s.numbers s.edges s.bytes) (append_lines s.roots last (roots_are_lines s.roots h.roots s.roots_are) (end_fields.line, tt)) in
    let all : parts text ≡ front ++ (s.roots ++ (codes "end" ∷ [] ∷ [])) =
    ap parts s.text_is ∙ parts_again (front ++ (s.roots ++ last)) each ∙ append_assoc front (s.roots ++ last) ([] ∷ []) ∙ ap (λ (ls : List (List ℕ)). front ++ ls) (append_assoc s.roots last ([] ∷ [])) in
    let n = net_again 1 s.numbers s.edges h.network (s.roots ++ (codes "end" ∷ [] ∷ [])) s.bytes s.network (going_behind s.roots (codes "end") ([] ∷ [])) in
    let r = roots_again n.line s.roots h.roots (codes "end") ([] ∷ []) s.roots_are in
    let read : roots_at h.network.generals (record { line = n.line; parts = s.roots ++ (codes "end" ∷ [] ∷ []) }) ≡ Ok (h.roots, record { line = r.line; parts = codes "end" ∷ [] ∷ [] }) =
    ap (λ (count : ℕ). roots_at count (record { line = n.line; parts = s.roots ++ (codes "end" ∷ [] ∷ []) })) (sym s.one_each) ∙ r.is_read in
    rw (all, n.is_read, read, last_again r.line, same_header version h s.version_is) refl
