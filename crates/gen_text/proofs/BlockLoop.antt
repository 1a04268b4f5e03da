-- The loop over the lines of scripts.
use Rattle.std.proofs.Common.{◌≡◌, ℕ, Bool, true, false, cond, codes, List, [], ◌∷◌, ◌++◌, Option, Some, None, Result, Ok, Err, refl, sym, ap, ◌∙◌, append_assoc}
use Rattle.std.proofs.lemmas.List.{append-nil}
use Rattle.gen_types.specs.declared.reading.ReadError.{ReadError}
use Rattle.gen_types.specs.declared.reading.ReadError.TheVariants as errors
use Rattle.gen_types.specs.Reading.{◌>>=◌, check, Fails}
use Rattle.gen_net.specs.Network.{Network}
use Rattle.gen_script.specs.declared.lines.ScriptLine.{ScriptLine}
use Rattle.gen_script.specs.NamedPath.{named_path}
use Rattle.gen_script.specs.Script.{Script}
use Rattle.gen_text.specs.declared.fault.ScenarioFault.{ScenarioFault}
use Rattle.gen_text.specs.declared.items.Item.{Item}
use Rattle.gen_text.specs.declared.items.Item.TheVariants.{Begin, Say, End}
use Rattle.gen_text.specs.declared.items.PathLine.{PathLine}
use Rattle.gen_text.specs.Cursor.{Cursor, Line}
use Rattle.gen_text.specs.CursorReading.{next_line}
use Rattle.gen_text.specs.ItemReading.{begins_with, general_in, item_in}
use Rattle.gen_text.specs.BlocksReading.{Blocks, path_at, closed, with_item, block_after, blocks_at}
use Rattle.gen_text.proofs.Stepping.{stepped}

-- lines that stand before the first block stay where they are
abbrev pub before_block : Option ℕ → List ScriptLine → List ScriptLine
before_block None lines = lines
before_block (Some g) lines = []

abbrev pub in_front : List Script → Option ℕ → List ScriptLine → List PathLine → Blocks → Blocks
in_front scripts block lines paths b = record {
  lines = before_block block b.lines;
  scripts = scripts ++ (closed block (lines ++ b.lines) ++ b.scripts);
  paths = paths ++ b.paths;
  after = b.after;
}

-- scripts that are whole, the lines so far of the block that is open, and what the lines after them say
abbrev pub with_blocks : List Script → Option ℕ → List ScriptLine → List PathLine → Result Blocks ScenarioFault → Result Blocks ScenarioFault
with_blocks scripts block lines paths read = read >>= λ b. Ok (in_front scripts block lines paths b)

-- the blocks from this cursor on
abbrev pub blocks_from : Network → Option ℕ → Cursor → Result Blocks ScenarioFault
blocks_from net block c = blocks_at net block c.line c.parts

blocks_step : (net : Network) (block : Option ℕ) (k : ℕ) (ps : List (List ℕ)) → blocks_at net block k ps ≡ (next_line (record { line = k; parts = ps }) >>= λ l. item_in net block l.0 >>= λ item. with_item item l (blocks_at net (block_after block item) l.1.line l.1.parts))
unfolding blocks_at next_line
blocks_step net block k [] = refl
blocks_step net block k (line ∷ more) = stepped k line more (λ l j ps. item_in net block l.0 >>= λ item. with_item item l (blocks_at net (block_after block item) j ps))

-- ---- a line that begins a block

begun : (scripts : List Script) (block : Option ℕ) (lines : List ScriptLine) (paths : List PathLine) (g : ℕ) (l : Line × Cursor) (r : Result Blocks ScenarioFault)
    → with_blocks scripts block lines paths (with_item (Begin g) l r) ≡ with_blocks (scripts ++ closed block lines) (Some g) [] paths r
begun scripts None lines paths g l (Err f) = refl
begun scripts (Some h) lines paths g l (Err f) = refl
begun scripts None lines paths g l (Ok b) =
    ap (λ (s : List Script). Ok (record { lines = []; scripts = s ++ (closed (Some g) b.lines ++ b.scripts); paths = paths ++ b.paths; after = b.after })) (sym (append-nil scripts))
begun scripts (Some h) lines paths g l (Ok b) =
    let whole : lines ++ [] ≡ lines = append-nil lines in
    let split : scripts ++ (closed (Some h) (lines ++ []) ++ (closed (Some g) b.lines ++ b.scripts)) ≡ (scripts ++ closed (Some h) lines) ++ (closed (Some g) b.lines ++ b.scripts) =
    ap (λ (ls : List ScriptLine). scripts ++ (closed (Some h) ls ++ (closed (Some g) b.lines ++ b.scripts))) whole ∙ sym (append_assoc scripts (closed (Some h) lines) (closed (Some g) b.lines ++ b.scripts)) in
    ap (λ (s : List Script). Ok (record { lines = []; scripts = s; paths = paths ++ b.paths; after = b.after })) split

pub begins : (net : Network) (scripts : List Script) (block : Option ℕ) (lines : List ScriptLine) (paths : List PathLine) (g : ℕ) (c : Cursor) (l : Line × Cursor) (total : Result Blocks ScenarioFault)
    → next_line c ≡ Ok l → item_in net block l.0 ≡ Ok (Begin g) → with_blocks scripts block lines paths (blocks_from net block c) ≡ total
    → with_blocks (scripts ++ closed block lines) (Some g) [] paths (blocks_from net (Some g) l.1) ≡ total
begins net scripts block lines paths g c l total read is so_far =
    let one : blocks_from net block c ≡ with_item (Begin g) l (blocks_from net (Some g) l.1) = blocks_step net block c.line c.parts ∙ rw (read, is) refl in
    sym (begun scripts block lines paths g l (blocks_from net (Some g) l.1)) ∙ ap (with_blocks scripts block lines paths) (sym one) ∙ so_far

-- ---- a line of a script

said : (scripts : List Script) (g : ℕ) (lines : List ScriptLine) (paths : List PathLine) (it : ScriptLine) (l : Line × Cursor) (r : Result Blocks ScenarioFault)
    → with_blocks scripts (Some g) lines paths (with_item (Say it) l r) ≡ with_blocks scripts (Some g) (lines ++ it ∷ []) (paths ++ path_at l.0.number (named_path it)) r
said scripts g lines paths it l (Err f) = refl
said scripts g lines paths it l (Ok b) =
    let one : lines ++ (it ∷ b.lines) ≡ (lines ++ it ∷ []) ++ b.lines = sym (append_assoc lines (it ∷ []) b.lines) in
    let two : paths ++ (path_at l.0.number (named_path it) ++ b.paths) ≡ (paths ++ path_at l.0.number (named_path it)) ++ b.paths = sym (append_assoc paths (path_at l.0.number (named_path it)) b.paths) in
    ap (λ (ls : List ScriptLine). Ok (record { lines = []; scripts = scripts ++ (closed (Some g) ls ++ b.scripts); paths = paths ++ (path_at l.0.number (named_path it) ++ b.paths); after = b.after })) one
    ∙ ap (λ (ps : List PathLine). Ok (record { lines = []; scripts = scripts ++ (closed (Some g) ((lines ++ it ∷ []) ++ b.lines) ++ b.scripts); paths = ps; after = b.after })) two

-- a line says something in a block alone
abbrev item_ok : Item → Result Item ScenarioFault
item_ok item = Ok item

never_said : {P : Type 0} (b : Bool) (d : ScenarioFault) (it : ScriptLine) → (check b d >>= λ alone. item_ok End) ≡ Ok (Say it) → P
never_said true d it e = absurd cc
never_said false d it e = absurd cc

never_begun : {P : Type 0} (r : Result ℕ ScenarioFault) (it : ScriptLine) → (r >>= λ g. item_ok (Begin g)) ≡ Ok (Say it) → P
never_begun (Ok g) it e = absurd cc
never_begun (Err d) it e = absurd cc

-- an if of which one side can't be
either_side : {P : Type 0} (b : Bool) (r s : Result Item ScenarioFault) (y : Item) → cond b r s ≡ Ok y → (r ≡ Ok y → P) → (s ≡ Ok y → P) → P
either_side true r s y e k h = k e
either_side false r s y e k h = h e

pub in_block : (net : Network) (block : Option ℕ) (l : Line) (it : ScriptLine) → item_in net block l ≡ Ok (Say it) → (g : ℕ) × (block ≡ Some g)
unfolding item_in
in_block net (Some g) l it e = (g, refl)
in_block net None l it e =
    either_side (begins_with (codes "end") l.fields) _ _ (Say it) e (never_said _ _ it)
    (λ e0. either_side (begins_with (codes "script") l.fields) _ _ (Say it) e0 (never_begun (general_in net None l.number l.fields) it) (λ e1. absurd cc))

pub says : (net : Network) (scripts : List Script) (block : Option ℕ) (lines : List ScriptLine) (paths : List PathLine) (it : ScriptLine) (c : Cursor) (l : Line × Cursor) (total : Result Blocks ScenarioFault)
    → next_line c ≡ Ok l → item_in net block l.0 ≡ Ok (Say it) → with_blocks scripts block lines paths (blocks_from net block c) ≡ total
    → with_blocks scripts block (lines ++ it ∷ []) (paths ++ path_at l.0.number (named_path it)) (blocks_from net block l.1) ≡ total
says net scripts None lines paths it c l total read is so_far = let b = in_block net None l.0 it is in absurd (let e = b.1 in cc)
says net scripts (Some g) lines paths it c l total read is so_far =
    let one : blocks_from net (Some g) c ≡ with_item (Say it) l (blocks_from net (Some g) l.1) = blocks_step net (Some g) c.line c.parts ∙ rw (read, is) refl in
    sym (said scripts g lines paths it l (blocks_from net (Some g) l.1)) ∙ ap (with_blocks scripts (Some g) lines paths) (sym one) ∙ so_far

-- ---- the last line

ended : (scripts : List Script) (block : Option ℕ) (lines : List ScriptLine) (paths : List PathLine) (after : Cursor)
    → in_front scripts block lines paths (record { lines = []; scripts = []; paths = []; after = after }) ≡ record { lines = []; scripts = scripts ++ closed block lines; paths = paths; after = after }
ended scripts None lines paths after = ap (λ (ps : List PathLine). record { lines = []; scripts = scripts ++ []; paths = ps; after = after }) (append-nil paths)
ended scripts (Some g) lines paths after =
    ap (λ (ps : List PathLine). record { lines = []; scripts = scripts ++ (closed (Some g) (lines ++ []) ++ []); paths = ps; after = after }) (append-nil paths)
    ∙ ap (λ (ls : List ScriptLine). record { lines = []; scripts = scripts ++ (closed (Some g) ls ++ []); paths = paths; after = after }) (append-nil lines)

pub ends : (net : Network) (scripts : List Script) (block : Option ℕ) (lines : List ScriptLine) (paths : List PathLine) (c : Cursor) (l : Line × Cursor) (total : Result Blocks ScenarioFault)
    → next_line c ≡ Ok l → item_in net block l.0 ≡ Ok End → with_blocks scripts block lines paths (blocks_from net block c) ≡ total
    → total ≡ Ok (record { lines = []; scripts = scripts ++ closed block lines; paths = paths; after = l.1 })
ends net scripts block lines paths c l total read is so_far =
    let one : blocks_from net block c ≡ Ok (record { lines = []; scripts = []; paths = []; after = l.1 }) = blocks_step net block c.line c.parts ∙ rw (read, is) refl in
    sym so_far ∙ ap (with_blocks scripts block lines paths) one ∙ ap (λ (b : Blocks). Ok b) (ended scripts block lines paths l.1)

-- ---- faults

pub fails_in_line : (err : ReadError ScenarioFault) (net : Network) (scripts : List Script) (block : Option ℕ) (lines : List ScriptLine) (paths : List PathLine) (c : Cursor) (total : Result Blocks ScenarioFault)
    → Fails err (next_line c) → with_blocks scripts block lines paths (blocks_from net block c) ≡ total → Fails err total
fails_in_line errors.Memory net scripts block lines paths c total h so_far = tt
fails_in_line (errors.Fault f) net scripts block lines paths c total h so_far =
    let one : blocks_from net block c ≡ Err f = blocks_step net block c.line c.parts ∙ rw h refl in
    sym so_far ∙ ap (with_blocks scripts block lines paths) one

pub fails_in_item : (err : ReadError ScenarioFault) (net : Network) (scripts : List Script) (block : Option ℕ) (lines : List ScriptLine) (paths : List PathLine) (c : Cursor) (l : Line × Cursor) (total : Result Blocks ScenarioFault)
    → next_line c ≡ Ok l → Fails err (item_in net block l.0) → with_blocks scripts block lines paths (blocks_from net block c) ≡ total → Fails err total
fails_in_item errors.Memory net scripts block lines paths c l total read h so_far = tt
fails_in_item (errors.Fault f) net scripts block lines paths c l total read h so_far =
    let one : blocks_from net block c ≡ Err f = blocks_step net block c.line c.parts ∙ rw (read, h) refl in
    sym so_far ∙ ap (with_blocks scripts block lines paths) one
