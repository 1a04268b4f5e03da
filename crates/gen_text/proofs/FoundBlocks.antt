-- Scripts that are read are spelled so, and are lawful.
use Rattle.std.proofs.Common.{◌≡◌, ℕ, ◌+◌, ◌<◌, ◌≤◌, Bool, true, false, cond, ◌&&◌, eqb, List, [], ◌∷◌, ◌++◌, length, codes, nat_lt, Option, Some, None, Result, Ok, Err, Contains, All, AllPairs, refl, sym, ap, subst, ◌∙◌, append_assoc, inl, inr, arith}
use Rattle.std.specs.Prelude.{IfSome}
use Rattle.std.specs.List.{list_all}
use Rattle.std.proofs.lemmas.Bool.{ltb-true, eqb-true}
use Rattle.std.proofs.lemmas.List.Elements.{All-nil, All-cons, All-weaker, All-contains, Contains-append_left, Contains-append_right}
use Rattle.std.proofs.lemmas.List.Kept.{AllPairs-cons}
use Rattle.std.proofs.lemmas.Slice.Eq.{bytes_eq-Decides}
use Rattle.gen_types.specs.Ends.{is_among}
use Rattle.gen_types.specs.Reading.{◌>>=◌, check}
use Rattle.gen_types.proofs.Among.{among_in}
use Rattle.gen_types.proofs.Decimals.{both}
use Rattle.gen_types.proofs.Lists.{Contains_here, Contains_cases, Contains_nil}
use Rattle.gen_types.proofs.Steps.{after, after_check, at_end, mapped_ok}
use Rattle.gen_net.specs.declared.version.Version.{Version}
use Rattle.gen_net.specs.Network.{Network, IsNetwork}
use Rattle.gen_net.specs.Version.{slot_in, greatest_slot}
use Rattle.gen_script.specs.declared.fault.ScriptFault.TheVariants.{BadPath}
use Rattle.gen_script.specs.declared.lines.ScriptLine.{ScriptLine}
use Rattle.gen_script.specs.Line.{SpellsLine, IsScriptLine}
use Rattle.gen_script.specs.LineReading.{script_line_of}
use Rattle.gen_script.specs.NamedPath.{named_path}
use Rattle.gen_script.specs.Script.{Script}
use Rattle.gen_script.proofs.LineFound.{script_line_found}
use Rattle.gen_scenario.specs.Scenario.{IsScenario, scripted}
use Rattle.gen_text.specs.declared.fault.LineFault.TheVariants as faults
use Rattle.gen_text.specs.declared.fault.ScenarioFault.{ScenarioFault}
use Rattle.gen_text.specs.declared.items.Item.{Item}
use Rattle.gen_text.specs.declared.items.Item.TheVariants.{Begin, Say, End}
use Rattle.gen_text.specs.declared.items.PathLine.{PathLine}
use Rattle.gen_text.specs.Fields.{line_of, said}
use Rattle.gen_text.specs.Cursor.{Cursor, Line}
use Rattle.gen_text.specs.LineReading.{fault_at, number_behind}
use Rattle.gen_text.specs.CursorReading.{next_line}
use Rattle.gen_text.specs.Scripts.{SpellsLines, SpellsScripts}
use Rattle.gen_text.specs.ItemReading.{begins_with, ascends, general_in, said_in, item_in}
use Rattle.gen_text.specs.BlocksReading.{Blocks, path_at, closed, with_item, block_after, blocks_at, all_scripted}
use Rattle.gen_text.proofs.Stepping.{done}
use Rattle.gen_text.proofs.FoundLines.{LineOf, line_found, first_is, behind_found}

-- ---- one line

alone : (word : List ℕ) (fs : List (List ℕ)) → begins_with word fs ≡ true → length fs ≡ 1 → fs ≡ word ∷ []
alone word [] e n = absurd cc
alone word (w ∷ []) e n = ap (λ (v : List ℕ). v ∷ []) ((bytes_eq-Decides w word).0 e)
alone word (w ∷ x ∷ more) e n = absurd (omega arith)

-- what is true of the general in whose block a line stands
abbrev InBlock : Option ℕ → (ℕ → Type 0) → Type 0
InBlock None P = ⊥
InBlock (Some g) P = P g

-- the general g comes after that of the block
abbrev Later : Option ℕ → ℕ → Type 0
Later block g = IfSome block (λ h. h < g)

abbrev ItemOf : Network → Option ℕ → Line → Item → Type 0
ItemOf net block l End = l.fields ≡ codes "end" ∷ []
ItemOf net block l (Begin g) = (l.fields ≡ said (codes "script") g) × (g < 256) × (g < net.generals) × Later block g
ItemOf net block l (Say it) = InBlock block (λ g. SpellsLine net g l.bytes it)

later_by : (block : Option ℕ) (g : ℕ) → ascends block g ≡ true → Later block g
later_by None g e = tt
later_by (Some h) g e = ltb-true h g e

abbrev GeneralOf : Network → Option ℕ → List (List ℕ) → ℕ → Type 0
GeneralOf net block fs g = (fs ≡ said (codes "script") g) × (g < 256) × (g < net.generals) × Later block g

general_found : (net : Network) (block : Option ℕ) (k : ℕ) (fs : List (List ℕ)) (g : ℕ) → general_in net block k fs ≡ Ok g → GeneralOf net block fs g
unfolding general_in
general_found net block k fs g e =
    after (number_behind k (codes "script") fs) (λ n. check (nat_lt n net.generals && ascends block n) (fault_at faults.BadTraitor k) >>= λ fits. done n) g e (λ n r0 e0.
    after_check (nat_lt n net.generals && ascends block n) (fault_at faults.BadTraitor k) (λ fits. done n) g e0 (λ fits e1.
    let h = both _ _ fits in
    let d = behind_found k n (codes "script") fs r0 in
    at_end {F = ScenarioFault} (GeneralOf net block fs) n g e1 (d.0, d.1, ltb-true _ _ h.0, later_by block n h.1)))

said_found : (net : Network) (block : Option ℕ) (k : ℕ) (line : List ℕ) (it : ScriptLine) → said_in net block k line ≡ Ok it → InBlock block (λ g. SpellsLine net g line it)
said_found net None k line it e = absurd cc
said_found net (Some g) k line it e = script_line_found net g line it (mapped_ok (λ f. fault_at (faults.Script f) k) (script_line_of net g line) it e)

either_side : {P : Type 0} (b : Bool) (r s : Result Item ScenarioFault) (y : Item) → cond b r s ≡ Ok y → (b ≡ true → r ≡ Ok y → P) → (s ≡ Ok y → P) → P
either_side true r s y e k h = k refl e
either_side false r s y e k h = h e

abbrev item_done : Item → Result Item ScenarioFault
item_done item = Ok item

item_found : (net : Network) (block : Option ℕ) (l : Line) (item : Item) → item_in net block l ≡ Ok item → ItemOf net block l item
unfolding item_in
item_found net block l item e =
    either_side (begins_with (codes "end") l.fields) _ _ item e
    (λ word e0. after_check (eqb (length l.fields) 1) (fault_at faults.Shape l.number) (λ one. item_done End) item e0 (λ one e1.
    at_end {F = ScenarioFault} (ItemOf net block l) End item e1 (alone (codes "end") l.fields word (eqb-true _ _ one))))
    (λ e0. either_side (begins_with (codes "script") l.fields) _ _ item e0
    (λ word e1. after (general_in net block l.number l.fields) (λ g. item_done (Begin g)) item e1 (λ g r e2.
    at_end {F = ScenarioFault} (ItemOf net block l) (Begin g) item e2 (general_found net block l.number l.fields g r)))
    (λ e1. after (said_in net block l.number l.bytes) (λ it. item_done (Say it)) item e1 (λ it r e2.
    at_end {F = ScenarioFault} (ItemOf net block l) (Say it) item e2 (said_found net block l.number l.bytes it r))))

-- ---- all lines

-- the lines of the block that is open
abbrev SpellsOpen : Network → Option ℕ → List (List ℕ) → List ScriptLine → Type 0
SpellsOpen net None own lines = (own ≡ []) × (lines ≡ [])
SpellsOpen net (Some g) own lines = SpellsLines net g own lines

-- some line names the path
abbrev HasPath : List PathLine → List ℕ → Type 0
HasPath paths path = (k : ℕ) × Contains paths (record { line = k; path = path })

abbrev PathsOf : List PathLine → List ScriptLine → Type 0
PathsOf paths lines = (it : ScriptLine) → Contains lines it → (path : List ℕ) → named_path it ≡ Some path → HasPath paths path

pub record BlocksOf (net : Network) (block : Option ℕ) (ps : List (List ℕ)) (b : Blocks) : Type 0 where
  pub own : List (List ℕ)
  pub more : List (List ℕ)
  pub lines : ps ≡ own ++ (more ++ (codes "end" ∷ b.after.parts))
  pub spelled : SpellsOpen net block own b.lines
  pub scripts : SpellsScripts net more b.scripts
  pub going : 0 < length b.after.parts
  pub known : All (λ s. s.general < net.generals) b.scripts
  pub later : All (λ s. Later block s.general) b.scripts
  pub ascending : AllPairs (λ s t. s.general < t.general) b.scripts
  pub own_paths : PathsOf b.paths b.lines
  pub paths : (s : Script) → Contains b.scripts s → PathsOf b.paths s.lines

none_open : (net : Network) (block : Option ℕ) → SpellsOpen net block [] []
none_open net None = (refl, refl)
none_open net (Some g) = tt

no_script : {P : Type 0} (s : Script) → Contains [] s → P
no_script s h = absurd (Contains_nil s h)

no_line : {P : Type 0} (it : ScriptLine) → Contains [] it → P
no_line it h = absurd (Contains_nil it h)

no_pairs : {X : Type 0} (R : X → X → Type 0) → AllPairs R []
no_pairs R i j d l m = absurd (omega (arith, m))

read_end : (net : Network) (block : Option ℕ) (c : Cursor) (l : Line × Cursor) → LineOf c l → l.0.fields ≡ codes "end" ∷ [] → BlocksOf net block c.parts (record { lines = []; scripts = []; paths = []; after = l.1 })
read_end net block c l f e = record {
  own = [];
  more = [];
  lines = first_is c l (codes "end" ∷ []) f e;
  spelled = none_open net block;
  scripts = refl;
  going = f.going;
  known = All-nil (λ (s : Script). s.general < net.generals);
  later = All-nil (λ (s : Script). Later block s.general);
  ascending = no_pairs (λ (s t : Script). s.general < t.general);
  own_paths = λ it h. no_line it h;
  paths = λ s h. no_script s h;
}

later_still : (block : Option ℕ) (g h : ℕ) → Later block g → g < h → Later block h
later_still None g h e lt = tt
later_still (Some k) g h e lt = omega (arith, e, lt)

begin_paths : (g : ℕ) (b : Blocks) → PathsOf b.paths b.lines → ((s : Script) → Contains b.scripts s → PathsOf b.paths s.lines) → (s : Script) → Contains (record { general = g; lines = b.lines } ∷ b.scripts) s → PathsOf b.paths s.lines
begin_paths g b own others s h = elim (Contains_cases (record { general = g; lines = b.lines }) s b.scripts h) [
  | inl is ↦ subst (λ (t : Script). PathsOf b.paths t.lines) is own
  | inr there ↦ others s there
]

read_begin : (net : Network) (block : Option ℕ) (c : Cursor) (l : Line × Cursor) (g : ℕ) (p : Blocks) → LineOf c l → GeneralOf net block l.0.fields g → BlocksOf net (Some g) l.1.parts p
    → BlocksOf net block c.parts (record p { lines = []; scripts = closed (Some g) p.lines ++ p.scripts })
read_begin net block c l g p f h rest = record {
  own = [];
  more = line_of (said (codes "script") g) ∷ (rest.own ++ rest.more);
  lines = first_is c l (said (codes "script") g) f h.0 ∙ ap (λ (r : List (List ℕ)). line_of (said (codes "script") g) ∷ r) (rest.lines ∙ sym (append_assoc rest.own rest.more (codes "end" ∷ p.after.parts)));
  spelled = none_open net block;
  scripts = (rest.own, rest.more, refl, rest.spelled, rest.scripts);
  going = rest.going;
  known = All-cons (λ (s : Script). s.general < net.generals) (record { general = g; lines = p.lines }) p.scripts h.2 rest.known;
  later = All-cons (λ (s : Script). Later block s.general) (record { general = g; lines = p.lines }) p.scripts h.3 (All-weaker (λ (s : Script). g < s.general) (λ (s : Script). Later block s.general) (λ s lt. later_still block g s.general h.3 lt) p.scripts rest.later);
  ascending = AllPairs-cons (λ (s t : Script). s.general < t.general) (record { general = g; lines = p.lines }) p.scripts rest.later rest.ascending;
  own_paths = λ it k. no_line it k;
  paths = begin_paths g p rest.own_paths rest.paths;
}

more_paths : (front paths : List PathLine) (lines : List ScriptLine) → PathsOf paths lines → PathsOf (front ++ paths) lines
more_paths front paths lines h it among path e = let r = h it among path e in (r.0, Contains-append_right front paths _ r.1)

named_here : (k : ℕ) (path : List ℕ) (o : Option (List ℕ)) → o ≡ Some path → Contains (path_at k o) (record { line = k; path = path })
named_here k path None e = absurd cc
named_here k path (Some q) e =
    let same : q ≡ path = cc in
    subst (λ (p : List ℕ). Contains (path_at k (Some q)) (record { line = k; path = p })) same (Contains_here (record { line = k; path = q }) [])

said_paths : (k : ℕ) (it : ScriptLine) (b : Blocks) → PathsOf b.paths b.lines → PathsOf (path_at k (named_path it) ++ b.paths) (it ∷ b.lines)
said_paths k it b h other among path e = elim (Contains_cases it other b.lines among) [
  | inl is ↦ (k, Contains-append_left (path_at k (named_path it)) b.paths _ (named_here k path (named_path it) (ap named_path is ∙ e)))
  | inr there ↦ more_paths (path_at k (named_path it)) b.paths b.lines h other there path e
]

read_say : (net : Network) (g : ℕ) (c : Cursor) (l : Line × Cursor) (it : ScriptLine) (p : Blocks) → LineOf c l → SpellsLine net g l.0.bytes it → BlocksOf net (Some g) l.1.parts p
    → BlocksOf net (Some g) c.parts (record p { lines = it ∷ p.lines; paths = path_at l.0.number (named_path it) ++ p.paths })
read_say net g c l it p f spells rest = record {
  own = l.0.bytes ∷ rest.own;
  more = rest.more;
  lines = f.parts ∙ ap (λ (r : List (List ℕ)). l.0.bytes ∷ r) rest.lines;
  spelled = (spells, f.short, rest.spelled);
  scripts = rest.scripts;
  going = rest.going;
  known = rest.known;
  later = rest.later;
  ascending = rest.ascending;
  own_paths = said_paths l.0.number it p rest.own_paths;
  paths = λ s among. more_paths (path_at l.0.number (named_path it)) p.paths s.lines (rest.paths s among);
}

-- the line and those after it
item_read : (net : Network) (block : Option ℕ) (c : Cursor) (l : Line × Cursor) (item : Item) (others : Result Blocks ScenarioFault) (b : Blocks) → LineOf c l → ItemOf net block l.0 item
    → ((p : Blocks) → others ≡ Ok p → BlocksOf net (block_after block item) l.1.parts p) → with_item item l others ≡ Ok b → BlocksOf net block c.parts b
item_read net block c l End others b f is each e = at_end {F = ScenarioFault} (BlocksOf net block c.parts) (record { lines = []; scripts = []; paths = []; after = l.1 }) b e (read_end net block c l f is)
item_read net block c l (Begin g) others b f is each e =
    after others (λ p. done (record p { lines = []; scripts = closed (Some g) p.lines ++ p.scripts })) b e (λ p r made.
    at_end {F = ScenarioFault} (BlocksOf net block c.parts) (record p { lines = []; scripts = closed (Some g) p.lines ++ p.scripts }) b made (read_begin net block c l g p f is (each p r)))
item_read net None c l (Say it) others b f is each e = absurd is
item_read net (Some g) c l (Say it) others b f is each e =
    after others (λ p. done (record p { lines = it ∷ p.lines; paths = path_at l.0.number (named_path it) ++ p.paths })) b e (λ p r made.
    at_end {F = ScenarioFault} (BlocksOf net (Some g) c.parts) (record p { lines = it ∷ p.lines; paths = path_at l.0.number (named_path it) ++ p.paths }) b made (read_say net g c l it p f is (each p r)))

tail_is : (line : List ℕ) (more : List (List ℕ)) (l : Line × Cursor) (k : ℕ) → LineOf (record { line = k; parts = line ∷ more }) l → l.1.parts ≡ more
tail_is line more l k f = let is = f.parts in cc

pub blocks_found : (net : Network) (block : Option ℕ) (k : ℕ) (ps : List (List ℕ)) (b : Blocks) → blocks_at net block k ps ≡ Ok b → BlocksOf net block ps b
unfolding blocks_at
blocks_found net block k [] b e = absurd cc
blocks_found net block k (line ∷ more) b e =
    after (next_line (record { line = k; parts = line ∷ more })) (λ l. item_in net block l.0 >>= λ item. with_item item l (blocks_at net (block_after block item) (k + 1) more)) b e (λ l r0 e0.
    after (item_in net block l.0) (λ item. with_item item l (blocks_at net (block_after block item) (k + 1) more)) b e0 (λ item r1 e1.
    let f = line_found (record { line = k; parts = line ∷ more }) l r0 in
    item_read net block (record { line = k; parts = line ∷ more }) l item (blocks_at net (block_after block item) (k + 1) more) b f (item_found net block l.0 item r1)
    (λ p h. rw (tail_is line more l k f) (blocks_found net (block_after block item) (k + 1) more p h)) e1))

-- ---- the scripts are lawful

lines_lawful : (net : Network) (g : ℕ) (own : List (List ℕ)) (lines : List ScriptLine) → SpellsLines net g own lines → (it : ScriptLine) → Contains lines it → IsScriptLine net g it
lines_lawful net g [] [] h it among = no_line it among
lines_lawful net g [] (x ∷ lines) h it among = absurd h
lines_lawful net g (line ∷ own) [] h it among = absurd h
lines_lawful net g (line ∷ own) (x ∷ lines) h it among = elim (Contains_cases x it lines among) [
  | inl is ↦ subst (λ (y : ScriptLine). IsScriptLine net g y) is h.0.lawful
  | inr there ↦ lines_lawful net g own lines h.2 it there
]

scripts_lawful : (net : Network) (own : List (List ℕ)) (scripts : List Script) → SpellsScripts net own scripts → (s : Script) (it : ScriptLine) → Contains scripts s → Contains s.lines it → IsScriptLine net s.general it
scripts_lawful net own [] h s it one among = no_script s one
scripts_lawful net own (x ∷ scripts) h s it one among = elim (Contains_cases x s scripts one) [
  | inl is ↦ lines_lawful net s.general h.0 s.lines (subst (λ (y : Script). SpellsLines net y.general h.0 y.lines) is h.3) it among
  | inr there ↦ scripts_lawful net h.1 scripts h.4 s it there among
]

-- an if that reads on where its test holds
checked : (b : Bool) (d : ScenarioFault) (r : Result (Unit {0}) ScenarioFault) → cond b r (Err d) ≡ Ok tt → (b ≡ true) × (r ≡ Ok tt)
checked true d r e = (refl, e)
checked false d r e = absurd cc

paths_tested : (traitors : List ℕ) (paths : List PathLine) → all_scripted traitors paths ≡ Ok tt → (p : PathLine) → Contains paths p → list_all (is_among traitors) p.path ≡ true
unfolding all_scripted
paths_tested traitors [] e p h = absurd (Contains_nil p h)
paths_tested traitors (q ∷ paths) e p h =
    let t = checked (list_all (is_among traitors) q.path) (fault_at (faults.Script BadPath) q.line) (all_scripted traitors paths) e in
    elim (Contains_cases q p paths h) [
      | inl is ↦ subst (λ (x : PathLine). list_all (is_among traitors) x.path ≡ true) is t.0
      | inr there ↦ paths_tested traitors paths t.1 p there
    ]

each_passes : (p : ℕ → Bool) (xs : List ℕ) → list_all p xs ≡ true → (x : ℕ) → Contains xs x → p x ≡ true
each_passes p [] e x h = absurd (Contains_nil x h)
each_passes p (y ∷ ys) e x h =
    let t = both (p y) (list_all p ys) e in
    elim (Contains_cases y x ys h) [
      | inl is ↦ subst (λ (z : ℕ). p z ≡ true) is t.0
      | inr there ↦ each_passes p ys t.1 x there
    ]

pub lawful_by : (version : Version) (net : Network) (master : List ℕ) (order : ℕ) (b : Blocks) (ps : List (List ℕ)) → IsNetwork net → slot_in version ≤ greatest_slot → order < net.orders → BlocksOf net None ps b
    → all_scripted (scripted b.scripts) b.paths ≡ Ok tt → IsScenario (record { version = version; net = net; master = master; order = order; scripts = b.scripts })
lawful_by version net master order b ps network slot known f tested = record {
  network = network;
  slot = slot;
  order_known = known;
  known = λ s h. All-contains (λ (s : Script). s.general < net.generals) b.scripts s f.known h;
  ascending = f.ascending;
  lawful = λ s it one among. scripts_lawful net f.more b.scripts f.scripts s it one among;
  signers = λ s it one among path named g within.
      let p = f.paths s one it among path named in
      among_in (scripted b.scripts) g (each_passes (is_among (scripted b.scripts)) path (paths_tested (scripted b.scripts) b.paths tested (record { line = p.0; path = path }) p.1) g within);
}
