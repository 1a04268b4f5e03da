-- Scripts that are spelled so are read.
use Rattle.std.proofs.Common.{◌≡◌, ℕ, ◌+◌, ◌<◌, ◌≤◌, true, false, ltb, List, [], ◌∷◌, ◌++◌, map, length, codes, Option, Some, None, Ok, Err, Contains, All, AllPairs, refl, sym, ap, subst, ◌∙◌, append_assoc, inl, inr, arith}
use Rattle.std.specs.Prelude.{IfSome}
use Rattle.std.specs.List.{list_all, join_with_byte, AllByRecursion}
use Rattle.std.specs.Fmt.{decimal}
use Rattle.std.proofs.lemmas.Bool.{lt-ltb}
use Rattle.std.proofs.lemmas.List.Elements.{All-head, All-tail, recursion_from_All}
use Rattle.std.proofs.lemmas.Slice.Eq.{bytes_eq-Decides}
use Rattle.gen_types.specs.Ends.{is_among}
use Rattle.gen_types.specs.Texts.{fields}
use Rattle.gen_types.proofs.Among.{in_among}
use Rattle.gen_types.proofs.Cutting.{all_append}
use Rattle.gen_types.proofs.Lists.{Contains_here, Contains_there, AllPairs_head, AllPairs_tail, All_of, bool_cases}
use Rattle.gen_net.specs.Network.{Network, IsNetwork, AreNeighbours}
use Rattle.gen_script.specs.declared.fault.ScriptFault.TheVariants.{Shape}
use Rattle.gen_script.specs.declared.lines.ScriptLine.{ScriptLine}
use Rattle.gen_script.specs.declared.lines.ScriptLine.TheVariants.{Make, Pass, Bend, Raw, Hide, TwoHeads}
use Rattle.gen_script.specs.Line.{path_text, HasFields, IsRound, IsPathTo, IsScriptLine, SpellsLine}
use Rattle.gen_script.specs.LineReading.{line_in}
use Rattle.gen_script.specs.NamedPath.{named_path}
use Rattle.gen_script.specs.Script.{Script}
use Rattle.gen_script.proofs.Joining.{joined_below}
use Rattle.gen_script.proofs.LineAgain.{script_line_again}
use Rattle.gen_text.specs.declared.items.Item.TheVariants.{Begin, Say, End}
use Rattle.gen_text.specs.declared.items.PathLine.{PathLine}
use Rattle.gen_text.specs.Text.{longest_line}
use Rattle.gen_text.specs.Fields.{line_of, said}
use Rattle.gen_text.specs.Scripts.{SpellsLines, SpellsScripts}
use Rattle.gen_text.specs.ItemReading.{begins_with, ascends, general_in, item_in}
use Rattle.gen_text.specs.BlocksReading.{Blocks, path_at, closed, blocks_at, all_scripted}
use Rattle.gen_text.proofs.AgainLines.{IsPlain, is_plain, word, decimal_field, digits_plain, IsLine, plain_line, AreFields, fields_line, said_line, IsGoing, going_behind, line_again, fields_again, behind_again}

-- ---- the fields of a script line

joined_plain : (c : ℕ) (fs : List (List ℕ)) → is_plain c ≡ true → AllByRecursion IsPlain fs → IsPlain (join_with_byte c fs)
joined_plain c [] e h = refl
joined_plain c (f ∷ []) e h = h.0
joined_plain c (f ∷ g ∷ fs) e h = all_append is_plain f (c ∷ join_with_byte c (g ∷ fs)) h.0 (rw e (joined_plain c (g ∷ fs) e h.1))

plain_number : (n : ℕ) → n < 256 → IsPlain (decimal n)
plain_number n lt = (decimal_field n lt).plain

numbers_plain : (path : List ℕ) (n : ℕ) → n ≤ 16 → AllByRecursion (λ g. g < n) path → AllByRecursion IsPlain (map decimal path)
numbers_plain [] n few h = tt
numbers_plain (g ∷ path) n few h = (plain_number g (omega (arith, h.0, few)), numbers_plain path n few h.1)

path_plain : (net : Network) (me : ℕ) (path : List ℕ) → IsNetwork net → IsPathTo net me path → IsPlain (path_text path)
path_plain net me path ok is = joined_plain 44 (map decimal path) refl (numbers_plain path net.generals ok.ranges.few_generals (recursion_from_All (λ g. g < net.generals) path is.known))

round_plain : (net : Network) (first r : ℕ) → IsNetwork net → IsRound net first r → IsPlain (decimal r)
round_plain net first r ok is = plain_number r (omega (arith, is.1, ok.ranges.few_rounds))

near_plain : (net : Network) (me g : ℕ) → IsNetwork net → AreNeighbours net me g → IsPlain (decimal g)
near_plain net me g ok near = let below = joined_below net ok me g near in plain_number g (omega (arith, below.1, ok.ranges.few_generals))

order_plain : (net : Network) (v : ℕ) → IsNetwork net → v < net.orders → IsPlain (decimal v)
order_plain net v ok lt = plain_number v (omega (arith, ok.ranges.few_orders))

abbrev ArePlain : List (List ℕ) → Type 0
ArePlain fs = AllByRecursion IsPlain fs

fields_plain : (net : Network) (me : ℕ) (fs : List (List ℕ)) (it : ScriptLine) → IsNetwork net → HasFields fs it → IsScriptLine net me it → ArePlain fs
fields_plain net me fs (Make r h v p) ok is so =
    subst ArePlain (sym is) (refl, (round_plain net 1 r ok so.0, (near_plain net me h ok so.1, (order_plain net v ok so.2, (path_plain net me p ok so.3, tt)))))
fields_plain net me fs (Pass r h k v p) ok is so =
    subst ArePlain (sym is) (refl, (round_plain net 1 r ok so.0, (near_plain net me h ok so.1, (near_plain net me k ok so.2, (order_plain net v ok so.3, (path_plain net me p ok so.4, tt))))))
fields_plain net me fs (Bend r h k v) ok is so =
    subst ArePlain (sym is) (refl, (round_plain net 2 r ok so.0, (near_plain net me h ok so.1, (near_plain net me k ok so.2, (order_plain net v ok so.3, tt)))))
fields_plain net me fs (Raw r h parcel) ok is so =
    subst ArePlain (sym is.1) (refl, (round_plain net 1 r ok so.0, (near_plain net me h ok so.1, (digits_plain is.0 parcel is.2, tt))))
fields_plain net me fs (Hide r k v) ok is so =
    subst ArePlain (sym is) (refl, (round_plain net 1 r ok so.0, (near_plain net me k ok so.1, (order_plain net v ok so.2, tt))))
fields_plain net me fs TwoHeads ok is so = subst ArePlain (sym is) (refl, tt)

pub script_line_is : (net : Network) (me : ℕ) (line : List ℕ) (it : ScriptLine) → IsNetwork net → SpellsLine net me line it → length line ≤ longest_line → IsLine line
script_line_is net me line it ok spells short =
    let plain = fields_plain net me spells.parts it ok spells.fields spells.lawful in
    let fits : length (line_of spells.parts) ≤ longest_line = subst (λ (l : List ℕ). length l ≤ longest_line) spells.line_is short in
    subst IsLine (sym spells.line_is) (plain_line spells.parts plain fits)

-- ---- its first word

abbrev Refused : Network → ℕ → List (List ℕ) → Type 0
Refused net me fs = line_in net me fs ≡ Err Shape

word_is : (w v : List ℕ) (fs : List (List ℕ)) → begins_with v (w ∷ fs) ≡ true → v ≡ w
word_is w v fs e = sym ((bytes_eq-Decides w v).0 e)

end_refused : (net : Network) (me : ℕ) (fs : List (List ℕ)) → begins_with (codes "end") fs ≡ true → Refused net me fs
unfolding line_in
end_refused net me [] e = refl
end_refused net me (w ∷ []) e = subst (λ (v : List ℕ). Refused net me (v ∷ [])) (word_is w (codes "end") [] e) refl
end_refused net me (w ∷ a ∷ []) e = refl
end_refused net me (w ∷ a ∷ b ∷ []) e = refl
end_refused net me (w ∷ a ∷ b ∷ c ∷ []) e = subst (λ (v : List ℕ). Refused net me (v ∷ a ∷ b ∷ c ∷ [])) (word_is w (codes "end") [] e) refl
end_refused net me (w ∷ a ∷ b ∷ c ∷ d ∷ []) e = subst (λ (v : List ℕ). Refused net me (v ∷ a ∷ b ∷ c ∷ d ∷ [])) (word_is w (codes "end") [] e) refl
end_refused net me (w ∷ a ∷ b ∷ c ∷ d ∷ f ∷ []) e = subst (λ (v : List ℕ). Refused net me (v ∷ a ∷ b ∷ c ∷ d ∷ f ∷ [])) (word_is w (codes "end") [] e) refl
end_refused net me (w ∷ a ∷ b ∷ c ∷ d ∷ f ∷ g ∷ more) e = refl

script_refused : (net : Network) (me : ℕ) (fs : List (List ℕ)) → begins_with (codes "script") fs ≡ true → Refused net me fs
unfolding line_in
script_refused net me [] e = refl
script_refused net me (w ∷ []) e = subst (λ (v : List ℕ). Refused net me (v ∷ [])) (word_is w (codes "script") [] e) refl
script_refused net me (w ∷ a ∷ []) e = refl
script_refused net me (w ∷ a ∷ b ∷ []) e = refl
script_refused net me (w ∷ a ∷ b ∷ c ∷ []) e = subst (λ (v : List ℕ). Refused net me (v ∷ a ∷ b ∷ c ∷ [])) (word_is w (codes "script") [] e) refl
script_refused net me (w ∷ a ∷ b ∷ c ∷ d ∷ []) e = subst (λ (v : List ℕ). Refused net me (v ∷ a ∷ b ∷ c ∷ d ∷ [])) (word_is w (codes "script") [] e) refl
script_refused net me (w ∷ a ∷ b ∷ c ∷ d ∷ f ∷ []) e = subst (λ (v : List ℕ). Refused net me (v ∷ a ∷ b ∷ c ∷ d ∷ f ∷ [])) (word_is w (codes "script") [] e) refl
script_refused net me (w ∷ a ∷ b ∷ c ∷ d ∷ f ∷ g ∷ more) e = refl

other_word : (net : Network) (me : ℕ) (v : List ℕ) (fs : List (List ℕ)) (it : ScriptLine) → (begins_with v fs ≡ true → Refused net me fs) → line_in net me fs ≡ Ok it → begins_with v fs ≡ false
other_word net me v fs it refused read = elim (bool_cases (begins_with v fs)) [
  | inl e ↦ absurd (let r = refused e in cc)
  | inr e ↦ e
]

-- ---- one line

say_again : (net : Network) (g k : ℕ) (line : List ℕ) (it : ScriptLine) → IsNetwork net → SpellsLine net g line it → item_in net (Some g) (record { number = k; bytes = line; fields = fields line }) ≡ Ok (Say it)
unfolding item_in
say_again net g k line it ok spells =
    let read : line_in net g (fields line) ≡ Ok it = script_line_again net g line it ok spells in
    let no_end : begins_with (codes "end") (fields line) ≡ false = other_word net g (codes "end") (fields line) it (end_refused net g (fields line)) read in
    let no_script : begins_with (codes "script") (fields line) ≡ false = other_word net g (codes "script") (fields line) it (script_refused net g (fields line)) read in
    rw (no_end, no_script, read) refl

-- the general h comes after that of the block
abbrev Later : Option ℕ → ℕ → Type 0
Later block h = IfSome block (λ g. g < h)

ascends_again : (block : Option ℕ) (g : ℕ) → Later block g → ascends block g ≡ true
ascends_again None g h = refl
ascends_again (Some b) g h = lt-ltb b g h

general_again : (net : Network) (block : Option ℕ) (k g : ℕ) → g < net.generals → net.generals ≤ 16 → Later block g → general_in net block k (said (codes "script") g) ≡ Ok g
unfolding general_in
general_again net block k g lt few later =
    let below : ltb g net.generals ≡ true = lt-ltb g net.generals lt in
    rw (behind_again k g (codes "script") (omega (arith, lt, few)), below, ascends_again block g later) refl

begin_again : (net : Network) (block : Option ℕ) (k g : ℕ) → g < net.generals → net.generals ≤ 16 → Later block g
    → item_in net block (record { number = k; bytes = line_of (said (codes "script") g); fields = said (codes "script") g }) ≡ Ok (Begin g)
unfolding item_in
begin_again net block k g lt few later = rw (general_again net block k g lt few later) refl

pub script_fields : (g : ℕ) → g < 256 → AreFields (said (codes "script") g)
script_fields g lt = said_line (codes "script") g (word (codes "script") refl (omega arith)) lt

pub end_fields : AreFields (codes "end" ∷ [])
end_fields = fields_line (codes "end") [] (word (codes "end") refl (omega arith), tt) (omega arith)

end_again : (net : Network) (block : Option ℕ) (k : ℕ) → item_in net block (record { number = k; bytes = codes "end"; fields = codes "end" ∷ [] }) ≡ Ok End
unfolding item_in
end_again net block k = refl

-- ---- all lines

-- the generals of a line's path are among these
abbrev pub SignsIn : List ℕ → ScriptLine → Type 0
SignsIn traitors it = (path : List ℕ) → named_path it ≡ Some path → (g : ℕ) → Contains path g → Contains traitors g

pub record AgainOf (net : Network) (block : Option ℕ) (k : ℕ) (ps : List (List ℕ)) (lines : List ScriptLine) (scripts : List Script) (rest : List (List ℕ)) : Type 0 where
  pub read : Blocks
  pub is_read : blocks_at net block k ps ≡ Ok read
  pub lines_are : read.lines ≡ lines
  pub scripts_are : read.scripts ≡ scripts
  pub after_is : read.after.parts ≡ rest
  pub tested : (traitors : List ℕ) → ((it : ScriptLine) → Contains lines it → SignsIn traitors it) → ((s : Script) (it : ScriptLine) → Contains scripts s → Contains s.lines it → SignsIn traitors it)
      → all_scripted traitors read.paths ≡ Ok tt

none_tested : (traitors : List ℕ) → all_scripted traitors [] ≡ Ok tt
unfolding all_scripted
none_tested traitors = refl

read_end : (net : Network) (block : Option ℕ) (k : ℕ) (rest : List (List ℕ)) → IsGoing rest → AgainOf net block k (codes "end" ∷ rest) [] [] rest
unfolding blocks_at
read_end net block k rest going = record {
  read = record { lines = []; scripts = []; paths = []; after = record { line = k + 1; parts = rest } };
  is_read = rw (fields_again k (codes "end" ∷ []) rest end_fields going, end_again net block k) refl;
  lines_are = refl;
  scripts_are = refl;
  after_is = refl;
  tested = λ traitors own others. none_tested traitors;
}

read_begin : (net : Network) (block : Option ℕ) (k g : ℕ) (more rest : List (List ℕ)) (lines : List ScriptLine) (scripts : List Script) → g < net.generals → net.generals ≤ 16 → Later block g → IsGoing more
    → AgainOf net (Some g) (k + 1) more lines scripts rest → AgainOf net block k (line_of (said (codes "script") g) ∷ more) [] (record { general = g; lines = lines } ∷ scripts) rest
unfolding blocks_at
read_begin net block k g more rest lines scripts lt few later going a =
    let whole : closed (Some g) a.read.lines ++ a.read.scripts ≡ record { general = g; lines = lines } ∷ scripts =
    ap (λ (ls : List ScriptLine). record { general = g; lines = ls } ∷ a.read.scripts) a.lines_are ∙ ap (λ (ss : List Script). record { general = g; lines = lines } ∷ ss) a.scripts_are in
    record {
      read = record a.read { lines = []; scripts = closed (Some g) a.read.lines ++ a.read.scripts };
      is_read = rw (fields_again k (said (codes "script") g) more (script_fields g (omega (arith, lt, few))) going, begin_again net block k g lt few later, a.is_read) refl;
      lines_are = refl;
      scripts_are = whole;
      after_is = a.after_is;
      tested = λ traitors own others. a.tested traitors
          (λ it among. others (record { general = g; lines = lines }) it (Contains_here (record { general = g; lines = lines }) scripts) among)
          (λ s it one among. others s it (Contains_there (record { general = g; lines = lines }) s scripts one) among);
    }

all_among : (traitors path : List ℕ) → ((g : ℕ) → Contains path g → Contains traitors g) → list_all (is_among traitors) path ≡ true
all_among traitors [] h = refl
all_among traitors (g ∷ path) h =
    let here : is_among traitors g ≡ true = in_among traitors g (h g (Contains_here g path)) in
    rw (here, all_among traitors path (λ x among. h x (Contains_there g x path among))) refl

one_tested : (traitors : List ℕ) (k : ℕ) (path : Option (List ℕ)) (more : List PathLine) → ((p : List ℕ) → path ≡ Some p → (g : ℕ) → Contains p g → Contains traitors g) → all_scripted traitors more ≡ Ok tt → all_scripted traitors (path_at k path ++ more) ≡ Ok tt
unfolding all_scripted
one_tested traitors k None more h e = e
one_tested traitors k (Some p) more h e = rw (all_among traitors p (h p refl), e) refl

read_say : (net : Network) (g k : ℕ) (line : List ℕ) (it : ScriptLine) (more rest : List (List ℕ)) (lines : List ScriptLine) (scripts : List Script) → IsNetwork net → SpellsLine net g line it → length line ≤ longest_line → IsGoing more
    → AgainOf net (Some g) (k + 1) more lines scripts rest → AgainOf net (Some g) k (line ∷ more) (it ∷ lines) scripts rest
unfolding blocks_at
read_say net g k line it more rest lines scripts ok spells short going a = record {
  read = record a.read { lines = it ∷ a.read.lines; paths = path_at k (named_path it) ++ a.read.paths };
  is_read = rw (line_again k line more (script_line_is net g line it ok spells short) going, say_again net g k line it ok spells, a.is_read) refl;
  lines_are = ap (λ (ls : List ScriptLine). it ∷ ls) a.lines_are;
  scripts_are = a.scripts_are;
  after_is = a.after_is;
  tested = λ traitors own others. one_tested traitors k (named_path it) a.read.paths (own it (Contains_here it lines)) (a.tested traitors (λ other among. own other (Contains_there it other lines among)) others);
}

-- something follows own lines where something follows them
going_own : (own more : List (List ℕ)) → IsGoing more → IsGoing (own ++ more)
going_own [] more h = h
going_own (x ∷ own) more h = going_behind [] x (own ++ more)

own_again : (net : Network) (g k : ℕ) (own more rest : List (List ℕ)) (lines : List ScriptLine) (scripts : List Script) → IsNetwork net → SpellsLines net g own lines → IsGoing more
    → ((j : ℕ) → AgainOf net (Some g) j more [] scripts rest) → AgainOf net (Some g) k (own ++ more) lines scripts rest
own_again net g k [] more rest [] scripts ok h going tail = tail k
own_again net g k [] more rest (it ∷ lines) scripts ok h going tail = absurd h
own_again net g k (line ∷ own) more rest [] scripts ok h going tail = absurd h
own_again net g k (line ∷ own) more rest (it ∷ lines) scripts ok h going tail =
    read_say net g k line it (own ++ more) rest lines scripts ok h.0 h.1 (going_own own more going) (own_again net g (k + 1) own more rest lines scripts ok h.2 going tail)

-- what is asked of the scripts behind a block
record AreLater (net : Network) (block : Option ℕ) (scripts : List Script) : Type 0 where
  known : All (λ s. s.general < net.generals) scripts
  later : All (λ s. Later block s.general) scripts
  ascending : AllPairs (λ s t. s.general < t.general) scripts

later_tail : (net : Network) (block : Option ℕ) (s : Script) (scripts : List Script) → AreLater net block (s ∷ scripts) → AreLater net (Some s.general) scripts
later_tail net block s scripts h = record {
  known = All-tail (λ (s : Script). s.general < net.generals) s scripts h.known;
  later = AllPairs_head (λ (s t : Script). s.general < t.general) s scripts h.ascending;
  ascending = AllPairs_tail (λ (s t : Script). s.general < t.general) s scripts h.ascending;
}

going_scripts : (lines rest : List (List ℕ)) → IsGoing (lines ++ (codes "end" ∷ rest))
going_scripts lines rest = going_behind lines (codes "end") rest

scripts_again : (net : Network) (block : Option ℕ) (k : ℕ) (lines rest : List (List ℕ)) (scripts : List Script) → IsNetwork net → SpellsScripts net lines scripts → AreLater net block scripts → IsGoing rest
    → AgainOf net block k (lines ++ (codes "end" ∷ rest)) [] scripts rest
scripts_again net block k lines rest [] ok h later going =
    subst (λ (ls : List (List ℕ)). AgainOf net block k (ls ++ (codes "end" ∷ rest)) [] [] rest) (sym h) (read_end net block k rest going)
scripts_again net block k lines rest (s ∷ scripts) ok h later going =
    let tail : List (List ℕ) = h.1 ++ (codes "end" ∷ rest) in
    let behind = own_again net s.general (k + 1) h.0 tail rest s.lines scripts ok h.3 (going_scripts h.1 rest) (λ j. scripts_again net (Some s.general) j h.1 rest scripts ok h.4 (later_tail net block s scripts later) going) in
    let one = read_begin net block k s.general (h.0 ++ tail) rest s.lines scripts (All-head (λ (s : Script). s.general < net.generals) s scripts later.known) ok.ranges.few_generals (All-head (λ (s : Script). Later block s.general) s scripts later.later) (going_own h.0 tail (going_scripts h.1 rest)) behind in
    let regrouped : lines ++ (codes "end" ∷ rest) ≡ line_of (said (codes "script") s.general) ∷ (h.0 ++ tail) =
    ap (λ (ls : List (List ℕ)). ls ++ (codes "end" ∷ rest)) h.2 ∙ ap (λ (ls : List (List ℕ)). line_of (said (codes "script") s.general) ∷ ls) (append_assoc h.0 h.1 (codes "end" ∷ rest)) in
    subst (λ (ps : List (List ℕ)). AgainOf net block k ps [] (s ∷ scripts) rest) (sym regrouped) one

-- the scripts of a text
pub blocks_again : (net : Network) (k : ℕ) (lines rest : List (List ℕ)) (scripts : List Script) → IsNetwork net → SpellsScripts net lines scripts
    → ((s : Script) → Contains scripts s → s.general < net.generals) → AllPairs (λ s t. s.general < t.general) scripts → IsGoing rest
    → AgainOf net None k (lines ++ (codes "end" ∷ rest)) [] scripts rest
blocks_again net k lines rest scripts ok h known ascending going =
    scripts_again net None k lines rest scripts ok h (record {
      known = All_of (λ (s : Script). s.general < net.generals) scripts known;
      later = All_of (λ (s : Script). Later None s.general) scripts (λ s among. tt);
      ascending = ascending;
    }) going

-- the lines of scripts are lines
lines_behind : (net : Network) (g : ℕ) (own more : List (List ℕ)) (lines : List ScriptLine) → IsNetwork net → SpellsLines net g own lines → AllByRecursion IsLine more → AllByRecursion IsLine (own ++ more)
lines_behind net g [] more [] ok h rest = rest
lines_behind net g [] more (it ∷ lines) ok h rest = absurd h
lines_behind net g (line ∷ own) more [] ok h rest = absurd h
lines_behind net g (line ∷ own) more (it ∷ lines) ok h rest = (script_line_is net g line it ok h.0 h.1, lines_behind net g own more lines ok h.2 rest)

pub blocks_are_lines : (net : Network) (lines : List (List ℕ)) (scripts : List Script) → IsNetwork net → SpellsScripts net lines scripts → ((s : Script) → Contains scripts s → s.general < net.generals) → AllByRecursion IsLine lines
blocks_are_lines net lines [] ok h known = subst (AllByRecursion IsLine) (sym h) tt
blocks_are_lines net lines (s ∷ scripts) ok h known =
    let lt = known s (Contains_here s scripts) in
    let head : IsLine (line_of (said (codes "script") s.general)) = (script_fields s.general (omega (arith, lt, ok.ranges.few_generals))).line in
    subst (AllByRecursion IsLine) (sym h.2) (head, lines_behind net s.general h.0 h.1 s.lines ok h.3 (blocks_are_lines net h.1 scripts ok h.4 (λ t among. known t (Contains_there s t scripts among))))
