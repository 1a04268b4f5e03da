-- A reader of JSON finds the runs in an object that they were put in front of.
use Rattle.std.proofs.Common.{◌≡◌, ◌≢◌, ℕ, ◌≤◌, suc, List, [], ◌∷◌, ◌++◌, Bool, true, false, codes, drop, get_or, Option, Some, None, option_and_then, option_map, refl, sym, ap, ◌∙◌, subst, arith, append-nil, append_assoc}
use Rattle.std.proofs.lemmas.Option.{none-some, option_and_then_some, same_Some}
use Rattle.json.specs.Json as json
use Rattle.json.specs.Lex.{Lexeme, token, comma, colon, lex, between, Place, fresh, after_comma, place_token, begins_colon, punctuate, tokens}
use Rattle.json.specs.Print.{escape_byte, print_from, quoted}
use Rattle.json.specs.Token.{Token}
use Rattle.json.specs.Tree as tree
use Rattle.json.proofs.Nesting.{value-depth}
use Rattle.json.proofs.Numbered.{document-HasNumbers}
use Rattle.json.proofs.Printed.Trees.{ArePrintable-json_tokens, value-json_tokens}
use Rattle.json.proofs.Unique.Spelling.{value-json_tokens_back}
use Rattle.serde_json.specs.Data.{Data, null, boolean, number, string, array, object, Items, no_items, item, Members, no_members, member, put, depth, items_depth, members_depth}
use Rattle.serde_json.specs.Find.{get_member}
use Rattle.serde_json.specs.Read.{of_json, of_members, read}
use Rattle.serde_json.specs.Written.{IsInOrder, compact_text, has_float, items_outline, members_outline, outline}
use Rattle.serde_json.proofs.Texts.{print-outline, tokens_from_order}
use Rattle.gen_json.specs.Line.{ReadsAs}
use Rattle.gen_json.proofs.Plain.{items_plain, items_shallow, numbers_plain, numbers_shallow}
use Rattle.gen_enrolling.specs.declared.admitted.AdmittedRun.{AdmittedRun}
use Rattle.gen_enrolling.specs.declared.admitted.AdmittedRuns.{AdmittedRuns}
use Rattle.gen_enrolling.specs.Telling.{admitted_data, admitted_json, admitted_name, object_with, run_data}
use Rattle.gen_enrolling.specs.ToldReading.{ReadsBack, ReadsBeside}
use Rattle.gen_enrolling.proofs.Lexed.{member_and_more}
use Rattle.gen_enrolling.proofs.Putting.{put_first}

-- the value that the whole of a text is
abbrev whole : Option (json.Json × List Token) → Option Data
whole o = option_and_then of_json (option_and_then (λ p. json.if_last p.0 p.1) o)

-- ---- a value's outline

mutual
  outline_depth : (d : Data) → tree.depth (outline d) ≡ depth d
  outline_depth null = refl
  outline_depth (boolean b) = refl
  outline_depth (number n) = refl
  outline_depth (string s) = refl
  outline_depth (array ds) = ap suc (outline_items_depth ds)
  outline_depth (object ms) = ap suc (outline_members_depth ms)

  outline_items_depth : (ds : Items) → tree.items_depth (items_outline ds) ≡ items_depth ds
  outline_items_depth no_items = refl
  outline_items_depth (item d ds) = rw (outline_depth d, outline_items_depth ds) refl

  outline_members_depth : (ms : Members) → tree.members_depth (members_outline ms) ≡ members_depth ms
  outline_members_depth no_members = refl
  outline_members_depth (member k d ms) = rw (outline_depth d, outline_members_depth ms) refl

parsed : (d : Data) (limit : ℕ) → has_float d ≡ false → IsInOrder (compact_text d) d → depth d ≤ limit → json.value limit (tokens (compact_text d)) ≡ Some (outline d, [])
parsed d limit plain order low =
    ap (json.value limit) (tokens_from_order (compact_text d) d order plain ∙ sym (append-nil (tree.json_tokens (outline d))))
    ∙ value-json_tokens (outline d) limit [] (omega (arith, outline_depth d))

outline_read : (d : Data) → has_float d ≡ false → IsInOrder (compact_text d) d → read (compact_text d) ≡ Some d → depth d ≤ 126 → of_json (outline d) ≡ Some d
outline_read d plain order reads low = sym (ap whole (parsed d 127 plain order (omega arith))) ∙ reads

numbered : (d : Data) → has_float d ≡ false → IsInOrder (compact_text d) d → depth d ≤ 126 → tree.HasNumbers (outline d)
numbered d plain order low =
    document-HasNumbers (compact_text d) (outline d) (ap (option_and_then (λ p. json.if_last p.0 p.1)) (parsed d 128 plain order (omega arith)))

-- ---- an object that was read

alone : (o : Option (json.Json × List Token)) (j : json.Json) → option_and_then (λ p. json.if_last p.0 p.1) o ≡ Some j → o ≡ Some (j, [])
alone None j e = absurd (none-some j e)
alone (Some (i, [])) j e = ap (λ (x : json.Json). Some (x, [])) (same_Some i j e)
alone (Some (i, t ∷ r)) j e = absurd (none-some j e)

in_object : (o : Option Members) (ms : Members) → option_map object o ≡ Some (object ms) → o ≡ Some ms
in_object None ms e = absurd (none-some (object ms) e)
in_object (Some found) ms e = ap members_in e
  where
    members_of : Data → Members
    members_of null = no_members
    members_of (boolean b) = no_members
    members_of (number n) = no_members
    members_of (string s) = no_members
    members_of (array ds) = no_members
    members_of (object ms) = ms

    members_in : Option Data → Option Members
    members_in None = None
    members_in (Some d) = Some (members_of d)

-- the members of an object, as it was read
record HasRead (ms : Members) (ts : List Token) : Type 0 where
  own : json.Members
  tokens_are : ts ≡ tree.members_tokens own
  read_as : of_members own no_members ≡ Some ms
  low : tree.members_depth own ≤ 126

opened : (j : json.Json) (ms : Members) (ts : List Token) → of_json j ≡ Some (object ms) → Token.begin_object ∷ ts ≡ tree.json_tokens j → tree.depth j ≤ 127 → HasRead ms ts
opened json.null ms ts e same low = absurd cc
opened (json.boolean b) ms ts e same low = absurd cc
opened (json.number s) ms ts e same low = absurd cc
opened (json.string s) ms ts e same low = absurd cc
opened (json.array js) ms ts e same low = absurd cc
opened (json.object own) ms ts e same low = record {
  own = own;
  tokens_are = ap (λ l. drop 1 l) same;
  read_as = in_object (of_members own no_members) ms e;
  low = omega arith;
}

was_read : (ts : List Token) (ms : Members) → whole (json.value 127 (Token.begin_object ∷ ts)) ≡ Some (object ms) → HasRead ms ts
was_read ts ms e =
    option_and_then_some of_json _ (object ms) e (λ j is of_j.
    let one = alone (json.value 127 (Token.begin_object ∷ ts)) j is in
    opened j ms ts of_j (value-json_tokens_back 127 (Token.begin_object ∷ ts) [] j one ∙ append-nil (tree.json_tokens j)) (value-depth 127 (Token.begin_object ∷ ts) [] j one))

-- ---- members stand behind a comma as they stand behind a bracket

by_colon : (s : List ℕ) (b : Bool) (k : Place → List Token) → place_token fresh (Token.string s) b k ≡ place_token after_comma (Token.string s) b k
by_colon s true k = refl
by_colon s false k = refl

behind_comma : (ls : List Lexeme) (k : List ℕ) (ts : List Token) → punctuate fresh ls ≡ Token.key k ∷ ts → punctuate after_comma ls ≡ Token.key k ∷ ts
unfolding punctuate
behind_comma [] k ts e = absurd cc
behind_comma (comma ∷ ls) k ts e = e
behind_comma (colon ∷ ls) k ts e = e
behind_comma (token Token.begin_object ∷ ls) k ts e = e
behind_comma (token Token.end_object ∷ ls) k ts e = absurd cc
behind_comma (token Token.begin_array ∷ ls) k ts e = e
behind_comma (token Token.end_array ∷ ls) k ts e = absurd cc
behind_comma (token (Token.key s) ∷ ls) k ts e = e
behind_comma (token (Token.string s) ∷ ls) k ts e = sym (by_colon s (begins_colon ls) (λ next. punctuate next ls)) ∙ e
behind_comma (token (Token.number s) ∷ ls) k ts e = e
behind_comma (token (Token.boolean b) ∷ ls) k ts e = e
behind_comma (token Token.null ∷ ls) k ts e = e
behind_comma (token Token.bad ∷ ls) k ts e = e

members_behind : (own : json.Members) (ms : Members) (ls : List Lexeme) → of_members own no_members ≡ Some ms → ms ≢ no_members
    → punctuate fresh ls ≡ tree.members_tokens own → punctuate after_comma ls ≡ tree.members_tokens own
members_behind json.no_members ms ls e some same = absurd (some (sym (same_Some no_members ms e)))
members_behind (json.member k j own) ms ls e some same = behind_comma ls k (tree.json_tokens j ++ tree.members_tokens own) same

-- ---- the whole

text_is : (k : List ℕ) (d : Data) (others : List ℕ)
    → 123 ∷ (quoted k ++ 58 ∷ (compact_text d ++ 44 ∷ others)) ≡ print_from false (Token.begin_object ∷ Token.key k ∷ tree.json_tokens (outline d)) ++ 44 ∷ others
unfolding print_from
text_is k d others =
    ap (λ l. 123 ∷ l)
    (sym (append_assoc (quoted k) (58 ∷ []) (compact_text d ++ 44 ∷ others))
    ∙ sym (append_assoc (quoted k ++ 58 ∷ []) (compact_text d) (44 ∷ others))
    ∙ ap (λ l. ((quoted k ++ 58 ∷ []) ++ l) ++ 44 ∷ others) (sym (print-outline d)))

read_whole : (j : json.Json) (text : List ℕ) → tokens text ≡ tree.json_tokens j → tree.depth j ≤ 127 → read text ≡ of_json j
read_whole j text same low =
    ap whole (ap (json.value 127) (same ∙ sym (append-nil (tree.json_tokens j))) ∙ value-json_tokens j 127 [] low)

reads_with : (k : List ℕ) (d : Data) (others : List ℕ) (ms : Members) → has_float d ≡ false → ReadsBack d → depth d ≤ 126
    → read (123 ∷ others) ≡ Some (object ms) → ms ≢ no_members → get_member k ms ≡ None
    → read (123 ∷ (quoted k ++ 58 ∷ (compact_text d ++ 44 ∷ others))) ≡ Some (object (put k d ms))
unfolding punctuate lex
reads_with k d others ms plain back low e some none =
    let ls = lex between others in
    let h = was_read (punctuate fresh ls) ms e in
    let j = json.object (json.member k (outline d) h.own) in
    let behind : punctuate after_comma ls ≡ tree.members_tokens h.own = members_behind h.own ms ls h.read_as some h.tokens_are in
    let same : tokens (123 ∷ (quoted k ++ 58 ∷ (compact_text d ++ 44 ∷ others))) ≡ tree.json_tokens j =
    ap tokens (text_is k d others)
    ∙ member_and_more k (outline d) others (ArePrintable-json_tokens (outline d) (numbered d plain back.order low))
    ∙ ap (λ ts. Token.begin_object ∷ Token.key k ∷ (tree.json_tokens (outline d) ++ ts)) behind in
    read_whole j (123 ∷ (quoted k ++ 58 ∷ (compact_text d ++ 44 ∷ others))) same (omega (arith, outline_depth d, h.low))
    ∙ ap (λ o. option_map object (option_and_then (λ own. of_members h.own (put k own no_members)) o)) (outline_read d plain back.order back.reads low)
    ∙ ap (λ o. option_map object o) (put_first k d h.own no_members ms h.read_as none)

-- ---- the runs

run_plain : (r : AdmittedRun) → has_float (run_data r) ≡ false
run_plain r = rw (numbers_plain r.nodes.items) refl

pub runs_plain : (a : AdmittedRuns) → has_float (admitted_data a) ≡ false
runs_plain a = rw (items_plain run_data run_plain a.runs.items) refl

run_low : (r : AdmittedRun) → depth (run_data r) ≤ 2
run_low r = omega (arith, numbers_shallow r.nodes.items)

pub runs_low : (a : AdmittedRuns) → depth (admitted_data a) ≤ 4
runs_low a = omega (arith, items_shallow run_data 2 run_low a.runs.items)

-- what was written for a value without floats
pub reads_back : (d e : Data) (text : List ℕ) → d ≡ e → has_float e ≡ false → depth e ≤ 127 → (has_float d ≡ false → text ≡ compact_text d) → IsInOrder text d → (depth d ≤ 127 → read text ≡ Some d) → ReadsBack e
reads_back d e text same plain low is order reads =
    let text_is : text ≡ compact_text e = is (ap has_float same ∙ plain) ∙ ap compact_text same in
    record {
      order = subst (λ (t : List ℕ). IsInOrder t e) text_is (subst (λ (x : Data). IsInOrder text x) same order);
      reads = ap read (sym text_is) ∙ reads (subst (λ (x : Data). depth x ≤ 127) (sym same) low) ∙ ap (λ (x : Data). Some x) same;
    }

-- the member's name is quoted as it is
member_is : (a : AdmittedRuns) (others : List ℕ) → 123 ∷ (quoted admitted_name ++ 58 ∷ (compact_text (admitted_data a) ++ 44 ∷ others)) ≡ object_with a (123 ∷ others)
unfolding escape_byte
member_is a others = ap (λ l. 123 ∷ l) (sym (append_assoc (codes "\"admitted\":") (compact_text (admitted_data a)) (44 ∷ others)))

-- the line of an object begins with the brace of its text
record Lined (line : List ℕ) (own : Members) : Type 0 where
  others : List ℕ
  line_is : line ≡ others ++ codes "\n"
  reads : read (123 ∷ others) ≡ Some (object own)

lined : (line text : List ℕ) (own : Members) → 123 ∷ line ≡ text ++ codes "\n" → read text ≡ Some (object own) → Lined line own
lined line [] own is reads = absurd cc
lined line (x ∷ text) own is reads =
    let first : 123 ≡ x = ap (λ l. get_or l 0 0) is in
    record { others = text; line_is = ap (λ l. drop 1 l) is; reads = ap (λ y. read (y ∷ text)) first ∙ reads }

object_reads : (a : AdmittedRuns) (line : List ℕ) (own : Members) → ReadsBack (admitted_data a) → ReadsAs (123 ∷ line) (object own) → own ≢ no_members → get_member admitted_name own ≡ None
    → ReadsAs (object_with a (123 ∷ line)) (object (put admitted_name (admitted_data a) own))
object_reads a line own back reads some lacks =
    let l = lined line reads.text own reads.line reads.value in
    let value = reads_with admitted_name (admitted_data a) l.others own (runs_plain a) back (omega (arith, runs_low a)) l.reads some lacks in
    record {
      text = object_with a (123 ∷ l.others);
      line = ap (λ (xs : List ℕ). object_with a (123 ∷ xs)) l.line_is
          ∙ ap (λ (xs : List ℕ). 123 ∷ xs) (sym (append_assoc (admitted_json a) (44 ∷ l.others) (codes "\n")));
      value = ap read (sym (member_is a l.others)) ∙ value;
    }

pub reads_beside : (a : AdmittedRuns) (answer told : List ℕ) → ReadsBack (admitted_data a) → told ≡ object_with a answer → ReadsBeside a answer told
reads_beside a answer told back is line rest own b = (
  object_with a (123 ∷ line),
  is ∙ ap (object_with a) b.begins ∙ ap (λ (xs : List ℕ). 123 ∷ xs) (sym (append_assoc (admitted_json a) (44 ∷ line) rest)),
  object_reads a line own back b.reads b.some b.lacks,
)
