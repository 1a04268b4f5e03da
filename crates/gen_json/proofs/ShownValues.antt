-- A text is that of one value.
use Rattle.std.proofs.Common.{◌≡◌, ℕ, ◌+◌, ◌≤◌, List, [], Some, option_map, unwrap_or, refl, sym, ap, ◌∙◌, arith, append-nil}
use Rattle.std.specs.Str.Parse.{digits_value}
use Rattle.std.proofs.lemmas.Fmt.{decimal_is_IsNumeral}
use Rattle.json.specs.Json as json
use Rattle.json.specs.Lex.{tokens}
use Rattle.json.specs.Token.{Token}
use Rattle.json.specs.Tree.{HasNumbers, ItemsHaveNumbers, MembersHaveNumbers, depth, json_tokens}
use Rattle.json.proofs.Printed.Decimals.{IsNumber-decimal}
use Rattle.json.proofs.Printed.Tokens.{tokens-print}
use Rattle.json.proofs.Printed.Trees.{ArePrintable-json_tokens, value-json_tokens}
use Rattle.serde_json.specs.Data.{unsigned, negative, float, Data, null, boolean, number, string, array, object, Items, no_items, item, Members, no_members, member}
use Rattle.serde_json.specs.Written.{compact_text, items_outline, members_outline, outline}
use Rattle.serde_json.proofs.Texts.{print-outline}
use Rattle.gen_json.specs.LineLists.{HasWhole, ItemsHaveWhole, MembersHaveWhole}

-- ---- the value of an outline

mutual
  value_of : json.Json → Data
  value_of json.null = null
  value_of (json.boolean b) = boolean b
  value_of (json.number s) = number (unsigned (digits_value 10 s))
  value_of (json.string s) = string s
  value_of (json.array js) = array (items_in js)
  value_of (json.object ms) = object (members_in ms)

  items_in : json.Items → Items
  items_in json.no_items = no_items
  items_in (json.item j js) = item (value_of j) (items_in js)

  members_in : json.Members → Members
  members_in json.no_members = no_members
  members_in (json.member k j ms) = member k (value_of j) (members_in ms)

mutual
  unfolding value_of items_in members_in

  outlined : (d : Data) → HasWhole d → value_of (outline d) ≡ d
  outlined null h = refl
  outlined (boolean b) h = refl
  outlined (number (unsigned n)) h = ap (λ k. number (unsigned k)) (decimal_is_IsNumeral n h).1
  outlined (number (negative z)) h = absurd h
  outlined (number (float x)) h = absurd h
  outlined (string s) h = refl
  outlined (array ds) h = ap array (items_outlined ds h)
  outlined (object ms) h = ap object (members_outlined ms h)

  items_outlined : (ds : Items) → ItemsHaveWhole ds → items_in (items_outline ds) ≡ ds
  items_outlined no_items h = refl
  items_outlined (item d ds) h = rw (outlined d h.0, items_outlined ds h.1) refl

  members_outlined : (ms : Members) → MembersHaveWhole ms → members_in (members_outline ms) ≡ ms
  members_outlined no_members h = refl
  members_outlined (member k d ms) h = rw (outlined d h.0, members_outlined ms h.1) refl

-- ---- the outline of a text

mutual
  numbered : (d : Data) → HasWhole d → HasNumbers (outline d)
  numbered null h = tt
  numbered (boolean b) h = tt
  numbered (number (unsigned n)) h = IsNumber-decimal n h
  numbered (number (negative z)) h = absurd h
  numbered (number (float x)) h = absurd h
  numbered (string s) h = tt
  numbered (array ds) h = items_numbered ds h
  numbered (object ms) h = members_numbered ms h

  items_numbered : (ds : Items) → ItemsHaveWhole ds → ItemsHaveNumbers (items_outline ds)
  items_numbered no_items h = tt
  items_numbered (item d ds) h = (numbered d h.0, items_numbered ds h.1)

  members_numbered : (ms : Members) → MembersHaveWhole ms → MembersHaveNumbers (members_outline ms)
  members_numbered no_members h = tt
  members_numbered (member k d ms) h = (numbered d h.0, members_numbered ms h.1)

tokens_of : (d : Data) → HasWhole d → tokens (compact_text d) ≡ json_tokens (outline d)
tokens_of d h = ap tokens (sym (print-outline d)) ∙ tokens-print (json_tokens (outline d)) (ArePrintable-json_tokens (outline d) (numbered d h))

read_of : (limit : ℕ) (d : Data) → HasWhole d → depth (outline d) ≤ limit → json.value limit (tokens (compact_text d)) ≡ Some (outline d, [])
read_of limit d h low =
    ap (json.value limit) (tokens_of d h ∙ sym (append-nil (json_tokens (outline d)))) ∙ value-json_tokens (outline d) limit [] low

pub one_value : (d e : Data) → HasWhole d → HasWhole e → compact_text d ≡ compact_text e → d ≡ e
one_value d e h k same =
    let limit = depth (outline d) + depth (outline e) in
    let read = sym (read_of limit d h (omega arith)) ∙ ap (λ t. json.value limit (tokens t)) same ∙ read_of limit e k (omega arith) in
    let outlines : outline d ≡ outline e = ap (λ o. unwrap_or (option_map (λ (p : json.Json × List Token). p.0) o) (outline d)) read in
    sym (outlined d h) ∙ ap value_of outlines ∙ outlined e k
