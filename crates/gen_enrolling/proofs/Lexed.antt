-- The tokens of a text that begins with those of a value, and goes on.
use Rattle.std.proofs.Common.{◌≡◌, ℕ, Bool, true, false, cond, ◌&&◌, List, [], ◌∷◌, ◌++◌, fold, refl, ap, ap₂, ◌∙◌, append_assoc}
use Rattle.json.specs.Json.{Json, null, boolean, number, string, array, object, Items, no_items, item, Members, no_members, member}
use Rattle.json.specs.Lex.{Lexeme, token, comma, colon, string_token, lex, between, Place, fresh, after_value, begins_colon, punctuate, tokens}
use Rattle.json.specs.Print.{ArePrintable, IsPrintable, begins, ends, escape, print_from, quoted, token_text}
use Rattle.json.specs.Token.{Token}
use Rattle.json.specs.Tree.{items_tokens, json_tokens, members_tokens}
use Rattle.json.specs.Word.{ends_word, word}
use Rattle.json.proofs.Printed.Numbers.{in_word-ended, lex-number}
use Rattle.json.proofs.Printed.Strings.{content-escape, lex-escape}

-- ---- lexemes

abbrev token_lexemes : Token → List Lexeme
token_lexemes Token.begin_object = token Token.begin_object ∷ []
token_lexemes Token.end_object = token Token.end_object ∷ []
token_lexemes Token.begin_array = token Token.begin_array ∷ []
token_lexemes Token.end_array = token Token.end_array ∷ []
token_lexemes (Token.key s) = token (Token.string s) ∷ colon ∷ []
token_lexemes (Token.string s) = token (Token.string s) ∷ []
token_lexemes (Token.number s) = token (Token.number s) ∷ []
token_lexemes (Token.boolean b) = token (Token.boolean b) ∷ []
token_lexemes Token.null = token Token.null ∷ []
token_lexemes Token.bad = []

abbrev lexemes : Bool → List Token → List Lexeme
lexemes later [] = []
lexemes later (t ∷ ts) = cond (later && begins t) (comma ∷ []) [] ++ (token_lexemes t ++ lexemes (ends t) ts)

-- after a value stands a comma, a closing bracket or what goes on
value_ends : (ts : List Token) (r : List ℕ) → ends_word r ≡ true → ends_word (print_from true ts ++ r) ≡ true
unfolding print_from
value_ends [] r ended = ended
value_ends (Token.begin_object ∷ ts) r ended = refl
value_ends (Token.end_object ∷ ts) r ended = refl
value_ends (Token.begin_array ∷ ts) r ended = refl
value_ends (Token.end_array ∷ ts) r ended = refl
value_ends (Token.key s ∷ ts) r ended = refl
value_ends (Token.string s ∷ ts) r ended = refl
value_ends (Token.number s ∷ ts) r ended = refl
value_ends (Token.boolean b ∷ ts) r ended = refl
value_ends (Token.null ∷ ts) r ended = refl
value_ends (Token.bad ∷ ts) r ended = refl

quoted_lexed : (s r : List ℕ) → lex between (quoted s ++ r) ≡ token (Token.string s) ∷ lex between r
unfolding lex
quoted_lexed s r =
    let e = append_assoc (escape s) (34 ∷ []) r in
    ap (λ l. lex between (34 ∷ l)) e ∙ ap₂ (λ o l. token (string_token o) ∷ l) (content-escape s r) (lex-escape s r)

token_lexed : (t : Token) (r : List ℕ) → IsPrintable t → (ends t ≡ true → ends_word r ≡ true) → lex between (token_text t ++ r) ≡ token_lexemes t ++ lex between r
unfolding lex word
token_lexed Token.begin_object r h ended = refl
token_lexed Token.end_object r h ended = refl
token_lexed Token.begin_array r h ended = refl
token_lexed Token.end_array r h ended = refl
token_lexed (Token.key s) r h ended = ap (lex between) (append_assoc (quoted s) (58 ∷ []) r) ∙ quoted_lexed s (58 ∷ r)
token_lexed (Token.string s) r h ended = quoted_lexed s r
token_lexed (Token.number s) r h ended = lex-number s r h (ended refl)
token_lexed (Token.boolean true) r h ended = ap₂ (λ b l. token (cond b (Token.boolean true) Token.bad) ∷ l) (ended refl) (in_word-ended r (ended refl))
token_lexed (Token.boolean false) r h ended = ap₂ (λ b l. token (cond b (Token.boolean false) Token.bad) ∷ l) (ended refl) (in_word-ended r (ended refl))
token_lexed Token.null r h ended = ap₂ (λ b l. token (cond b Token.null Token.bad) ∷ l) (ended refl) (in_word-ended r (ended refl))
token_lexed Token.bad r h ended = absurd h

comma_lexed : (b : Bool) (r : List ℕ) → lex between (cond b (44 ∷ []) [] ++ r) ≡ cond b (comma ∷ []) [] ++ lex between r
unfolding lex
comma_lexed true r = refl
comma_lexed false r = refl

printed_lexed : (later : Bool) (ts : List Token) (r : List ℕ) → ArePrintable ts → ends_word r ≡ true → lex between (print_from later ts ++ r) ≡ lexemes later ts ++ lex between r
unfolding lex print_from ArePrintable
printed_lexed later [] r h ended = refl
printed_lexed later (t ∷ ts) r h ended =
    let front = cond (later && begins t) (44 ∷ []) [] in
    let more = print_from (ends t) ts in
    ap (lex between) (append_assoc front (token_text t ++ more) r ∙ ap (λ l. front ++ l) (append_assoc (token_text t) more r))
    ∙ comma_lexed (later && begins t) (token_text t ++ (more ++ r))
    ∙ ap (λ l. cond (later && begins t) (comma ∷ []) [] ++ l)
    (token_lexed t (more ++ r) h.0 (λ e. ap (λ b. ends_word (print_from b ts ++ r)) e ∙ value_ends ts r ended)
    ∙ ap (λ l. token_lexemes t ++ l) (printed_lexed (ends t) ts r h.1 ended)
    ∙ append_sym (token_lexemes t) (lexemes (ends t) ts) (lex between r))
    ∙ append_sym (cond (later && begins t) (comma ∷ []) []) (token_lexemes t ++ lexemes (ends t) ts) (lex between r)
  where
    append_sym : (xs ys zs : List Lexeme) → xs ++ (ys ++ zs) ≡ (xs ++ ys) ++ zs
    append_sym xs ys zs = simp append_assoc

-- ---- tokens

no_colon : (ts : List Token) (ls : List Lexeme) → begins_colon ls ≡ false → begins_colon (lexemes true ts ++ ls) ≡ false
no_colon [] ls h = h
no_colon (Token.begin_object ∷ ts) ls h = refl
no_colon (Token.end_object ∷ ts) ls h = refl
no_colon (Token.begin_array ∷ ts) ls h = refl
no_colon (Token.end_array ∷ ts) ls h = refl
no_colon (Token.key s ∷ ts) ls h = refl
no_colon (Token.string s ∷ ts) ls h = refl
no_colon (Token.number s ∷ ts) ls h = refl
no_colon (Token.boolean b ∷ ts) ls h = refl
no_colon (Token.null ∷ ts) ls h = refl
no_colon (Token.bad ∷ ts) ls h = refl

abbrev place : Bool → Place
place later = cond later after_value fresh

-- whether these tokens leave a value just ended
abbrev ended_by : Bool → List Token → Bool
ended_by later ts = fold (λ _ t. ends t) later ts

punctuated : (later : Bool) (ts : List Token) (ls : List Lexeme) → ArePrintable ts → begins_colon ls ≡ false
    → punctuate (place later) (lexemes later ts ++ ls) ≡ ts ++ punctuate (place (ended_by later ts)) ls
unfolding punctuate ArePrintable
punctuated true [] ls h c = refl
punctuated false [] ls h c = refl
punctuated true (Token.begin_object ∷ ts) ls h c = ap (λ l. Token.begin_object ∷ l) (punctuated false ts ls h.1 c)
punctuated true (Token.end_object ∷ ts) ls h c = ap (λ l. Token.end_object ∷ l) (punctuated true ts ls h.1 c)
punctuated true (Token.begin_array ∷ ts) ls h c = ap (λ l. Token.begin_array ∷ l) (punctuated false ts ls h.1 c)
punctuated true (Token.end_array ∷ ts) ls h c = ap (λ l. Token.end_array ∷ l) (punctuated true ts ls h.1 c)
punctuated true (Token.key s ∷ ts) ls h c = ap (λ l. Token.key s ∷ l) (punctuated false ts ls h.1 c)
punctuated true (Token.number s ∷ ts) ls h c = ap (λ l. Token.number s ∷ l) (punctuated true ts ls h.1 c)
punctuated true (Token.boolean b ∷ ts) ls h c = ap (λ l. Token.boolean b ∷ l) (punctuated true ts ls h.1 c)
punctuated true (Token.null ∷ ts) ls h c = ap (λ l. Token.null ∷ l) (punctuated true ts ls h.1 c)
punctuated true (Token.string s ∷ ts) ls h c = rw (no_colon ts ls c) (ap (λ l. Token.string s ∷ l) (punctuated true ts ls h.1 c))
punctuated true (Token.bad ∷ ts) ls h c = absurd h.0
punctuated false (Token.begin_object ∷ ts) ls h c = ap (λ l. Token.begin_object ∷ l) (punctuated false ts ls h.1 c)
punctuated false (Token.end_object ∷ ts) ls h c = ap (λ l. Token.end_object ∷ l) (punctuated true ts ls h.1 c)
punctuated false (Token.begin_array ∷ ts) ls h c = ap (λ l. Token.begin_array ∷ l) (punctuated false ts ls h.1 c)
punctuated false (Token.end_array ∷ ts) ls h c = ap (λ l. Token.end_array ∷ l) (punctuated true ts ls h.1 c)
punctuated false (Token.key s ∷ ts) ls h c = ap (λ l. Token.key s ∷ l) (punctuated false ts ls h.1 c)
punctuated false (Token.number s ∷ ts) ls h c = ap (λ l. Token.number s ∷ l) (punctuated true ts ls h.1 c)
punctuated false (Token.boolean b ∷ ts) ls h c = ap (λ l. Token.boolean b ∷ l) (punctuated true ts ls h.1 c)
punctuated false (Token.null ∷ ts) ls h c = ap (λ l. Token.null ∷ l) (punctuated true ts ls h.1 c)
punctuated false (Token.string s ∷ ts) ls h c = rw (no_colon ts ls c) (ap (λ l. Token.string s ∷ l) (punctuated true ts ls h.1 c))
punctuated false (Token.bad ∷ ts) ls h c = absurd h.0

-- ---- a value leaves a value just ended

ended_behind : (later : Bool) (ts us : List Token) → ended_by later (ts ++ us) ≡ ended_by (ended_by later ts) us
ended_behind later [] us = refl
ended_behind later (t ∷ ts) us = ended_behind (ends t) ts us

mutual
  value_ended : (later : Bool) (j : Json) → ended_by later (json_tokens j) ≡ true
  value_ended later null = refl
  value_ended later (boolean b) = refl
  value_ended later (number s) = refl
  value_ended later (string s) = refl
  value_ended later (array js) = items_ended false js
  value_ended later (object ms) = members_ended false ms

  items_ended : (later : Bool) (js : Items) → ended_by later (items_tokens js) ≡ true
  items_ended later no_items = refl
  items_ended later (item j js) = ended_behind later (json_tokens j) (items_tokens js) ∙ items_ended _ js

  members_ended : (later : Bool) (ms : Members) → ended_by later (members_tokens ms) ≡ true
  members_ended later no_members = refl
  members_ended later (member k j ms) = ended_behind false (json_tokens j) (members_tokens ms) ∙ members_ended _ ms

-- The text of an object that begins with this member, and goes on behind a comma.
pub member_and_more : (k : List ℕ) (j : Json) (others : List ℕ) → ArePrintable (json_tokens j)
    → tokens (print_from false (Token.begin_object ∷ Token.key k ∷ json_tokens j) ++ 44 ∷ others)
    ≡ (Token.begin_object ∷ Token.key k ∷ json_tokens j) ++ punctuate (place true) (lex between (44 ∷ others))
unfolding lex ArePrintable
member_and_more k j others h =
    let ts = Token.begin_object ∷ Token.key k ∷ json_tokens j in
    ap (punctuate fresh) (printed_lexed false ts (44 ∷ others) (tt, (tt, h)) refl)
    ∙ punctuated false ts (lex between (44 ∷ others)) (tt, (tt, h)) refl
    ∙ ap (λ b. ts ++ punctuate (place b) (lex between (44 ∷ others))) (value_ended false j)
