-- Members that are put in, in another order.
use Rattle.std.proofs.Common.{◌≡◌, ℕ, List, Some, None, option_and_then, Ordering, Less, Equal, Greater, refl, sym, ap, ◌∙◌}
use Rattle.std.proofs.lemmas.Cmp.{nat_list_cmp_total}
use Rattle.std.proofs.lemmas.Map.Text.{is_eq-slice_cmp}
use Rattle.std.proofs.lemmas.Option.{none-some, option_and_then_some, same_Some}
use Rattle.std.proofs.lemmas.Slice.Eq.{bytes_eq-Decides}
use Rattle.std.specs.Cmp.Lexicographic.{slice_cmp}
use Rattle.std.specs.Ordering.{is_eq, nat_cmp, ordering_reverse}
use Rattle.json.specs.Json as json
use Rattle.serde_json.specs.Data.{Data, Members, no_members, member, put}
use Rattle.serde_json.specs.Find.{get_member}
use Rattle.serde_json.specs.Read.{of_json, of_members}
use Rattle.serde_json.proofs.Views.{get_member-put, get_member-put_other}

-- how two names compare
abbrev pub compared : List ℕ → List ℕ → Ordering
compared k l = slice_cmp nat_cmp k l

same_name : (k l : List ℕ) → compared k l ≡ Equal → k ≡ l
same_name k l e = (bytes_eq-Decides k l).0 (sym (is_eq-slice_cmp k l) ∙ ap is_eq e)

turned : (k l : List ℕ) (o : Ordering) → compared k l ≡ o → compared l k ≡ ordering_reverse o
turned k l o e = nat_list_cmp_total.antisymm l k ∙ ap ordering_reverse e

-- of two members with other names, either may be put in first
abbrev Commute : List ℕ → List ℕ → Data → Data → Members → Type 0
Commute k l d e ms = put k d (put l e ms) ≡ put l e (put k d ms)

by_orders : (k l m : List ℕ) (d e f : Data) (ms : Members) (a b c : Ordering) → compared k l ≡ a → compared k m ≡ b → compared l m ≡ c
    → (k ≡ l → ⊥) → Commute k l d e ms → Commute k l d e (member m f ms)
by_orders k l m d e f ms Equal b c is_a is_b is_c other again = absurd (other (same_name k l is_a))
by_orders k l m d e f ms Less b Less is_a is_b is_c other again =
    rw (is_c, is_a, nat_list_cmp_total.trans k l m is_a is_c, turned k l Less is_a, is_c) refl
by_orders k l m d e f ms Greater Less Less is_a is_b is_c other again = rw (is_c, is_a, is_b, turned k l Greater is_a) refl
by_orders k l m d e f ms Greater Equal Less is_a is_b is_c other again = rw (is_c, is_a, is_b, is_c) refl
by_orders k l m d e f ms Greater Greater Less is_a is_b is_c other again = rw (is_c, is_a, is_b, is_c) refl
by_orders k l m d e f ms a Less Equal is_a is_b is_c other again =
    let below : compared k l ≡ Less = ap (compared k) (same_name l m is_c) ∙ is_b in
    rw (is_c, is_b, turned k l Less below, is_c) refl
by_orders k l m d e f ms a Equal Equal is_a is_b is_c other again = absurd (other (same_name k m is_b ∙ sym (same_name l m is_c)))
by_orders k l m d e f ms a Greater Equal is_a is_b is_c other again = rw (is_c, is_b, is_c) refl
by_orders k l m d e f ms a Less Greater is_a is_b is_c other again =
    let below = nat_list_cmp_total.trans k m l is_b (turned l m Greater is_c) in
    rw (is_c, is_b, turned k l Less below, is_c) refl
by_orders k l m d e f ms a Equal Greater is_a is_b is_c other again = rw (is_c, is_b, is_c) refl
by_orders k l m d e f ms a Greater Greater is_a is_b is_c other again = rw (is_c, is_b, is_c) (ap (member m f) again)

pub put_before : (k l : List ℕ) (d e : Data) (ms : Members) → (k ≡ l → ⊥) → Commute k l d e ms
put_before k l d e no_members other = at_end (compared k l) refl
  where
    at_end : (o : Ordering) → compared k l ≡ o → Commute k l d e no_members
    at_end Less is = rw (is, turned k l Less is) refl
    at_end Equal is = absurd (other (same_name k l is))
    at_end Greater is = rw (is, turned k l Greater is) refl
put_before k l d e (member m f ms) other =
    by_orders k l m d e f ms (compared k l) (compared k m) (compared l m) refl refl refl other (put_before k l d e ms other)

-- ---- members that are read one after another

apart : (k l : List ℕ) (d : Data) (found : Members) → get_member k (put l d found) ≡ None → k ≡ l → ⊥
apart k l d found none same = none-some d (sym none ∙ ap (λ q. get_member q (put l d found)) same ∙ get_member-put l d found)

-- a name that is not found in the end was not found before
kept_apart : (k : List ℕ) (js : json.Members) (found r : Members) → of_members js found ≡ Some r → get_member k r ≡ None → get_member k found ≡ None
kept_apart k json.no_members found r e none = ap (get_member k) (same_Some found r e) ∙ none
kept_apart k (json.member l j js) found r e none =
    option_and_then_some (λ d. of_members js (put l d found)) (of_json j) r e (λ d is e1.
    let later = kept_apart k js (put l d found) r e1 none in
    sym (get_member-put_other k l d found (apart k l d found later)) ∙ later)

-- a member of another name may be put in first
pub put_first : (k : List ℕ) (d : Data) (js : json.Members) (found r : Members) → of_members js found ≡ Some r → get_member k r ≡ None → of_members js (put k d found) ≡ Some (put k d r)
put_first k d json.no_members found r e none = ap (λ ms. Some (put k d ms)) (same_Some found r e)
put_first k d (json.member l j js) found r e none =
    option_and_then_some (λ own. of_members js (put l own found)) (of_json j) r e (λ own is e1.
    let other = apart k l own found (kept_apart k js (put l own found) r e1 none) in
    ap (option_and_then (λ own. of_members js (put l own (put k d found)))) is
    ∙ ap (of_members js) (sym (put_before k l d own found other))
    ∙ put_first k d js (put l own found) r e1 none)
