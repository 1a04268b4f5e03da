-- Roots that are put at the places of their states.
use Rattle.std.proofs.Common.{◌≡◌, ◌<◌, ◌+◌, inl, inr, true, ℕ, refl, take, List, [], length, slice_index_or, slice_set, Option, Some, None, IfSome, is_some, sym, ap, subst, ◌∙◌, arith}
use Rattle.std.proofs.lemmas.Bool.{cases_eq}
use Rattle.std.proofs.lemmas.List.{get_or-set_other, length-set}
use Rattle.std.proofs.lemmas.List.Elements.{All-get_or, All-from_get_or, All-more}
use Rattle.std.proofs.lemmas.Grind.{get_or-set_at}
use Rattle.gen_types.specs.declared.heights.TreeHeight.{TreeHeight}
use Rattle.gen_tree.specs.Rings.{ring_root}
use Rattle.gen_identity.specs.States.{set_seed}
use Rattle.gen_enroll.specs.declared.taking.MadeRoot.{MadeRoot}
use Rattle.gen_enroll.specs.Taking.{AreFound, AreThere, IsMade}

-- what is found once a root more was put at its place
pub found_after : (states : List (List ℕ)) (height : TreeHeight) (found : List (Option (List ℕ))) (made : MadeRoot) → IsMade states height made → AreFound states height found
    → AreFound states height (slice_set found made.place (Some made.root))
found_after states height found made is are =
    let new = slice_set found made.place (Some made.root) in
    let there : made.place < length found = omega (arith, is.within, are.all) in
    record {
      all = length-set found made.place (Some made.root) ∙ are.all;
      each = λ place below.
          elim (cases_eq place made.place) [
            | inl same ↦
                let put : slice_index_or new place None ≡ Some made.root = get_or-set_at found made.place place (Some made.root) None same there in
                let root = is.root ∙ ap (λ (i : ℕ). ring_root (set_seed (slice_index_or states i [])) height) (sym same) in
                subst (λ (o : Option (List ℕ)). IfSome o (λ root. root ≡ ring_root (set_seed (slice_index_or states place [])) height)) (sym put) root
            | inr other ↦
                let kept : slice_index_or new place None ≡ slice_index_or found place None = get_or-set_other found made.place place (Some made.root) None other in
                subst (λ (o : Option (List ℕ)). IfSome o (λ root. root ≡ ring_root (set_seed (slice_index_or states place [])) height)) (sym kept) (are.each place below)
          ];
    }

-- a root is there at the place of one more
pub there_after : (made : List MadeRoot) (n : ℕ) (default : MadeRoot) (found : List (Option (List ℕ))) → n < length made → (slice_index_or made n default).place < length found → AreThere (take n made) found
    → AreThere (take (n + 1) made) (slice_set found (slice_index_or made n default).place (Some (slice_index_or made n default).root))
there_after made n default found below within are =
    let one = slice_index_or made n default in
    let new = slice_set found one.place (Some one.root) in
    let There : MadeRoot → Type 0 = λ m. is_some (slice_index_or new m.place None) ≡ true in
    let before : AreThere (take n made) new
    = All-from_get_or There (take n made) default (λ i low.
    let m = slice_index_or (take n made) i default in
    elim (cases_eq m.place one.place) [
      | inl same ↦ ap is_some (get_or-set_at found one.place m.place (Some one.root) None same within)
      | inr other ↦
          ap is_some (get_or-set_other found one.place m.place (Some one.root) None other)
          ∙ All-get_or (λ (k : MadeRoot). is_some (slice_index_or found k.place None) ≡ true) (take n made) i default low are
    ]) in
    All-more There made n default below before (ap is_some (get_or-set_at found one.place one.place (Some one.root) None refl within))
