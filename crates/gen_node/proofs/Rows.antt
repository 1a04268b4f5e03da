-- Finding what is held of a general.
use Rattle.std.proofs.Common.{◌≡◌, ◌+◌, ℕ, Bool, true, false, List, [], ◌∷◌, ◌++◌, map, refl, sym, ap, ◌∙◌, eqb, Option, Some, None, inl, inr}
use Rattle.std.specs.Prelude.{is_some, unwrap_or, if◌then◌else◌}
use Rattle.std.specs.List.{list_any, range_with_len}
use Rattle.std.proofs.lemmas.Bool.{eqb-true}
use Rattle.std.proofs.lemmas.List.{append-nil, map-append}
use Rattle.gen_types.specs.Ends.{is_among}
use Rattle.gen_types.proofs.Lists.{bool_cases}
use Rattle.gen_net.specs.Edges.{joins}
use Rattle.gen_net.specs.Network.{Network}
use Rattle.gen_general.proofs.Worlds.{near_in, near_more, near_out}
use Rattle.gen_general.specs.Participant.{sends}
use Rattle.gen_general.specs.Recording.{Recorder}
use Rattle.gen_scenario.specs.SignedWorld.{near_of}
use Rattle.gen_node.specs.Held.{Held, held_of, frame_in}
use Rattle.gen_node.specs.Loops.Kept.{held_for}

pub held_here : (g : ℕ) (rows others : List Held) (h : Held) → rows ≡ h ∷ others → eqb h.general g ≡ true → held_of g rows ≡ Some h.parcels
unfolding held_of
held_here g rows others h e t = ap (held_of g) e ∙ rw t refl

pub held_later : (g : ℕ) (rows others : List Held) (h : Held) → rows ≡ h ∷ others → eqb h.general g ≡ false → held_of g rows ≡ held_of g others
unfolding held_of
held_later g rows others h e t = ap (held_of g) e ∙ rw t refl

pub held_nowhere : (g : ℕ) (rows : List Held) → rows ≡ [] → held_of g rows ≡ None
unfolding held_of
held_nowhere g rows e = ap (held_of g) e

-- what is held for neighbours
pub held_mapped : (r : Recorder) (g : ℕ) (gs : List ℕ) → held_of g (map (held_for r) gs) ≡ (if is_among gs g then Some (sends r.standing g) else None)
unfolding held_of
held_mapped r g [] = refl
held_mapped r g (x ∷ gs) = elim (bool_cases (eqb x g)) [
  | inl t ↦ rw t (ap (λ v. Some (sends r.standing v)) (eqb-true x g t))
  | inr f ↦ rw f (held_mapped r g gs)
]

is_held_if : (b : Bool) (frame : List (List ℕ)) → is_some (if b then Some frame else None) ≡ b
is_held_if true frame = refl
is_held_if false frame = refl

pub is_held_mapped : (r : Recorder) (g : ℕ) (gs : List ℕ) (rows : List Held) → rows ≡ map (held_for r) gs → is_some (held_of g rows) ≡ is_among gs g
is_held_mapped r g gs rows e = ap (λ (xs : List Held). is_some (held_of g xs)) e ∙ ap is_some (held_mapped r g gs) ∙ is_held_if (is_among gs g) (sends r.standing g)

pub frame_mapped : (r : Recorder) (g : ℕ) (gs : List ℕ) (rows : List Held) → rows ≡ map (held_for r) gs → is_among gs g ≡ true → frame_in g rows ≡ sends r.standing g
frame_mapped r g gs rows e known =
    ap (frame_in g) e ∙ ap (λ (o : Option (List (List ℕ))). unwrap_or o []) (held_mapped r g gs) ∙ rw known refl

-- one general more
pub held_near : (r : Recorder) (net : Network) (me next : ℕ) (rows : List Held) → list_any (joins me next) net.edges ≡ true → rows ≡ map (held_for r) (near_of net me (range_with_len 0 next)) → rows ++ held_for r next ∷ [] ≡ map (held_for r) (near_of net me (range_with_len 0 (next + 1)))
held_near r net me next rows near e =
    let front = near_of net me (range_with_len 0 next) in
    let more : front ++ next ∷ [] ≡ near_of net me (range_with_len 0 (next + 1)) = sym (ap (λ (gs : List ℕ). front ++ gs) (near_in net me next near)) ∙ near_more net me next in
    ap (λ (xs : List Held). xs ++ held_for r next ∷ []) e ∙ sym (map-append (held_for r) front (next ∷ [])) ∙ ap (map (held_for r)) more

pub held_far : (r : Recorder) (net : Network) (me next : ℕ) (rows : List Held) → list_any (joins me next) net.edges ≡ false → rows ≡ map (held_for r) (near_of net me (range_with_len 0 next)) → rows ≡ map (held_for r) (near_of net me (range_with_len 0 (next + 1)))
held_far r net me next rows far e =
    let front = near_of net me (range_with_len 0 next) in
    let more : front ≡ near_of net me (range_with_len 0 (next + 1)) = sym (append-nil front) ∙ sym (ap (λ (gs : List ℕ). front ++ gs) (near_out net me next far)) ∙ near_more net me next in
    e ∙ ap (map (held_for r)) more
