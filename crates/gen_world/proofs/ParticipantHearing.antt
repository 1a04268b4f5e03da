-- What generals have heard when those of the first generals' frames were heard that are to them.
use Rattle.std.proofs.Common.{◌≡◌, ◌≢◌, ℕ, true, false, List, [], ◌∷◌, ◌++◌, sym, ap, subst, ◌∙◌, eqb, inl, inr, ◌≤◌, ◌<◌, ◌+◌, arith, slice_index_or}
use Rattle.std.specs.List.{range_with_len, list_any}
use Rattle.std.proofs.lemmas.Bool.{eqb-true}
use Rattle.std.proofs.lemmas.Grind.{flat_map-append}
use Rattle.std.proofs.lemmas.List.{append-nil}
use Rattle.gen_types.proofs.Lists.{bool_cases}
use Rattle.gen_net.specs.Edges.{joins}
use Rattle.gen_scenario.specs.declared.heard.Heard.{Heard}
use Rattle.gen_scenario.specs.Scenario.{Scenario}
use Rattle.gen_scenario.specs.SignedWorld.{heard_by, heard_in, heard_of}
use Rattle.gen_general.specs.Participant.{Participant, sends, hears, with_frame}
use Rattle.gen_general.specs.ParticipantLaws.{IsIn}
use Rattle.gen_general.specs.Driving.{hears_of}
use Rattle.gen_scenario.specs.SignedWorld.{near_of}
use Rattle.gen_scenario.proofs.Stepping.{one_round_more}
use Rattle.gen_general.proofs.Worlds.{eqb_not, near_more, frame_made, hears_frames}

pub hear_far : (s : Scenario) (k from to : ℕ) (xs : List Heard) → list_any (joins to from) s.net.edges ≡ false → xs ≡ xs ++ hears_of s k to (near_of s.net to (from ∷ []))
hear_far s k from to xs far = rw far (sym (append-nil xs))

pub hear_near : (s : Scenario) (k from to : ℕ) (p pf q : Participant) (frame : List (List ℕ)) → list_any (joins to from) s.net.edges ≡ true → IsIn s k to p → IsIn s k from pf
    → frame ≡ sends pf to → q ≡ with_frame p from frame → q.heard ≡ p.heard ++ hears_of s k to (near_of s.net to (from ∷ []))
hear_near s k from to p pf q frame near is by made hd =
    let now = ap (λ (x : Participant). x.heard) hd ∙ ap (λ xs. p.heard ++ hears p from xs) (frame_made s k from to pf frame by made) ∙ ap (λ (xs : List Heard). p.heard ++ xs) (hears_frames s k to from p is) in
    rw near (now ∙ ap (λ (xs : List Heard). p.heard ++ xs) (sym (append-nil (heard_of s (heard_by s k) (k + 1) to from))))

pub hears_more : (s : Scenario) (k to n : ℕ)
    → hears_of s k to (near_of s.net to (range_with_len 0 n)) ++ hears_of s k to (near_of s.net to (n ∷ [])) ≡ hears_of s k to (near_of s.net to (range_with_len 0 (n + 1)))
hears_more s k to n = sym (flat_map-append (heard_of s (heard_by s k) (k + 1) to) (near_of s.net to (range_with_len 0 n)) (near_of s.net to (n ∷ []))) ∙ ap (hears_of s k to) (near_more s.net to n)

heard_now : (s : Scenario) (k g : ℕ) (xs old : List Heard) → xs ≡ old ++ hears_of s k g (near_of s.net g (range_with_len 0 s.net.generals)) → old ≡ heard_by s k g → xs ≡ heard_by s (k + 1) g
unfolding heard_in
heard_now s k g xs old e before = e ∙ ap (λ (hs : List Heard). hs ++ hears_of s k g (near_of s.net g (range_with_len 0 s.net.generals))) before ∙ sym (one_round_more s k g)

pub receivers_done : (s : Scenario) (k n : ℕ) (old new : List Participant) → n < s.net.generals
    → ((g : ℕ) (d : Participant) → g < n → (slice_index_or old g d).heard ≡ heard_by s (k + 1) g)
    → ((g : ℕ) (d : Participant) → n ≤ g → g < s.net.generals → (slice_index_or old g d).heard ≡ heard_by s k g)
    → ((d : Participant) → (slice_index_or new n d).heard ≡ (slice_index_or old n d).heard ++ hears_of s k n (near_of s.net n (range_with_len 0 s.net.generals)))
    → ((g : ℕ) (d : Participant) → g ≢ n → slice_index_or new g d ≡ slice_index_or old g d)
    → (g : ℕ) (d : Participant) → g < n + 1 → (slice_index_or new g d).heard ≡ heard_by s (k + 1) g
receivers_done s k n old new known done rest now others g d below = elim (bool_cases (eqb g n)) [
  | inl e ↦
      let same = eqb-true g n e in
      subst (λ j. (slice_index_or new j d).heard ≡ heard_by s (k + 1) j) (sym same) (heard_now s k n (slice_index_or new n d).heard (slice_index_or old n d).heard (now d) (rest n d (omega arith) known))
  | inr ne ↦ let other = eqb_not g n ne in ap (λ (p : Participant). p.heard) (others g d other) ∙ done g d (omega (arith, below, other))
]

pub receivers_rest : (s : Scenario) (k n : ℕ) (old new : List Participant)
    → ((g : ℕ) (d : Participant) → n ≤ g → g < s.net.generals → (slice_index_or old g d).heard ≡ heard_by s k g)
    → ((g : ℕ) (d : Participant) → g ≢ n → slice_index_or new g d ≡ slice_index_or old g d)
    → (g : ℕ) (d : Participant) → n + 1 ≤ g → g < s.net.generals → (slice_index_or new g d).heard ≡ heard_by s k g
receivers_rest s k n old new rest others g d above below =
    let other : g ≢ n = λ same. absurd (omega (arith, above, same)) in
    ap (λ (p : Participant). p.heard) (others g d other) ∙ rest g d (omega (arith, above)) below
