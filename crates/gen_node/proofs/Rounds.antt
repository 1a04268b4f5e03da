-- A round that begins or ends, general by general.
use Rattle.std.proofs.Common.{◌≡◌, ◌<◌, ◌≤◌, ◌+◌, ◌-◌, ℕ, suc, Bool, true, false, List, [], ◌∷◌, refl, sym, ap, ◌∙◌, arith, inl, inr}
use Rattle.std.specs.Prelude.{if◌then◌else◌}
use Rattle.std.specs.List.{range_with_len}
use Rattle.gen_types.proofs.Lists.{bool_cases}
use Rattle.gen_general.specs.Recording.{Recorder, with_recvs, with_sends}
use Rattle.gen_node.specs.declared.stages.Stage.TheVariants.{Between, Open}
use Rattle.gen_node.specs.Held.{Held, frame_in}
use Rattle.gen_node.specs.Node.{Node, from_on, header_at, heard_from, hears_all, near_at, sends_all, sent_from}
use Rattle.gen_node.specs.Loops.Kept.{heard_one, is_near, sent_one}

range_step : (next n : ℕ) → next < n → range_with_len next (n - next) ≡ next ∷ range_with_len (next + 1) (n - (next + 1))
range_step next n lt =
    let k : n - next ≡ suc (n - (next + 1)) = omega (arith, lt) in
    ap (range_with_len next) k

range_over : (next n : ℕ) → n ≤ next → range_with_len next (n - next) ≡ []
range_over next n le =
    let k : n - next ≡ 0 = omega (arith, le) in
    ap (range_with_len next) k

near_cons : (r : Recorder) (g : ℕ) (gs : List ℕ) → is_near r g ≡ true → near_at r (g ∷ gs) ≡ g ∷ near_at r gs
near_cons r g gs e = rw e refl

near_skip : (r : Recorder) (g : ℕ) (gs : List ℕ) → is_near r g ≡ false → near_at r (g ∷ gs) ≡ near_at r gs
near_skip r g gs e = rw e refl

-- ---- he sends

abbrev opened : List Held → Recorder → Node
opened inbox r = record { recorder = r; stage = Open; inbox = inbox }

sends_near : (r : Recorder) (next : ℕ) (gs : List ℕ) → is_near r next ≡ true → sends_all (near_at r (next ∷ gs)) r ≡ sends_all (near_at r gs) (with_sends r next)
unfolding sends_all
sends_near r next gs e = ap (λ (xs : List ℕ). sends_all xs r) (near_cons r next gs e)

sends_far : (r : Recorder) (next : ℕ) (gs : List ℕ) → is_near r next ≡ false → sends_all (near_at r (next ∷ gs)) r ≡ sends_all (near_at r gs) r
sends_far r next gs e = ap (λ (xs : List ℕ). sends_all xs r) (near_skip r next gs e)

sent_chosen : (n : Node) (next : ℕ) (b : Bool) → is_near n.recorder next ≡ b → sent_from (next + 1) (sent_one n next) ≡ opened n.inbox (sends_all (near_at n.recorder (from_on n.recorder (next + 1))) (if b then with_sends n.recorder next else n.recorder))
sent_chosen n next true e = rw e refl
sent_chosen n next false e = rw e refl

pub sent_step : (n : Node) (next : ℕ) → next < (header_at n.recorder).network.generals → sent_from next n ≡ sent_from (next + 1) (sent_one n next)
sent_step n next lt =
    let r = n.recorder in
    let gs = range_with_len (next + 1) ((header_at r).network.generals - (next + 1)) in
    let first : sent_from next n ≡ opened n.inbox (sends_all (near_at r (next ∷ gs)) r) = ap (λ (xs : List ℕ). opened n.inbox (sends_all (near_at r xs) r)) (range_step next (header_at r).network.generals lt) in
    elim (bool_cases (is_near r next)) [
      | inl near ↦ first ∙ ap (opened n.inbox) (sends_near r next gs near) ∙ sym (sent_chosen n next true near)
      | inr far ↦ first ∙ ap (opened n.inbox) (sends_far r next gs far) ∙ sym (sent_chosen n next false far)
    ]

pub sent_over : (n : Node) (next : ℕ) → (header_at n.recorder).network.generals ≤ next → opened n.inbox n.recorder ≡ sent_from next n
unfolding sends_all
sent_over n next le = sym (ap (λ (xs : List ℕ). opened n.inbox (sends_all (near_at n.recorder xs) n.recorder)) (range_over next (header_at n.recorder).network.generals le))

-- ---- he hears

abbrev closed : Recorder → Node
closed r = record { recorder = r; stage = Between; inbox = [] }

abbrev frames_of : Node → ℕ → List (List ℕ)
frames_of n from = frame_in from n.inbox

hears_near : (n : Node) (next : ℕ) (gs : List ℕ) → is_near n.recorder next ≡ true → hears_all (frames_of n) (near_at n.recorder (next ∷ gs)) n.recorder ≡ hears_all (frames_of n) (near_at n.recorder gs) (with_recvs n.recorder next (frames_of n next))
unfolding hears_all
hears_near n next gs e = ap (λ (xs : List ℕ). hears_all (frames_of n) xs n.recorder) (near_cons n.recorder next gs e)

hears_far : (n : Node) (next : ℕ) (gs : List ℕ) → is_near n.recorder next ≡ false → hears_all (frames_of n) (near_at n.recorder (next ∷ gs)) n.recorder ≡ hears_all (frames_of n) (near_at n.recorder gs) n.recorder
hears_far n next gs e = ap (λ (xs : List ℕ). hears_all (frames_of n) xs n.recorder) (near_skip n.recorder next gs e)

heard_chosen : (n : Node) (next : ℕ) (b : Bool) → is_near n.recorder next ≡ b → heard_from (next + 1) (heard_one n next) ≡ closed (hears_all (frames_of n) (near_at n.recorder (from_on n.recorder (next + 1))) (if b then with_recvs n.recorder next (frames_of n next) else n.recorder))
heard_chosen n next true e = rw e refl
heard_chosen n next false e = rw e refl

pub heard_step : (n : Node) (next : ℕ) → next < (header_at n.recorder).network.generals → heard_from next n ≡ heard_from (next + 1) (heard_one n next)
heard_step n next lt =
    let r = n.recorder in
    let gs = range_with_len (next + 1) ((header_at r).network.generals - (next + 1)) in
    let first : heard_from next n ≡ closed (hears_all (frames_of n) (near_at r (next ∷ gs)) r) = ap (λ (xs : List ℕ). closed (hears_all (frames_of n) (near_at r xs) r)) (range_step next (header_at r).network.generals lt) in
    elim (bool_cases (is_near r next)) [
      | inl near ↦ first ∙ ap closed (hears_near n next gs near) ∙ sym (heard_chosen n next true near)
      | inr far ↦ first ∙ ap closed (hears_far n next gs far) ∙ sym (heard_chosen n next false far)
    ]

pub heard_over : (n : Node) (next : ℕ) → (header_at n.recorder).network.generals ≤ next → closed n.recorder ≡ heard_from next n
unfolding hears_all
heard_over n next le = sym (ap (λ (xs : List ℕ). closed (hears_all (frames_of n) (near_at n.recorder xs) n.recorder)) (range_over next (header_at n.recorder).network.generals le))
