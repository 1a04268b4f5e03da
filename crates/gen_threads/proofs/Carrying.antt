-- One frame more over an edge.
use Rattle.std.proofs.Common.{◌≡◌, ℕ, zero, suc, ◌+◌, ◌-◌, ◌<◌, ◌⊎◌, false, List, map, sym, ap, subst, ◌∙◌, arith}
use Rattle.std.specs.List.{range_with_len}
use mathlib.Core.Option.{some, some-injective}
use lib.ListN.{get_elem?}
use Rattle.gen_net.specs.Network.{rounds}
use Rattle.gen_edge.specs.declared.frames.Frame.{Frame}
use Rattle.gen_edge.specs.declared.passes.PutPass.{PutPass}
use Rattle.gen_edge.specs.declared.passes.TakePass.{TakePass}
use Rattle.gen_edge.specs.declared.rule.PassView.{PassView}
use Rattle.gen_edge.specs.Ends.{put_view, take_view}
use Rattle.gen_edge.specs.Frames.{Parcels, Carried, round, carried, edge_frames}
use Rattle.gen_edge.specs.Tied.{ComesNext, IsRunFrame, TakesNext, after_put, after_take, put_side, take_side}
use Rattle.gen_edge.proofs.Next.{next_at, put_one}
use Rattle.gen_scenario.specs.Scenario.{Scenario}
use Rattle.gen_scenario.specs.SignedWorld.{frame_at}
use Rattle.gen_threads.specs.declared.edges.Edges.{Edges}
use Rattle.gen_threads.specs.Edges.{IsPutOn, IsTakeBy}
use Rattle.gen_threads.specs.Turns.{HasPutUntil, HasTakenUntil}
use Rattle.gen_threads.proofs.Passing.{carried_below, carried_above, carried_others}

nth : {X : Type 0} (f : ℕ → X) (a n k : ℕ) → k < n → get_elem? (map f (range_with_len a n)) k ≡ some (f (a + k))
nth f a zero k low = absurd (omega arith)
nth f a (suc n) zero low = let e : a + 0 ≡ a = omega arith in ap (λ b. some (f b)) (sym e)
nth f a (suc n) (suc k) low = let e : (a + 1) + k ≡ a + suc k = omega arith in nth f (a + 1) n k (omega arith) ∙ ap (λ b. some (f b)) e

-- the frame of a round stands in the list of the edge's frames
pub frame_there : (s : Scenario) (a b k : ℕ) → k < rounds s.net → get_elem? (edge_frames s a b) k ≡ some (frame_at s (k + 1) a b)
frame_there s a b k low = let e : 1 + k ≡ k + 1 = omega arith in nth (λ l. frame_at s l a b) 1 (rounds s.net) k low ∙ ap (λ l. some (frame_at s l a b)) e

-- ---- a put

module _ (edges : Edges) (s : Scenario) (k g h : ℕ) (low : k < rounds s.net) (frame : Carried) (is : frame ≡ round (k + 1) (frame_at s (k + 1) g h)) where
  of_run : IsRunFrame (edge_frames s g h) (k + 1) frame
  of_run =
      let e : (k + 1) - 1 ≡ k = omega arith in
      (frame_at s (k + 1) g h, is, omega arith, ap (λ i. get_elem? (edge_frames s g h) i) e ∙ frame_there s g h k low)

  pub puts_next : (p : PutPass) → HasPutUntil edges s k h g h p → let v = put_view p in ComesNext v.frames v.put v.gone_put frame
  puts_next p has = next_at (edge_frames s g h) k frame (put_view p) of_run (has.view ∙ ap (λ n. put_side (edge_frames s g h) n false) (carried_above k h h (omega arith)))

  pub has_put_more : (p q : PutPass) → HasPutUntil edges s k h g h p → IsPutOn edges g h q → put_view q ≡ after_put (put_view p) frame → HasPutUntil edges s k (h + 1) g h q
  has_put_more p q has on e = record {
    on = on;
    view = put_one (edge_frames s g h) k frame (put_view p) (put_view q) of_run (has.view ∙ ap (λ n. put_side (edge_frames s g h) n false) (carried_above k h h (omega arith))) e
        ∙ ap (λ n. put_side (edge_frames s g h) n false) (sym (carried_below k (h + 1) h (omega arith)));
  }

pub put_others : (edges : Edges) (s : Scenario) (k g h a : ℕ) (p : PutPass) → (a < h) ⊎ (h < a) → HasPutUntil edges s k h g a p → HasPutUntil edges s k (h + 1) g a p
put_others edges s k g h a p other has = record { on = has.on; view = has.view ∙ ap (λ n. put_side (edge_frames s g a) n false) (carried_others k h a other) }

-- ---- a take

came : (frames : List Parcels) (n number : ℕ) (x : Carried) (parcels : Parcels) (v : PassView) → v ≡ take_side frames n false → ComesNext v.frames v.taken v.gone_taken x → x ≡ round number parcels → (number ≡ n + 1) × (get_elem? frames n ≡ some parcels)
came frames n number x parcels v at next is =
    let there : ComesNext frames n false (round number parcels) = subst (ComesNext frames n false) is (subst (λ (y : PassView). ComesNext y.frames y.taken y.gone_taken x) at next) in
    (there.1.0, there.1.1)

module _ (edges : Edges) (s : Scenario) (k g h : ℕ) (low : k < rounds s.net) (x : Frame) (number : ℕ) (parcels : Parcels) (is : carried x ≡ round number parcels) where
  side : (p : TakePass) → HasTakenUntil edges s k h g h p → take_view p ≡ take_side (edge_frames s h g) k false
  side p has = has.view ∙ ap (λ n. take_side (edge_frames s h g) n false) (carried_above k h h (omega arith))

  pub frame_came : (p : TakePass) (w : PassView) → HasTakenUntil edges s k h g h p → TakesNext (take_view p) x w → parcels ≡ frame_at s (k + 1) h g
  frame_came p w has took =
      let there = came (edge_frames s h g) k number (carried x) parcels (take_view p) (side p has) took.0 is in
      some-injective parcels (frame_at s (k + 1) h g) (sym there.1 ∙ frame_there s h g k low)

  pub has_taken_more : (p q : TakePass) → HasTakenUntil edges s k h g h p → IsTakeBy edges g h q → TakesNext (take_view p) x (take_view q) → HasTakenUntil edges s k (h + 1) g h q
  has_taken_more p q has on took =
      let now : take_view q ≡ take_side (edge_frames s h g) (k + 1) false = took.1 ∙ ap (after_take (take_view p)) is ∙ ap (λ (v : PassView). after_take v (round number parcels)) (side p has) in
      record { on = on; view = now ∙ ap (λ n. take_side (edge_frames s h g) n false) (sym (carried_below k (h + 1) h (omega arith))) }

pub taken_others : (edges : Edges) (s : Scenario) (k g h a : ℕ) (p : TakePass) → (a < h) ⊎ (h < a) → HasTakenUntil edges s k h g a p → HasTakenUntil edges s k (h + 1) g a p
taken_others edges s k g h a p other has = record { on = has.on; view = has.view ∙ ap (λ n. take_side (edge_frames s a g) n false) (carried_others k h a other) }
