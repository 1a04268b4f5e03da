-- The last words that a general has taken.
use Rattle.std.proofs.Common.{◌≡◌, ℕ, ◌<◌, inl, inr, List, length, slice_index_or, slice_set, refl, sym, ap, subst, ◌∙◌, arith}
use Rattle.std.specs.Prelude.{Any}
use Rattle.std.proofs.lemmas.Bool.{cases_eq}
use Rattle.std.proofs.lemmas.List.{get_or_default, length-set}
use Rattle.gen_edge.specs.declared.frames.Frame.{Frame}
use Rattle.gen_edge.specs.declared.passes.TakePass.{TakePass}
use Rattle.gen_edge.specs.declared.rule.PassView.{PassView}
use Rattle.gen_edge.specs.Ends.{take_view}
use Rattle.gen_edge.specs.Frames.{carried, gone}
use Rattle.gen_edge.specs.Tied.{TakesNext, after_take}
use Rattle.gen_general.proofs.Worlds.{at_same, at_other}
use Rattle.gen_threads.specs.declared.ends.RunFault.{RunFault}
use Rattle.gen_threads.specs.declared.ends.RunFault.TheVariants.{Memory, Thread, Gone}
use Rattle.gen_threads.specs.Faults.{HasLastWord, IsOwnFault, IsAnsweredFault, answered_fault}

module _ {X : Type 0} (P : X → Type 0) (xs : List X) (i : ℕ) (low : i < length xs) where
  -- what is written at an index is one of the list
  pub any_here : (q : X) → P q → Any P (slice_set xs i q)
  any_here q holds =
      let long : length (slice_set xs i q) ≡ length xs = length-set xs i q in
      (i, q, omega (arith, low, long), at_same xs i i q q low refl, holds)

  -- and where it has all that stood there had, one is left
  pub any_kept : (p q : X) → p ≡ slice_index_or xs i p → (P p → P q) → Any P xs → Any P (slice_set xs i q)
  any_kept p q at kept any =
      let k = any.0 in let x = any.1 in
      let long : length (slice_set xs i q) ≡ length xs = length-set xs i q in
      elim (cases_eq k i) [
        | inl same ↦
            let is : x ≡ p = sym any.3 ∙ ap (λ j. slice_index_or xs j x) same ∙ get_or_default xs i x p low ∙ sym at in
            any_here q (kept (subst P is any.4))
        | inr other ↦ (k, x, omega (arith, any.2, long), at_other xs i k q x other ∙ any.3, any.4)
      ]

-- a pass that takes the last word has it
pub last_taken : (x : Frame) (p q : TakePass) → carried x ≡ gone → TakesNext (take_view p) x (take_view q) → HasLastWord q
last_taken x p q is took = ap (λ (v : PassView). v.gone_taken) (took.1 ∙ ap (after_take (take_view p)) is)
