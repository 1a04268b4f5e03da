-- The frames of the run on an edge, one by one.
use Rattle.std.proofs.Common.{◌≡◌, ℕ, zero, suc, ◌+◌, ◌<◌, ◌≤◌, ◌==◌, ◌&&◌, Bool, true, false, cond, Some, List, [], ◌∷◌, map, Contains, sym, refl, ap, ◌∙◌, subst, arith}
use Rattle.std.specs.List.{range_with_len, find}
use mathlib.Core.Option.{some}
use lib.ListN.{get_elem?}
use Rattle.gen_types.proofs.Lists.{Contains_here, Contains_there, Contains_mapped, Contains_flat_mapped, Contains_range}
use Rattle.gen_types.proofs.Decimals.{both}
use Rattle.std.proofs.lemmas.Map.Views.{exact_unsigned_eq}
use Rattle.gen_net.specs.Network.{rounds}
use Rattle.gen_scenario.specs.Scenario.{Scenario}
use Rattle.gen_scenario.specs.SignedWorld.{neighbours_of, frame_at}
use Rattle.gen_scenario.specs.Rows.{FrameRow, row_at, rows_by, rows_in, rows_of}
use Rattle.gen_edge.specs.Frames.{Parcels, Carried, round, edge_frames}
use Rattle.gen_edge.specs.declared.rule.PassView.{PassView}
use Rattle.gen_edge.specs.Tied.{IsFrame, ComesNext}

mapped_at : {X : Type 0} (f : ℕ → X) (k m n : ℕ) → n < m → get_elem? (map f (range_with_len k m)) n ≡ some (f (k + n))
mapped_at f k zero n low = absurd (omega arith)
mapped_at f k (suc m) zero low = let e : k ≡ k + 0 = omega arith in ap (λ j. some (f j)) e
mapped_at f k (suc m) (suc n) low = let e : k + 1 + n ≡ k + suc n = omega arith in mapped_at f (k + 1) m n (omega arith) ∙ ap (λ j. some (f j)) e

-- where n frames went over an edge and that wasn't the last round, the run's frame of the next round comes
-- next
pub frame_comes : (s : Scenario) (a b n : ℕ) → n < rounds s.net → IsFrame (edge_frames s a b) n (n + 1) (frame_at s (n + 1) a b)
frame_comes s a b n low = let e : 1 + n ≡ n + 1 = omega arith in (refl, mapped_at (λ l. frame_at s l a b) 1 (rounds s.net) n low ∙ ap (λ l. some (frame_at s l a b)) e)

-- each row of the run has the run's frame
pub record IsRowOf (s : Scenario) (r : FrameRow) : Type 0 where
  pub parcels : frame_at s r.round r.from r.to ≡ r.parcels
  pub first : 1 ≤ r.round
  pub last : r.round < 1 + rounds s.net

pub rows_are_frames : (s : Scenario) (r : FrameRow) → Contains (rows_of s) r → IsRowOf s r
unfolding rows_of rows_in
rows_are_frames s r h =
    let l = Contains_flat_mapped (rows_in s) (range_with_len 1 (rounds s.net)) r h in
    let a = Contains_flat_mapped (rows_by s l.0) (range_with_len 0 s.net.generals) r l.2 in
    let b = Contains_mapped (row_at s l.0 a.0) (neighbours_of s.net a.0) r a.2 in
    let range = Contains_range 1 (rounds s.net) l.0 l.1 in
    subst (IsRowOf s) b.2 (record { parcels = refl; first = range.0; last = range.1 })

-- so a row of the next round of an edge comes next on it
pub row_comes : (s : Scenario) (r : FrameRow) (n : ℕ) → Contains (rows_of s) r → r.round ≡ n + 1 → ComesNext (edge_frames s r.from r.to) n false (round r.round r.parcels)
row_comes s r n h e =
    let is = rows_are_frames s r h in
    let next = frame_comes s r.from r.to n (omega (arith, is.last, e)) in
    (refl, (e, next.1 ∙ ap some (ap (λ l. frame_at s l r.from r.to) (sym e) ∙ is.parcels)))

-- the first row of a run with these ends and this round
pub found_row : (rows : List FrameRow) (a b l : ℕ) (r : FrameRow) → find (λ (row : FrameRow). row.from == a && row.to == b && row.round == l) rows ≡ Some r
    → Contains rows r × (r.from ≡ a) × (r.to ≡ b) × (r.round ≡ l)
found_row [] a b l r e = absurd cc
found_row (x ∷ rows) a b l r e = found_here (found_row rows a b l r) (x.from == a && x.to == b && x.round == l) refl e where
  found_here : (find (λ (row : FrameRow). row.from == a && row.to == b && row.round == l) rows ≡ Some r → Contains rows r × (r.from ≡ a) × (r.to ≡ b) × (r.round ≡ l)) → (t : Bool) → (x.from == a && x.to == b && x.round == l) ≡ t → cond t (Some x) (find (λ (row : FrameRow). row.from == a && row.to == b && row.round == l) rows) ≡ Some r
      → Contains (x ∷ rows) r × (r.from ≡ a) × (r.to ≡ b) × (r.round ≡ l)
  found_here later true t h =
      let same : x ≡ r = cc in
      let last = both (x.from == a && x.to == b) (x.round == l) t in
      let ends = both (x.from == a) (x.to == b) last.0 in
      subst (λ (y : FrameRow). Contains (x ∷ rows) y × (y.from ≡ a) × (y.to ≡ b) × (y.round ≡ l)) same
      (Contains_here x rows, exact_unsigned_eq x.from a ends.0, exact_unsigned_eq x.to b ends.1, exact_unsigned_eq x.round l last.1)
  found_here later false t h = let k = later h in (Contains_there x r rows k.0, k.1, k.2, k.3)

-- and where it is the next round of an edge
pub found_comes : (s : Scenario) (rows : List FrameRow) (a b n : ℕ) (r : FrameRow) → rows ≡ rows_of s → find (λ (row : FrameRow). row.from == a && row.to == b && row.round == n + 1) rows ≡ Some r
    → ComesNext (edge_frames s a b) n false (round r.round r.parcels)
found_comes s rows a b n r of_run e =
    let k = found_row rows a b (n + 1) r e in
    subst (λ (y : ℕ × ℕ). ComesNext (edge_frames s y.0 y.1) n false (round r.round r.parcels)) (λ i. (k.1 i, k.2 i))
    (row_comes s r n (subst (λ (xs : List FrameRow). Contains xs r) of_run k.0) k.3)

-- as a pass to put on that edge knows it
pub comes_by_pass : (frames : List Parcels) (n : ℕ) (x : Carried) (v : PassView) → ComesNext frames n false x → v.frames ≡ frames → v.put ≡ n → v.gone_put ≡ false → ComesNext v.frames v.put v.gone_put x
comes_by_pass frames n x v next w p g = subst (λ (y : List Parcels × ℕ × Bool). ComesNext y.0 y.1 y.2 x) (λ i. (sym w i, sym p i, sym g i)) next
