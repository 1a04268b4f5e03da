-- What is left on an edge.
use Rattle.std.proofs.Common.{◌≡◌, ℕ, ◌+◌, Bool, true, List, [], ◌∷◌, ◌++◌, length, map, sym, refl, ap, ◌∙◌, subst, append_assoc, arith, length-append}
use Rattle.std.proofs.lemmas.List.{append-nil, map-append, length-map}
use Rattle.crossbeam_queue.specs.Fifo.{Held}
use Rattle.gen_edge.specs.declared.frames.Frame.{Frame}
use Rattle.gen_edge.specs.declared.frames.Frame.TheVariants.{Round, Gone}
use Rattle.gen_edge.specs.declared.rule.PassView.{PassView}
use Rattle.gen_edge.specs.Frames.{Parcels, round, gone, carried, row}
use Rattle.gen_edge.specs.Tied.{TakesNext, Rests}
use Rattle.gen_edge.proofs.Rows.{row_step, row_end}

-- a view with both sides, some frames after another
pub record Drained (v w : PassView) (came : List Frame) : Type 0 where
  pub puts : w.puts ≡ true
  pub takes : w.takes ≡ true
  pub frames : w.frames ≡ v.frames
  pub put : w.put ≡ v.put
  pub gone_put : w.gone_put ≡ v.gone_put
  pub taken : row v.frames w.taken w.gone_taken ≡ row v.frames v.taken v.gone_taken ++ map carried came

taken_row : (v : PassView) (x : Frame) (w : PassView) → TakesNext v x w → row v.frames w.taken w.gone_taken ≡ row v.frames v.taken v.gone_taken ++ carried x ∷ []
taken_row v (Round number parcels) w t =
    let p = parcels.items in
    ap (λ (y : PassView). row v.frames y.taken y.gone_taken) t.1
    ∙ subst (λ b. row v.frames (v.taken + 1) b ≡ row v.frames v.taken b ++ round number p ∷ []) (sym t.0.0) (row_step v.frames v.taken number p t.0.1.0 t.0.1.1)
taken_row v Gone w t =
    ap (λ (y : PassView). row v.frames y.taken y.gone_taken) t.1 ∙ subst (λ b. row v.frames v.taken true ≡ row v.frames v.taken b ++ gone ∷ []) (sym t.0) (row_end v.frames v.taken)

kept : {X : Type 0} (f : PassView → X) (v : PassView) (x : Frame) (w : PassView) → TakesNext v x w → ((n : ℕ) (b : Bool) → f (record v { taken = n; gone_taken = b }) ≡ f v) → f w ≡ f v
kept f v (Round number parcels) w t e = ap f t.1 ∙ e (v.taken + 1) v.gone_taken
kept f v Gone w t e = ap f t.1 ∙ e v.taken true

pub drained_more : (v w u : PassView) (came : List Frame) (x : Frame) → Drained v w came → TakesNext w x u → Drained v u (came ++ x ∷ [])
drained_more v w u came x d t = record {
  puts = kept (λ y. y.puts) w x u t (λ _ _. refl) ∙ d.puts;
  takes = kept (λ y. y.takes) w x u t (λ _ _. refl) ∙ d.takes;
  frames = kept (λ y. y.frames) w x u t (λ _ _. refl) ∙ d.frames;
  put = kept (λ y. y.put) w x u t (λ _ _. refl) ∙ d.put;
  gone_put = kept (λ y. y.gone_put) w x u t (λ _ _. refl) ∙ d.gone_put;
  taken = subst (λ (l : List Parcels). row l u.taken u.gone_taken ≡ row l w.taken w.gone_taken ++ carried x ∷ []) d.frames (taken_row w x u t) ∙ ap (λ l. l ++ carried x ∷ []) d.taken
      ∙ append_assoc (row v.frames v.taken v.gone_taken) (map carried came) (carried x ∷ []) ∙ ap (λ l. row v.frames v.taken v.gone_taken ++ l) (sym (map-append carried came (x ∷ [])));
}

rests_of : (v w : PassView) (came items : List Frame) → Drained v w came → Rests w items → row v.frames v.put v.gone_put ≡ row v.frames v.taken v.gone_taken ++ map carried came ++ map carried items
rests_of v w came items d r =
    subst (λ (y : List Parcels × ℕ × Bool). row y.0 y.1 y.2 ≡ row y.0 w.taken w.gone_taken ++ map carried items) (λ i. (d.frames i, d.put i, d.gone_put i)) r ∙ ap (λ l. l ++ map carried items) d.taken

no_items : (items : List Frame) → length items ≡ 0 → items ≡ []
no_items [] e = refl
no_items (x ∷ xs) e = absurd (omega arith)

-- the queue was seen empty
pub drained_empty : (v w : PassView) (came : List Frame) → Drained v w came → Held 0 (Rests w) → row v.frames v.put v.gone_put ≡ row v.frames v.taken v.gone_taken ++ map carried came
drained_empty v w came d (items, none, r) =
    rests_of v w came items d r ∙ ap (λ l. row v.frames v.taken v.gone_taken ++ map carried came ++ map carried l) (no_items items none) ∙ append-nil (row v.frames v.taken v.gone_taken ++ map carried came)

-- as many frames came as the queue held
pub drained_all : (v w : PassView) (came : List Frame) (n : ℕ) → Drained v w came → Held n (Rests v) → length came ≡ n → (items : List Frame) × Rests w items → row v.frames v.put v.gone_put ≡ row v.frames v.taken v.gone_taken ++ map carried came
drained_all v w came n d (items, held, r) many (items', r') =
    let all = rests_of v w came items' d r' in
    let base = row v.frames v.taken v.gone_taken in
    let one = ap length r ∙ length-append base (map carried items) in
    let two = ap length all ∙ length-append (base ++ map carried came) (map carried items') in
    let three = length-append base (map carried came) in
    let la = length-map items carried in let lb = length-map came carried in let lc = length-map items' carried in
    drained_empty v w came d (items', omega arith, r')
