-- Each step keeps the rule of an edge.
use Rattle.std.proofs.Common.{◌≡◌, ◌≢◌, ℕ, zero, suc, ◌+◌, ◌<◌, ◌≤◌, Bool, true, false, true≢false, List, [], ◌∷◌, ◌++◌, length, map, set, sym, refl, ap, ◌∙◌, subst, inl, inr, ◌⊎◌, ⊎_elim, append_assoc, arith}
use Rattle.std.proofs.lemmas.List.{map-append}
use mathlib.Core.Option.{some, some-injective, some-ne-none}
use lib.ListN.{get_elem?}
use Rattle.crossbeam_queue.specs.Fifo.{Pushes, Pops, Forks, Merges, Learns}
use Rattle.crossbeam_queue.proofs.Lists.{at_set, at_snoc}
use Rattle.gen_edge.specs.declared.frames.Frame.{Frame}
use Rattle.gen_edge.specs.declared.frames.Frame.TheVariants.{Round, Gone}
use Rattle.gen_edge.specs.declared.rule.PassView.{PassView}
use Rattle.gen_edge.specs.Frames.{Parcels, Carried, round, gone, carried, row}
use Rattle.gen_edge.specs.Tied.{Tied, State, Counted, Fits, Known, ComesNext, PutsNext, TakesNext, unopened, putter, taker, both_sides, spent_side, news_of_puts, news_of_takes, puts_heard, takes_heard, Rests, PutsSee, TakesSee}
use Rattle.gen_edge.proofs.Rows.{row_step, row_end, comes, some_below, empty_is_not}

at_end : (l : List PassView) (a b : PassView) (j : ℕ) → get_elem? l j ≢ some b → get_elem? (l ++ a ∷ []) j ≡ some b → j ≡ length l
at_end [] a b zero n e = refl
at_end [] a b (suc j) n e = absurd (some-ne-none b (sym e))
at_end (x ∷ xs) a b zero n e = absurd (n e)
at_end (x ∷ xs) a b (suc j) n e = ap suc (at_end xs a b j n e)

abbrev All : (ℕ → PassView → Type 0) → List PassView → Type 0
All F views = (port : ℕ) (v : PassView) → get_elem? views port ≡ some v → F port v

all_set : (F : ℕ → PassView → Type 0) (views : List PassView) (port : ℕ) (w : PassView) → F port w → ((j : ℕ) (u : PassView) → j ≢ port → get_elem? views j ≡ some u → F j u) → All F (set views port w)
all_set F views port w mine others j u e = ⊎_elim (λ (x : (j ≡ port) × (w ≡ u)). subst (λ (y : ℕ × PassView). F y.0 y.1) (λ i. (sym x.0 i, x.1 i)) mine)
    (λ (x : (j ≢ port) × (get_elem? views j ≡ some u)). others j u x.0 x.1) (at_set views port j w u e)

-- one frame more in the queue
more : (frames : List Parcels) (n m t : ℕ) (g g' h : Bool) (items : List Frame) (x : Frame)
    → row frames m g' ≡ row frames n g ++ carried x ∷ [] → row frames n g ≡ row frames t h ++ map carried items → row frames m g' ≡ row frames t h ++ map carried (items ++ x ∷ [])
more frames n m t g g' h items x step rests =
    step ∙ ap (λ l. l ++ carried x ∷ []) rests ∙ append_assoc (row frames t h) (map carried items) (carried x ∷ []) ∙ ap (λ l. row frames t h ++ l) (sym (map-append carried items (x ∷ [])))

bool_is : (b : Bool) → (b ≡ true) ⊎ (b ≡ false)
bool_is true = inl refl
bool_is false = inr refl

-- what is known stays so where more was put
still : (u : PassView) (n m : ℕ) (g g' : Bool) → Known u n g → n ≤ m → (g ≡ true → g' ≡ true) → Known u m g'
still u n m g g' known more_put ended = let few = known.0 in (omega arith, λ e. ended (known.1 e))

no_more : (k m n : ℕ) → k ≤ m → m ≤ n → k ≤ n
no_more k m n a b = omega (arith, a, b)

put_fits : (s : State) (port : ℕ) (v : PassView) (views : List PassView) (n : ℕ) (g : Bool) → v.puts ≡ true → get_elem? views port ≡ some v → All (Fits s) views → s.put ≤ n → (s.gone_put ≡ true → g ≡ true)
    → All (Fits (record s { put = n; gone_put = g })) (set views port (record v { put = n; gone_put = g }))
put_fits s port v views n g may at all more_put ended =
    let mine = all port v at in
    all_set (Fits (record s { put = n; gone_put = g })) views port (record v { put = n; gone_put = g })
    (record {
      putting = λ _. ((mine.putting may).0, (mine.putting may).1, refl, refl);
      taking = mine.taking;
      known = still v s.put n s.gone_put g mine.known more_put ended;
      freed = mine.freed;
    })
    (λ j u other e. let his = all j u e in record {
      putting = λ p. absurd (other ((his.putting p).0 ∙ sym (mine.putting may).0));
      taking = his.taking;
      known = still u s.put n s.gone_put g his.known more_put ended;
      freed = his.freed;
    })

take_fits : (s : State) (port : ℕ) (v : PassView) (views : List PassView) (n : ℕ) (g : Bool) → v.takes ≡ true → get_elem? views port ≡ some v → All (Fits s) views → s.taken ≤ n
    → All (Fits (record s { taken = n; gone_taken = g })) (set views port (record v { taken = n; gone_taken = g }))
take_fits s port v views n g may at all more_taken =
    let mine = all port v at in
    all_set (Fits (record s { taken = n; gone_taken = g })) views port (record v { taken = n; gone_taken = g })
    (record {
      putting = mine.putting;
      taking = λ _. ((mine.taking may).0, (mine.taking may).1, refl, refl);
      known = mine.known;
      freed = no_more v.freed s.taken n mine.freed more_taken;
    })
    (λ j u other e. let his = all j u e in record {
      putting = his.putting;
      taking = λ p. absurd (other ((his.taking p).0 ∙ sym (mine.taking may).0));
      known = his.known;
      freed = no_more u.freed s.taken n his.freed more_taken;
    })

-- with nothing put after the last word, and a step of the row, the count is right after a push
pushed : (s : State) (items : List Frame) (x : Frame) (n m : ℕ) (g g' : Bool) → Counted s items → n ≡ s.put → g ≡ s.gone_put → g ≡ false → n ≤ m → m ≤ length s.frames
    → row s.frames m g' ≡ row s.frames n g ++ carried x ∷ [] → Counted (record s { put = m; gone_put = g' }) (items ++ x ∷ [])
pushed s items x n m g g' c is_n is_g not_yet le within step =
    let open_yet : s.gone_taken ≡ true → ⊥ = λ e. true≢false (sym (c.after e) ∙ sym is_g ∙ not_yet) in
    let behind = c.behind in record {
      rests = more s.frames n m s.taken g g' s.gone_taken items x step (ap (λ k. row s.frames k g) is_n ∙ ap (λ k. row s.frames s.put k) is_g ∙ c.rests);
      within = within;
      behind = omega arith;
      last = λ e. absurd (open_yet e);
      after = λ e. absurd (open_yet e);
    }

pub puts : (n port : ℕ) (v : PassView) (x : Frame) → v.puts ≡ true → ComesNext v.frames v.put v.gone_put (carried x) → Pushes Tied n port v x (PutsNext v x)
puts n port v (Round number parcels) may next items views room h at =
    let s = h.0 in let c = h.1 in let mine = (h.2 port v at).putting may in
    let p = parcels.items in
    let there : get_elem? s.frames v.put ≡ some p = ap (λ (l : List Parcels). get_elem? l v.put) (sym mine.1) ∙ next.1.1 in
    let below = some_below s.frames v.put p there in
    let step : row s.frames (v.put + 1) v.gone_put ≡ row s.frames v.put v.gone_put ++ round number p ∷ [] =
    subst (λ b. row s.frames (v.put + 1) b ≡ row s.frames v.put b ++ round number p ∷ []) (sym next.0) (row_step s.frames v.put number p next.1.0 there) in (
      record v { put = v.put + 1 },
      (
        record s { put = v.put + 1; gone_put = v.gone_put },
        pushed s items (Round number parcels) v.put (v.put + 1) v.gone_put v.gone_put c mine.2 mine.3 next.0 (omega arith) (omega arith) step,
        put_fits s port v views (v.put + 1) v.gone_put may at h.2 (omega (arith, mine.2)) (λ e. mine.3 ∙ e),
      ),
      refl,
    )
puts n port v Gone may next items views room h at =
    let s = h.0 in let c = h.1 in let mine = (h.2 port v at).putting may in
    let step : row s.frames v.put true ≡ row s.frames v.put v.gone_put ++ gone ∷ [] = subst (λ b. row s.frames v.put true ≡ row s.frames v.put b ++ gone ∷ []) (sym next) (row_end s.frames v.put) in
    let within = c.within in let same = mine.2 in (
      record v { gone_put = true },
      (
        record s { put = v.put; gone_put = true },
        pushed s items Gone v.put v.put v.gone_put true c mine.2 mine.3 next (omega arith) (omega arith) step,
        put_fits s port v views v.put true may at h.2 (omega (arith, mine.2)) (λ _. refl),
      ),
      refl,
    )

abbrev number_of : Carried → ℕ
number_of (round n p) = n
number_of gone = 0

abbrev parcels_of : Carried → Parcels
parcels_of (round n p) = p
parcels_of gone = []

abbrev is_round : Carried → Bool
is_round (round n p) = true
is_round gone = false

none_in : (x : Frame) (items : List Frame) → x ∷ items ≡ [] → ⊥
none_in x items e = some-ne-none x (ap (λ (l : List Frame). get_elem? l 0) e)

-- the last word was not taken while something is in the queue
not_over : (s : State) (x : Frame) (items : List Frame) → Counted s (x ∷ items) → s.gone_taken ≡ false
not_over s x items c = ⊎_elim (λ e. absurd (none_in x items (c.last e))) (λ e. e) (bool_is s.gone_taken)

turn : (s : State) (x : Frame) (items : List Frame) → Counted s (x ∷ items)
    → ((p : Parcels) × (get_elem? s.frames s.taken ≡ some p) × (carried x ≡ round (s.taken + 1) p) × (s.taken < s.put)) ⊎ ((s.taken ≡ s.put) × (s.gone_put ≡ true) × (carried x ≡ gone) × (map carried items ≡ []))
turn s x items c = comes s.frames s.taken s.put s.gone_put (carried x) (map carried items) c.behind c.within (c.rests ∙ ap (λ b. row s.frames s.taken b ++ carried x ∷ map carried items) (not_over s x items c))

nothing_mapped : (items : List Frame) → map carried items ≡ [] → items ≡ []
nothing_mapped [] e = refl
nothing_mapped (x ∷ xs) e = absurd (empty_is_not (carried x) (map carried xs) (sym e))

-- the queue's front goes over to what was taken
shift : (frames : List Parcels) (m n t : ℕ) (g g' h : Bool) (x : Frame) (items : List Frame)
    → row frames n g ≡ row frames t h ++ map carried (x ∷ items) → row frames m g' ≡ row frames t h ++ carried x ∷ [] → row frames n g ≡ row frames m g' ++ map carried items
shift frames m n t g g' h x items rests step = rests ∙ sym (append_assoc (row frames t h) (carried x ∷ []) (map carried items)) ∙ ap (λ l. l ++ map carried items) (sym step)

pub takes : (port : ℕ) (v : PassView) → v.takes ≡ true → Pops Tied port v (TakesNext v)
takes port v may (Round number parcels) items views h at =
    let s = h.0 in let c = h.1 in let mine = (h.2 port v at).taking may in let over = not_over s (Round number parcels) items c in
    let p = parcels.items in
    let open_yet : v.gone_taken ≡ false = mine.3 ∙ over in
    let x : Frame = Round number parcels in
    ⊎_elim
    (λ (t : (p' : Parcels) × (get_elem? s.frames s.taken ≡ some p') × (carried x ≡ round (s.taken + 1) p') × (s.taken < s.put)).
    let there : get_elem? s.frames s.taken ≡ some p = t.1 ∙ ap some (sym (ap parcels_of t.2)) in
    let nth : number ≡ s.taken + 1 = ap number_of t.2 in
    let step : row s.frames (s.taken + 1) s.gone_taken ≡ row s.frames s.taken s.gone_taken ++ carried x ∷ [] =
    subst (λ b. row s.frames (s.taken + 1) b ≡ row s.frames s.taken b ++ carried x ∷ []) (sym over) (row_step s.frames s.taken number p nth there) in
    let below = t.3 in let same = mine.2 in
    let is_m : v.taken + 1 ≡ s.taken + 1 = ap (λ k. k + 1) mine.2 in (
      record v { taken = v.taken + 1 },
      (
        record s { taken = v.taken + 1; gone_taken = v.gone_taken },
        record {
          rests = subst (λ (y : ℕ × Bool). row s.frames s.put s.gone_put ≡ row s.frames y.0 y.1 ++ map carried items) (λ i. (sym is_m i, sym mine.3 i))
              (shift s.frames (s.taken + 1) s.put s.taken s.gone_put s.gone_taken s.gone_taken x items c.rests step);
          within = c.within;
          behind = omega arith;
          last = λ e. absurd (true≢false (sym e ∙ open_yet));
          after = λ e. absurd (true≢false (sym e ∙ open_yet));
        },
        take_fits s port v views (v.taken + 1) v.gone_taken may at h.2 (omega (arith, mine.2)),
      ),
      ((open_yet, (nth ∙ sym is_m, ap (λ (l : List Parcels). get_elem? l v.taken) mine.1 ∙ ap (λ k. get_elem? s.frames k) mine.2 ∙ there)), refl),
    ))
    (λ (t : (s.taken ≡ s.put) × (s.gone_put ≡ true) × (carried x ≡ gone) × (map carried items ≡ [])). absurd (true≢false (ap is_round t.2)))
    (turn s x items c)
takes port v may Gone items views h at =
    let s = h.0 in let c = h.1 in let mine = (h.2 port v at).taking may in let over = not_over s Gone items c in
    let open_yet : v.gone_taken ≡ false = mine.3 ∙ over in
    ⊎_elim
    (λ (t : (p' : Parcels) × (get_elem? s.frames s.taken ≡ some p') × (carried Gone ≡ round (s.taken + 1) p') × (s.taken < s.put)). absurd (true≢false (sym (ap is_round t.2))))
    (λ (t : (s.taken ≡ s.put) × (s.gone_put ≡ true) × (carried Gone ≡ gone) × (map carried items ≡ [])).
    let step : row s.frames s.taken true ≡ row s.frames s.taken s.gone_taken ++ gone ∷ [] = subst (λ b. row s.frames s.taken true ≡ row s.frames s.taken b ++ gone ∷ []) (sym over) (row_end s.frames s.taken) in
    let behind = c.behind in let same = mine.2 in (
      record v { gone_taken = true },
      (
        record s { taken = v.taken; gone_taken = true },
        record {
          rests = ap (λ (l : List Carried). l) (shift s.frames s.taken s.put s.taken s.gone_put true s.gone_taken Gone items c.rests step) ∙ ap (λ k. row s.frames k true ++ map carried items) (sym mine.2);
          within = c.within;
          behind = omega arith;
          last = λ _. nothing_mapped items t.3;
          after = λ _. t.1;
        },
        take_fits s port v views v.taken true may at h.2 (omega (arith, mine.2)),
      ),
      (open_yet, refl),
    ))
    (turn s Gone items c)

only : (port : ℕ) (v : PassView) → get_elem? (unopened ∷ []) port ≡ some v → (0 ≡ port) × (unopened ≡ v)
only zero v e = (refl, some-injective unopened v e)
only (suc port) v e = absurd (some-ne-none v (sym e))

-- who was told nothing knows no more than was done
unknown : (v : PassView) (n : ℕ) (g : Bool) → v.known ≡ 0 → v.known_gone ≡ false → Known v n g
unknown v n g none open_yet = (omega (arith, none), λ e. absurd (true≢false (sym e ∙ open_yet)))

told_none : (v : PassView) (n : ℕ) → v.freed ≡ 0 → v.freed ≤ n
told_none v n none = omega (arith, none)

-- an edge begins with one pass
pub begins : Tied [] (unopened ∷ [])
begins = (
  record { writer = 0; reader = 0; frames = []; put = 0; gone_put = false; taken = 0; gone_taken = false },
  record { rests = refl; within = omega arith; behind = omega arith; last = λ e. absurd (true≢false (sym e)); after = λ e. absurd (true≢false (sym e)) },
  λ port v e. let h = only port v e in record {
    putting = λ _. (sym h.0, ap (λ (y : PassView). y.frames) (sym h.1), ap (λ (y : PassView). y.put) (sym h.1), ap (λ (y : PassView). y.gone_put) (sym h.1));
    taking = λ _. (sym h.0, ap (λ (y : PassView). y.frames) (sym h.1), ap (λ (y : PassView). y.taken) (sym h.1), ap (λ (y : PassView). y.gone_taken) (sym h.1));
    known = unknown v 0 false (ap (λ (y : PassView). y.known) (sym h.1)) (ap (λ (y : PassView). y.known_gone) (sym h.1));
    freed = told_none v 0 (ap (λ (y : PassView). y.freed) (sym h.1));
  },
)

-- the two ends get the run's frames
pub opens : (frames : List Parcels) (port : ℕ) (v : PassView) → v ≡ unopened → Forks Tied port v (putter frames) (taker frames)
opens frames port v new items views h at =
    let s = h.0 in let c = h.1 in
    let may_put : v.puts ≡ true = ap (λ (y : PassView). y.puts) new in let may_take : v.takes ≡ true = ap (λ (y : PassView). y.takes) new in
    let w = (h.2 port v at).putting may_put in let r = (h.2 port v at).taking may_take in
    let none : s.frames ≡ [] = sym w.1 ∙ ap (λ (y : PassView). y.frames) new in
    let n₀ : s.put ≡ 0 = sym w.2 ∙ ap (λ (y : PassView). y.put) new in
    let g₀ : s.gone_put ≡ false = sym w.3 ∙ ap (λ (y : PassView). y.gone_put) new in
    let t₀ : s.taken ≡ 0 = sym r.2 ∙ ap (λ (y : PassView). y.taken) new in
    let h₀ : s.gone_taken ≡ false = sym r.3 ∙ ap (λ (y : PassView). y.gone_taken) new in
    let nothing : [] ≡ map carried items =
    subst (λ (y : List Parcels × ℕ × Bool × ℕ × Bool). row y.0 y.1 y.2 ≡ row y.0 y.3 y.4 ++ map carried items) (λ i. (none i, n₀ i, g₀ i, t₀ i, h₀ i)) c.rests in
    let l : PassView = putter frames in let k : PassView = taker frames in let vs : List PassView = set views port l in
    let n : State = record { writer = port; reader = length vs; frames = frames; put = 0; gone_put = false; taken = 0; gone_taken = false } in
    let Old : ℕ → PassView → Type 0 = λ j u. (u.puts ≡ true → (j ≡ port) × (u.frames ≡ frames) × (u.put ≡ 0) × (u.gone_put ≡ false)) × (u.takes ≢ true) × Known u 0 false × (u.freed ≤ 0) in
    let old : All Old vs =
    all_set Old views port l ((λ _. (refl, refl, refl, refl)), (λ p. true≢false (sym p)), unknown l 0 false refl refl, told_none l 0 refl)
    (λ j u other e. (
      (λ p. absurd (other (((h.2 j u e).putting p).0 ∙ sym w.0))),
      (λ p. other (((h.2 j u e).taking p).0 ∙ sym r.0)),
      still u s.put 0 s.gone_put false (h.2 j u e).known (omega (arith, n₀)) (λ q. sym g₀ ∙ q),
      no_more u.freed s.taken 0 (h.2 j u e).freed (omega (arith, t₀)),
    )) in (
      n,
      record { rests = nothing; within = omega arith; behind = omega arith; last = λ e. absurd (true≢false (sym e)); after = λ e. absurd (true≢false (sym e)) },
      λ j u e. ⊎_elim (λ x. record { putting = (old j u x).0; taking = λ p. absurd ((old j u x).1 p); known = (old j u x).2; freed = (old j u x).3 })
          (λ (is : k ≡ u). record {
            putting = λ p. absurd (true≢false (sym (ap (λ (y : PassView). y.puts) is ∙ p)));
            taking = λ p. (at_end vs k u j (λ x. (old j u x).1 p) e, ap (λ (y : PassView). y.frames) (sym is), ap (λ (y : PassView). y.taken) (sym is), ap (λ (y : PassView). y.gone_taken) (sym is));
            known = unknown u 0 false (ap (λ (y : PassView). y.known) (sym is)) (ap (λ (y : PassView). y.known_gone) (sym is));
            freed = told_none u 0 (ap (λ (y : PassView). y.freed) (sym is));
          })
          (at_snoc vs k u j e),
    )

-- a pass that is spent fits, and one that only has news
no_side : (s : State) (port : ℕ) (v : PassView) → v.puts ≡ false → v.takes ≡ false → Known v s.put s.gone_put → v.freed ≤ s.taken → Fits s port v
no_side s port v a b known freed = record {
  putting = λ p. absurd (true≢false (sym p ∙ a));
  taking = λ p. absurd (true≢false (sym p ∙ b));
  known = known;
  freed = freed;
}

spent_fits : (s : State) (port : ℕ) → Fits s port spent_side
spent_fits s port = no_side s port spent_side refl refl (unknown spent_side s.put s.gone_put refl refl) (told_none spent_side s.taken refl)

puts_news_fits : (s : State) (port : ℕ) (v : PassView) → v.put ≡ s.put → v.gone_put ≡ s.gone_put → Fits s port (news_of_puts v)
puts_news_fits s port v many ended = no_side s port (news_of_puts v) refl refl (omega (arith, many), λ e. sym ended ∙ e) (told_none (news_of_puts v) s.taken refl)

takes_news_fits : (s : State) (port : ℕ) (v : PassView) → v.taken ≡ s.taken → Fits s port (news_of_takes v)
takes_news_fits s port v many = no_side s port (news_of_takes v) refl refl (unknown (news_of_takes v) s.put s.gone_put refl refl) (omega (arith, many))

-- both sides in one pass
pub joins : (port : ℕ) (v : PassView) (other : ℕ) (u : PassView) → v.puts ≡ true → u.takes ≡ true → Merges Tied port v other u (both_sides v u) spent_side
joins port v other u a b items views h at two at' =
    let s = h.0 in let c = h.1 in let mine = h.2 port v at in let both : PassView = both_sides v u in let vs : List PassView = set views port both in
    let was : get_elem? views other ≡ some u = ⊎_elim (λ x. absurd (two x.0)) (λ x. x.1) (at_set views port other both u at') in
    let theirs = (h.2 other u was).taking b in let n : State = record s { reader = port } in
    let Now : ℕ → PassView → Type 0 = λ j y. j ≢ other → Fits n j y in
    let now : All Now vs =
    all_set Now views port both
    (λ _. record { putting = mine.putting; taking = λ _. (refl, (mine.putting a).1, theirs.2, theirs.3); known = mine.known; freed = mine.freed })
    (λ j y _ e apart. let his = h.2 j y e in record {
      putting = his.putting;
      taking = λ p. absurd (apart ((his.taking p).0 ∙ sym theirs.0));
      known = his.known;
      freed = his.freed;
    }) in (
      n,
      record { rests = c.rests; within = c.within; behind = c.behind; last = c.last; after = c.after },
      all_set (Fits n) vs other spent_side (spent_fits n other) (λ j y apart e. now j y e apart),
    )

-- news of what was put, from one who puts
pub tells_puts : (port : ℕ) (v : PassView) → v.puts ≡ true → Forks Tied port v v (news_of_puts v)
tells_puts port v a items views h at =
    let s = h.0 in let mine = h.2 port v at in let vs : List PassView = set views port v in
    let old : All (Fits s) vs = all_set (Fits s) views port v mine (λ j u _ e. h.2 j u e) in (
      s,
      h.1,
      λ j u e. ⊎_elim (λ x. old j u x) (λ (is : news_of_puts v ≡ u). subst (Fits s j) is (puts_news_fits s j v (mine.putting a).2 (mine.putting a).3)) (at_snoc vs (news_of_puts v) u j e),
    )

-- and of what was taken, from one who takes
pub tells_takes : (port : ℕ) (v : PassView) → v.takes ≡ true → Forks Tied port v v (news_of_takes v)
tells_takes port v a items views h at =
    let s = h.0 in let mine = h.2 port v at in let vs : List PassView = set views port v in
    let old : All (Fits s) vs = all_set (Fits s) views port v mine (λ j u _ e. h.2 j u e) in (
      s,
      h.1,
      λ j u e. ⊎_elim (λ x. old j u x) (λ (is : news_of_takes v ≡ u). subst (Fits s j) is (takes_news_fits s j v (mine.taking a).2)) (at_snoc vs (news_of_takes v) u j e),
    )

-- a pass hears news: all that it says of the other one fits
hears : (port : ℕ) (v : PassView) (other : ℕ) (w after : PassView) → ((s : State) → Fits s port v → Fits s other w → Fits s port after) → Merges Tied port v other w after spent_side
hears port v other w after fits items views h at two at' =
    let s = h.0 in let vs : List PassView = set views port after in
    let was : get_elem? views other ≡ some w = ⊎_elim (λ x. absurd (two x.0)) (λ x. x.1) (at_set views port other after w at') in
    let old : All (Fits s) vs = all_set (Fits s) views port after (fits s (h.2 port v at) (h.2 other w was)) (λ j u _ e. h.2 j u e) in
    (s, h.1, all_set (Fits s) vs other spent_side (spent_fits s other) (λ j u _ e. old j u e))

pub hears_puts : (port : ℕ) (v : PassView) (other : ℕ) (w : PassView) → Merges Tied port v other w (puts_heard v w) spent_side
hears_puts port v other w = hears port v other w (puts_heard v w) (λ s mine news. record { putting = mine.putting; taking = mine.taking; known = news.known; freed = mine.freed })

pub hears_takes : (port : ℕ) (v : PassView) (other : ℕ) (w : PassView) → Merges Tied port v other w (takes_heard v w) spent_side
hears_takes port v other w = hears port v other w (takes_heard v w) (λ s mine news. record { putting = mine.putting; taking = mine.taking; known = mine.known; freed = news.freed })

pub settles : (port : ℕ) (v : PassView) → v.puts ≡ true → v.takes ≡ true → Learns Tied port v (Rests v)
settles port v a b items views h at =
    let s = h.0 in let w = (h.2 port v at).putting a in let r = (h.2 port v at).taking b in
    subst (λ (y : List Parcels × ℕ × Bool × ℕ × Bool). row y.0 y.1 y.2 ≡ row y.0 y.3 y.4 ++ map carried items) (λ i. (sym w.1 i, sym w.2 i, sym w.3 i, sym r.2 i, sym r.3 i)) h.1.rests

pub puts_see : (port : ℕ) (v : PassView) → v.puts ≡ true → Learns Tied port v (PutsSee v)
puts_see port v a items views h at =
    let s = h.0 in let c = h.1 in let w = (h.2 port v at).putting a in let behind = c.behind in let same = w.2 in (
      s.taken,
      s.gone_taken,
      (h.2 port v at).freed,
      omega arith,
      subst (λ (y : List Parcels × ℕ × Bool). row y.0 y.1 y.2 ≡ row y.0 s.taken s.gone_taken ++ map carried items) (λ i. (sym w.1 i, sym w.2 i, sym w.3 i)) c.rests,
    )

pub takes_see : (port : ℕ) (v : PassView) → v.takes ≡ true → Learns Tied port v (TakesSee v)
takes_see port v b items views h at =
    let s = h.0 in let c = h.1 in let r = (h.2 port v at).taking b in let behind = c.behind in let same = r.2 in (
      s.put,
      s.gone_put,
      omega arith,
      subst (λ (l : List Parcels). s.put ≤ length l) (sym r.1) c.within,
      (h.2 port v at).known,
      subst (λ (y : List Parcels × ℕ × Bool). row y.0 s.put s.gone_put ≡ row y.0 y.1 y.2 ++ map carried items) (λ i. (sym r.1 i, sym r.2 i, sym r.3 i)) c.rests,
    )
