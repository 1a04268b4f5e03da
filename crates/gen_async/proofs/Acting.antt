-- An act keeps the machine as the progress of all says.
use Rattle.std.proofs.Common.{◌≡◌, ℕ, zero, suc, ◌+◌, ◌*◌, ◌<◌, ◌≤◌, inl, inr, List, [], ◌∷◌, ◌++◌, length, map, drop, find, replicate, Bool, true, false, ltb, slice_index, slice_set, slice_index_or, Option, Some, None, refl, sym, ap, subst, ◌∙◌, arith, zero-add}
use Rattle.std.specs.List.{flat_map, range_with_len}
use Rattle.std.proofs.lemmas.Bool.{cases_eq, cases_lt, cases_Bool, lt-ltb, le-ltb, cond-true, cond-false}
use Rattle.std.proofs.lemmas.List.{get_or-set_same, get_or-set_other, length-set, set-get_or, map-set, get_or-replicate, length-replicate}
use Rattle.gen_net.specs.Network.{AreNeighbours}
use Rattle.gen_net.proofs.Neighbours.{joined_below}
use Rattle.gen_scenario.specs.Scenario.{Scenario, IsScenario}
use Rattle.gen_scenario.specs.SignedWorld.{frame_at}
use Rattle.gen_scenario.specs.AllAre.{AllAre}
use Rattle.gen_async.specs.declared.acts.Act.{Act}
use Rattle.gen_async.specs.declared.acts.Act.TheVariants.{Puts, Takes}
use Rattle.gen_async.specs.declared.acts.Moved.TheVariants.{Put, Took, Blocked, Done}
use Rattle.gen_log.specs.Entry.{entry_spelling}
use Rattle.gen_async.specs.Actors.{ActorState, act_at, entries_at, one_more, undecided_by}
use Rattle.gen_async.specs.Logs.{log_so_far}
use Rattle.gen_async.specs.Frames.{queue}
use Rattle.gen_async.specs.Laws.{MoverNames}
use Rattle.gen_async.specs.Machine.{at_start, next_act, put, taken, queued, answer, mover, has_moved}
use Rattle.gen_async.specs.Running.{Machine, IsKept, Answers, progress_of, queue_at, with_queue}
use Rattle.gen_async.proofs.Answering.{says_put, says_full, says_took, says_empty, says_done}
use Rattle.gen_async.proofs.Movers.{mover_law}
use Rattle.gen_async.proofs.Running.{queue_length, queue_same, queue_longer, queue_shorter, put_here, taken_here, put_steps, put_stays, take_steps, take_stays, done_steps}
use Rattle.gen_async.proofs.Steps.{one_on, machine_on, put_after_put, taken_after_put, put_after_take, taken_after_take, start_progress, none_put, none_taken, machine_at_start}
use Rattle.gen_async.proofs.Where.{stands_at_put, stands_at_take}

abbrev pub actor_at : Scenario → List ℕ → ℕ → ActorState
actor_at s progress g = record { scenario = s; me = g; progress = slice_index progress g }

-- queues in the table
spots_apart : (a b c d : ℕ) → a < 16 → b < 16 → c < 16 → d < 16 → a * 16 + b ≡ c * 16 + d → (a ≡ c) × (b ≡ d)
spots_apart a b c d la lb lc ld e = (omega arith, omega arith)

module _ {F : Type 0} (rows : List (List F)) (all_rows : length rows ≡ 256) (a b : ℕ) (a_small : a < 16) (b_small : b < 16) where
  read_here : (held : List F) → queue_at (with_queue rows a b held) a b ≡ held
  read_here held = get_or-set_same rows (a * 16 + b) held [] (omega arith)

  read_there : (held : List F) (c d : ℕ) → c < 16 → d < 16 → ((c ≡ a) × (d ≡ b) → ⊥) → queue_at (with_queue rows a b held) c d ≡ queue_at rows c d
  read_there held c d c_small d_small apart = get_or-set_other rows (a * 16 + b) (c * 16 + d) held [] (λ e. apart (spots_apart c d a b c_small d_small a_small b_small e))

module _ (sc : Scenario) (capacity : ℕ) (progress : List ℕ) (actors : List ActorState) (rows : List (List (List (List ℕ)))) (k : IsKept sc capacity progress actors rows) (g : ℕ) (below : g < sc.net.generals) where
  inside : g < length progress
  inside = omega (arith, k.machine.generals)

  pub g_small : g < 16
  g_small = omega (arith, k.lawful.network.ranges.few_generals)

  pub actor_read : (i : ℕ) (a : ActorState) → i ≡ g → a ≡ slice_index_or actors i a → ◌≡◌ {A = ActorState} a (actor_at sc progress g)
  actor_read i a same read = read ∙ ap (λ z. slice_index_or actors z a) same ∙ k.acting g a below

  pub act_read : (i : ℕ) (a : ActorState) → i ≡ g → a ≡ slice_index_or actors i a → act_at a ≡ next_act sc.net progress g
  unfolding next_act
  act_read i a same read = ap act_at (actor_read i a same read)

  pub other_small : (h : ℕ) → AreNeighbours sc.net g h → h < 16
  other_small h joined = omega (arith, joined_below sc.net k.lawful.network g h joined, k.lawful.network.ranges.few_generals)

  -- the generals after his act
  acted : (i : ℕ) (t : ActorState) → i ≡ g → ◌≡◌ {A = ActorState} t (one_more (actor_at sc progress g)) → (a : ℕ) (d : ActorState) → a < sc.net.generals → ◌≡◌ {A = ActorState} (slice_index_or (slice_set actors i t) a d) (actor_at sc (one_on progress g) a)
  acted i t same e a d a_below = elim (cases_eq a g) [
    | inl q ↦
        let there : slice_index (one_on progress g) a ≡ slice_index progress g + 1 = ap (slice_index (one_on progress g)) q ∙ get_or-set_same progress g (slice_index progress g + 1) 0 inside in
        ap (λ j. slice_index_or (slice_set actors j t) a d) (same ∙ sym q) ∙ get_or-set_same actors a t d (omega (arith, k.all_actors)) ∙ e
        ∙ ap (λ j. let x : ActorState = record { scenario = sc; me = j; progress = slice_index progress g + 1 } in x) (sym q)
        ∙ ap (λ j. let x : ActorState = record { scenario = sc; me = a; progress = j } in x) (sym there)
    | inr ne ↦
        let there : slice_index (one_on progress g) a ≡ slice_index progress a = get_or-set_other progress g a (slice_index progress g + 1) 0 ne in
        ap (λ j. slice_index_or (slice_set actors j t) a d) same ∙ get_or-set_other actors g a t d ne ∙ k.acting a d a_below
        ∙ ap (λ j. let x : ActorState = record { scenario = sc; me = a; progress = j } in x) (sym there)
  ]

  pub progress_on : (i : ℕ) (t : ActorState) → i ≡ g → progress ≡ progress_of actors → ◌≡◌ {A = ActorState} t (one_more (actor_at sc progress g)) → progress_of (slice_set actors i t) ≡ one_on progress g
  progress_on i t same are e =
      map-set (λ (a : ActorState). a.progress) actors i t ∙ ap (λ (zs : List ℕ). slice_set zs i t.progress) (sym are) ∙ ap (λ j. slice_set progress j t.progress) same ∙ ap (λ (z : ActorState). slice_set progress g z.progress) e

  put_length : (l h : ℕ) → next_act sc.net progress g ≡ Some (Puts l h) → length (queue_at rows g h) ≡ queued sc.net progress g h
  put_length l h next = ap length (k.queued_up g h g_small (other_small h (stands_at_put sc.net k.lawful.network progress g l h next).joined)) ∙ queue_length sc.net (frame_at sc) progress g h

  pub put_blocked : (s : Machine) (l h : ℕ) → ◌≡◌ {A = Machine} (record { scenario = sc; capacity = capacity; progress = progress }) s → next_act sc.net progress g ≡ Some (Puts l h) → capacity ≤ length (queue_at rows g h) → Answers s g Blocked s
  put_blocked s l h view next is_full =
      let long = put_length l h next in
      subst (λ z. Answers z g Blocked z) view (record {
        said = sym (says_full sc.net capacity progress g l h next (omega arith));
        progress = sym (put_stays sc.net capacity progress g l h next (omega arith));
        scenario = refl;
        capacity = refl;
      })

  pub put_moved : (s : Machine) (later : List ℕ) (l h : ℕ) → ◌≡◌ {A = Machine} (record { scenario = sc; capacity = capacity; progress = progress }) s → next_act sc.net progress g ≡ Some (Puts l h) → length (queue_at rows g h) < capacity → later ≡ one_on progress g → Answers s g Put (record { scenario = sc; capacity = capacity; progress = later })
  put_moved s later l h view next free on =
      let long = put_length l h next in
      subst (λ z. Answers z g Put (record { scenario = sc; capacity = capacity; progress = later })) view (record {
        said = sym (says_put sc.net capacity progress g l h next (omega arith));
        progress = on ∙ sym (put_steps sc.net capacity progress g l h next (omega arith));
        scenario = refl;
        capacity = refl;
      })

  pub kept_put : (i : ℕ) (t : ActorState) (l h : ℕ) (frame : List (List ℕ)) (later : List (List (List (List ℕ)))) → i ≡ g → next_act sc.net progress g ≡ Some (Puts l h) → length (queue_at rows g h) < capacity → frame ≡ frame_at sc l g h → ◌≡◌ {A = ActorState} t (one_more (actor_at sc progress g))
      → later ≡ with_queue rows g h (queue_at rows g h ++ frame ∷ []) → IsKept sc capacity (one_on progress g) (slice_set actors i t) later
  kept_put i t l h frame later same next free framed e grown =
      let at_put = stands_at_put sc.net k.lawful.network progress g l h next in
      let h_small = other_small h at_put.joined in
      let long = put_length l h next in
      let new : List (List (List ℕ)) = queue_at rows g h ++ frame ∷ [] in
      subst (λ z. IsKept sc capacity (one_on progress g) (slice_set actors i t) z) (sym grown) (record {
        lawful = k.lawful;
        machine = machine_on sc.net progress g inside capacity (Puts l h) next (omega arith) k.machine;
        all_actors = length-set actors i t ∙ k.all_actors;
        all_rows = length-set rows (g * 16 + h) new ∙ k.all_rows;
        acting = acted i t same e;
        queued_up = λ a b a_small b_small. elim (put_after_put sc.net progress g inside l h next a b) [
          | inl q ↦
              let here : queue_at (with_queue rows g h new) g h ≡ queue sc.net (frame_at sc) (one_on progress g) g h =
              read_here rows k.all_rows g h g_small h_small new
              ∙ ap (λ z. z ++ frame ∷ []) (k.queued_up g h g_small h_small)
              ∙ ap (λ z. queue sc.net (frame_at sc) progress g h ++ z ∷ []) framed
              ∙ sym (queue_longer sc.net (frame_at sc) progress (one_on progress g) g h l (k.machine.not_below g h) at_put.here (put_here sc.net progress g inside l h next) (taken_after_put sc.net progress g inside l h next g h)) in
              subst (λ z. queue_at (with_queue rows g h new) z b ≡ queue sc.net (frame_at sc) (one_on progress g) z b) (sym q.0)
              (subst (λ z. queue_at (with_queue rows g h new) g z ≡ queue sc.net (frame_at sc) (one_on progress g) g z) (sym q.1) here)
          | inr q ↦
              let not_here : (a ≡ g) × (b ≡ h) → ⊥ = λ e.
              let p : put sc.net (one_on progress g) g h ≡ put sc.net progress g h + 1 = put_here sc.net progress g inside l h next in
              let r : put sc.net (one_on progress g) g h ≡ put sc.net progress g h = subst (λ z. put sc.net (one_on progress g) z h ≡ put sc.net progress z h) e.0 (subst (λ z. put sc.net (one_on progress g) a z ≡ put sc.net progress a z) e.1 q) in
              absurd (omega arith) in
              read_there rows k.all_rows g h g_small h_small new a b a_small b_small not_here
              ∙ k.queued_up a b a_small b_small
              ∙ sym (queue_same sc.net (frame_at sc) progress (one_on progress g) a b q (taken_after_put sc.net progress g inside l h next a b))
        ];
      })

  pub put_kept : (i : ℕ) (t : ActorState) (l h : ℕ) (frame : List (List ℕ)) (later : List (List (List (List ℕ)))) → i ≡ g → progress ≡ progress_of actors → next_act sc.net progress g ≡ Some (Puts l h) → length (queue_at rows g h) < capacity → frame ≡ frame_at sc l g h → ◌≡◌ {A = ActorState} t (one_more (actor_at sc progress g))
      → later ≡ with_queue rows g h (queue_at rows g h ++ frame ∷ []) → IsKept sc capacity (progress_of (slice_set actors i t)) (slice_set actors i t) later
  put_kept i t l h frame later same are next free framed e grown = subst (λ z. IsKept sc capacity z (slice_set actors i t) later) (sym (progress_on i t same are e)) (kept_put i t l h frame later same next free framed e grown)

  from_small : (l h : ℕ) → next_act sc.net progress g ≡ Some (Takes l h) → h < 16
  from_small l h next = other_small h (stands_at_take sc.net k.lawful.network progress g l h next).joined

  take_length : (l h : ℕ) → next_act sc.net progress g ≡ Some (Takes l h) → length (queue_at rows h g) ≡ queued sc.net progress h g
  take_length l h next = ap length (k.queued_up h g (from_small l h next) g_small) ∙ queue_length sc.net (frame_at sc) progress h g

  shorter : (l h : ℕ) → next_act sc.net progress g ≡ Some (Takes l h) → 0 < length (queue_at rows h g) → queue_at rows h g ≡ frame_at sc l h g ∷ queue sc.net (frame_at sc) (one_on progress g) h g
  shorter l h next some_left =
      let long = take_length l h next in
      let at_take = stands_at_take sc.net k.lawful.network progress g l h next in
      k.queued_up h g (from_small l h next) g_small
      ∙ queue_shorter sc.net (frame_at sc) progress (one_on progress g) h g l (omega arith) at_take.here (put_after_take sc.net progress g inside l h next h g) (taken_here sc.net progress g inside l h next)

  pub front_is : (l h : ℕ) (frame : List (List ℕ)) → next_act sc.net progress g ≡ Some (Takes l h) → 0 < length (queue_at rows h g) → frame ≡ slice_index_or (queue_at rows h g) 0 frame → frame ≡ frame_at sc l h g
  front_is l h frame next free read = read ∙ ap (λ z. slice_index_or z 0 frame) (shorter l h next free)

  pub take_blocked : (s : Machine) (l h : ℕ) → ◌≡◌ {A = Machine} (record { scenario = sc; capacity = capacity; progress = progress }) s → next_act sc.net progress g ≡ Some (Takes l h) → length (queue_at rows h g) ≤ 0 → Answers s g Blocked s
  take_blocked s l h view next is_empty =
      let long = take_length l h next in
      subst (λ z. Answers z g Blocked z) view (record {
        said = sym (says_empty sc.net capacity progress g l h next (omega arith));
        progress = sym (take_stays sc.net capacity progress g l h next (omega arith));
        scenario = refl;
        capacity = refl;
      })

  pub take_moved : (s : Machine) (later : List ℕ) (l h : ℕ) → ◌≡◌ {A = Machine} (record { scenario = sc; capacity = capacity; progress = progress }) s → next_act sc.net progress g ≡ Some (Takes l h) → 0 < length (queue_at rows h g) → later ≡ one_on progress g → Answers s g Took (record { scenario = sc; capacity = capacity; progress = later })
  take_moved s later l h view next free on =
      let long = take_length l h next in
      subst (λ z. Answers z g Took (record { scenario = sc; capacity = capacity; progress = later })) view (record {
        said = sym (says_took sc.net capacity progress g l h next (omega arith));
        progress = on ∙ sym (take_steps sc.net capacity progress g l h next (omega arith));
        scenario = refl;
        capacity = refl;
      })

  pub act_done : (s : Machine) → ◌≡◌ {A = Machine} (record { scenario = sc; capacity = capacity; progress = progress }) s → next_act sc.net progress g ≡ None → Answers s g Done s
  act_done s view next = subst (λ z. Answers z g Done z) view (record {
    said = sym (says_done sc.net capacity progress g next);
    progress = sym (done_steps sc.net capacity progress g next);
    scenario = refl;
    capacity = refl;
  })

  pub kept_take : (i : ℕ) (t : ActorState) (l h : ℕ) (later : List (List (List (List ℕ)))) → i ≡ g → next_act sc.net progress g ≡ Some (Takes l h) → 0 < length (queue_at rows h g) → ◌≡◌ {A = ActorState} t (one_more (actor_at sc progress g))
      → later ≡ with_queue rows h g (drop 1 (queue_at rows h g)) → IsKept sc capacity (one_on progress g) (slice_set actors i t) later
  kept_take i t l h later same next free e shrunk =
      let h_small = from_small l h next in
      let long = take_length l h next in
      let new : List (List (List ℕ)) = drop 1 (queue_at rows h g) in
      subst (λ z. IsKept sc capacity (one_on progress g) (slice_set actors i t) z) (sym shrunk) (record {
        lawful = k.lawful;
        machine = machine_on sc.net progress g inside capacity (Takes l h) next (omega arith) k.machine;
        all_actors = length-set actors i t ∙ k.all_actors;
        all_rows = length-set rows (h * 16 + g) new ∙ k.all_rows;
        acting = acted i t same e;
        queued_up = λ a b a_small b_small. elim (taken_after_take sc.net progress g inside l h next a b) [
          | inl q ↦
              let here : queue_at (with_queue rows h g new) h g ≡ queue sc.net (frame_at sc) (one_on progress g) h g =
              read_here rows k.all_rows h g h_small g_small new
              ∙ ap (drop 1) (shorter l h next free) in
              subst (λ z. queue_at (with_queue rows h g new) z b ≡ queue sc.net (frame_at sc) (one_on progress g) z b) (sym q.0)
              (subst (λ z. queue_at (with_queue rows h g new) h z ≡ queue sc.net (frame_at sc) (one_on progress g) h z) (sym q.1) here)
          | inr q ↦
              let not_here : (a ≡ h) × (b ≡ g) → ⊥ = λ e.
              let p : taken sc.net (one_on progress g) h g ≡ taken sc.net progress h g + 1 = taken_here sc.net progress g inside l h next in
              let r : taken sc.net (one_on progress g) h g ≡ taken sc.net progress h g = subst (λ z. taken sc.net (one_on progress g) z g ≡ taken sc.net progress z g) e.0 (subst (λ z. taken sc.net (one_on progress g) a z ≡ taken sc.net progress a z) e.1 q) in
              absurd (omega arith) in
              read_there rows k.all_rows h g h_small g_small new a b a_small b_small not_here
              ∙ k.queued_up a b a_small b_small
              ∙ sym (queue_same sc.net (frame_at sc) progress (one_on progress g) a b (put_after_take sc.net progress g inside l h next a b) q)
        ];
      })

module _ (sc : Scenario) (capacity : ℕ) (progress : List ℕ) (actors : List ActorState) (rows : List (List (List (List ℕ)))) (k : IsKept sc capacity progress actors rows) (g : ℕ) (below : g < sc.net.generals) where
  pub take_kept : (i : ℕ) (t : ActorState) (l h : ℕ) (later : List (List (List (List ℕ)))) → i ≡ g → progress ≡ progress_of actors → next_act sc.net progress g ≡ Some (Takes l h) → 0 < length (queue_at rows h g) → ◌≡◌ {A = ActorState} t (one_more (actor_at sc progress g))
      → later ≡ with_queue rows h g (drop 1 (queue_at rows h g)) → IsKept sc capacity (progress_of (slice_set actors i t)) (slice_set actors i t) later
  take_kept i t l h later same are next free e shrunk = subst (λ z. IsKept sc capacity z (slice_set actors i t) later) (sym (progress_on sc capacity progress actors rows k g below i t same are e)) (kept_take sc capacity progress actors rows k g below i t l h later same next free e shrunk)

  -- his log
  pub log_read : (i : ℕ) (a : ActorState) (s : Machine) (bytes : List ℕ) → ◌≡◌ {A = Machine} (record { scenario = sc; capacity = capacity; progress = progress }) s → i ≡ g → a ≡ slice_index_or actors i a
      → bytes ≡ flat_map entry_spelling (entries_at a.scenario a.me a.progress) → bytes ≡ flat_map entry_spelling (log_so_far s.scenario.net (undecided_by s.scenario) s.progress g)
  unfolding log_so_far entries_at
  log_read i a s bytes view same read e =
      let here : bytes ≡ flat_map entry_spelling (log_so_far sc.net (undecided_by sc) progress g) = e ∙ ap (λ (z : ActorState). flat_map entry_spelling (entries_at z.scenario z.me z.progress)) (actor_read sc capacity progress actors rows k g below i a same read) in
      subst (λ (z : Machine). bytes ≡ flat_map entry_spelling (log_so_far z.scenario.net (undecided_by z.scenario) z.progress g)) view here

pub next_inside : (s : Machine) (sc : Scenario) (capacity : ℕ) (progress : List ℕ) (g : ℕ) (next : Option Act) → ◌≡◌ {A = Machine} (record { scenario = sc; capacity = capacity; progress = progress }) s → next_act s.scenario.net s.progress g ≡ next → next_act sc.net progress g ≡ next
next_inside s sc capacity progress g next view e = subst (λ (z : Machine). next_act z.scenario.net z.progress g ≡ next) (sym view) e

pub next_outside : (s : Machine) (sc : Scenario) (capacity : ℕ) (progress : List ℕ) (g : ℕ) (next : Option Act) → ◌≡◌ {A = Machine} (record { scenario = sc; capacity = capacity; progress = progress }) s → next_act sc.net progress g ≡ next → next_act s.scenario.net s.progress g ≡ next
next_outside s sc capacity progress g next view e = subst (λ (z : Machine). next_act z.scenario.net z.progress g ≡ next) view e

pub below_inside : (s : Machine) (sc : Scenario) (capacity : ℕ) (progress : List ℕ) (g : ℕ) → ◌≡◌ {A = Machine} (record { scenario = sc; capacity = capacity; progress = progress }) s → g < s.scenario.net.generals → g < sc.net.generals
below_inside s sc capacity progress g view below = subst (λ (z : Machine). g < z.scenario.net.generals) (sym view) below

-- nothing changed
pub kept_same : (sc : Scenario) (capacity : ℕ) (actors : List ActorState) (rows later : List (List (List (List ℕ)))) (i : ℕ) (a t : ActorState) → IsKept sc capacity (progress_of actors) actors rows → a ≡ slice_index_or actors i a → t ≡ a → later ≡ rows
    → IsKept sc capacity (progress_of (slice_set actors i t)) (slice_set actors i t) later
kept_same sc capacity actors rows later i a t k read same back =
    let unmoved : slice_set actors i t ≡ actors = ap (slice_set actors i) (same ∙ read) ∙ set-get_or actors i a in
    subst (λ (zs : List ActorState). IsKept sc capacity (progress_of zs) zs later) (sym unmoved) (subst (λ z. IsKept sc capacity (progress_of actors) actors z) (sym back) k)

-- whether an attempt would move
module _ (sc : Scenario) (capacity : ℕ) (progress : List ℕ) (actors : List ActorState) (rows : List (List (List (List ℕ)))) (k : IsKept sc capacity progress actors rows) (g : ℕ) (below : g < sc.net.generals) (s : Machine) (view : ◌≡◌ {A = Machine} (record { scenario = sc; capacity = capacity; progress = progress }) s) where
  pub would_none : next_act sc.net progress g ≡ None → false ≡ has_moved (answer s.scenario.net s.capacity s.progress g)
  would_none next = subst (λ (z : Machine). false ≡ has_moved (answer z.scenario.net z.capacity z.progress g)) view (sym (ap has_moved (says_done sc.net capacity progress g next)))

  pub would_put : (l h n : ℕ) → next_act sc.net progress g ≡ Some (Puts l h) → n ≡ length (queue_at rows g h) → ltb n capacity ≡ has_moved (answer s.scenario.net s.capacity s.progress g)
  would_put l h n next long = subst (λ (z : Machine). ltb n capacity ≡ has_moved (answer z.scenario.net z.capacity z.progress g)) view
      (elim (cases_lt n capacity) [
        | inl free ↦ lt-ltb n capacity free ∙ sym (ap has_moved (says_put sc.net capacity progress g l h next (omega (arith, put_length sc capacity progress actors rows k g below l h next))))
        | inr is_full ↦ le-ltb n capacity is_full ∙ sym (ap has_moved (says_full sc.net capacity progress g l h next (omega (arith, put_length sc capacity progress actors rows k g below l h next))))
      ])

  pub would_take : (l h n : ℕ) → next_act sc.net progress g ≡ Some (Takes l h) → n ≡ length (queue_at rows h g) → ltb 0 n ≡ has_moved (answer s.scenario.net s.capacity s.progress g)
  would_take l h n next long = subst (λ (z : Machine). ltb 0 n ≡ has_moved (answer z.scenario.net z.capacity z.progress g)) view
      (elim (cases_lt 0 n) [
        | inl free ↦ lt-ltb 0 n free ∙ sym (ap has_moved (says_took sc.net capacity progress g l h next (omega (arith, take_length sc capacity progress actors rows k g below l h next))))
        | inr is_empty ↦ le-ltb 0 n is_empty ∙ sym (ap has_moved (says_empty sc.net capacity progress g l h next (omega (arith, take_length sc capacity progress actors rows k g below l h next))))
      ])

-- the first that passes a test, looked for from the front
pub find_first : (p : ℕ → Bool) (k n a : ℕ) → find p (range_with_len a k) ≡ None → k < n → p (a + k) ≡ true → find p (range_with_len a n) ≡ Some (a + k)
find_first p k zero a none short here = absurd (omega arith)
find_first p zero (suc n) a none short here =
    let same : a + 0 ≡ a = omega arith in
    let t : p a ≡ true = subst (λ z. p z ≡ true) same here in
    cond-true (p a) (Some a) (find p (range_with_len (a + 1) n)) t ∙ ap (λ (z : ℕ). Some z) (sym same)
find_first p (suc k) (suc n) a none short here = elim (cases_Bool (p a)) [
  | inl t ↦ let s : Some a ≡ None = sym (cond-true (p a) (Some a) (find p (range_with_len (a + 1) k)) t) ∙ none in absurd (cc)
  | inr f ↦
      let rest : find p (range_with_len (a + 1) k) ≡ None = sym (cond-false (p a) (Some a) (find p (range_with_len (a + 1) k)) f) ∙ none in
      let same : (a + 1) + k ≡ a + suc k = omega arith in
      cond-false (p a) (Some a) (find p (range_with_len (a + 1) n)) f ∙ find_first p k n (a + 1) rest (omega arith) (subst (λ z. p z ≡ true) (sym same) here) ∙ ap (λ (z : ℕ). Some z) same
]

pub find_more : (p : ℕ → Bool) (k a : ℕ) → find p (range_with_len a k) ≡ None → p (a + k) ≡ false → find p (range_with_len a (k + 1)) ≡ None
find_more p zero a none here =
    let same : a + 0 ≡ a = omega arith in
    cond-false (p a) (Some a) None (subst (λ z. p z ≡ false) same here)
find_more p (suc k) a none here = elim (cases_Bool (p a)) [
  | inl t ↦ let s : Some a ≡ None = sym (cond-true (p a) (Some a) (find p (range_with_len (a + 1) k)) t) ∙ none in absurd (cc)
  | inr f ↦
      let rest : find p (range_with_len (a + 1) k) ≡ None = sym (cond-false (p a) (Some a) (find p (range_with_len (a + 1) k)) f) ∙ none in
      let same : (a + 1) + k ≡ a + suc k = omega arith in
      let longer : suc k + 1 ≡ suc (k + 1) = omega arith in
      ap (λ z. find p (range_with_len a z)) longer
      ∙ cond-false (p a) (Some a) (find p (range_with_len (a + 1) (k + 1))) f ∙ find_more p k (a + 1) rest (subst (λ z. p z ≡ false) (sym same) here)
]

pub named : (sc : Scenario) (capacity : ℕ) (progress : List ℕ) (actors : List ActorState) (rows : List (List (List (List ℕ)))) → IsKept sc capacity progress actors rows → (s : Machine) → ◌≡◌ {A = Machine} (record { scenario = sc; capacity = capacity; progress = progress }) s → (r : Option ℕ) → r ≡ mover s.scenario.net s.capacity s.progress → 1 ≤ s.capacity → MoverNames s.scenario.net s.capacity s.progress r
named sc capacity progress actors rows k s view r e some =
    let room : 1 ≤ capacity = subst (λ (z : Machine). 1 ≤ z.capacity) (sym view) some in
    subst (MoverNames s.scenario.net s.capacity s.progress) (sym e) (subst (λ (z : Machine). MoverNames z.scenario.net z.capacity z.progress (mover z.scenario.net z.capacity z.progress)) view (mover_law sc.net capacity progress k.lawful.network room k.machine))

-- the search of mover, over all generals of a machine that is seen from outside
pub found : (s : Machine) (sc : Scenario) (capacity : ℕ) (progress : List ℕ) (n k g : ℕ) (answered : Bool) → ◌≡◌ {A = Machine} (record { scenario = sc; capacity = capacity; progress = progress }) s → n ≡ sc.net.generals → k < n → g ≡ k → find (λ x. has_moved (answer s.scenario.net s.capacity s.progress x)) (range_with_len 0 k) ≡ None → answered ≡ has_moved (answer s.scenario.net s.capacity s.progress g) → answered ≡ true → Some g ≡ mover s.scenario.net s.capacity s.progress
unfolding mover
found s sc capacity progress n k g answered view count below same none said holds =
    let generals : n ≡ s.scenario.net.generals = count ∙ ap (λ (z : Machine). z.scenario.net.generals) view in
    let here : has_moved (answer s.scenario.net s.capacity s.progress (0 + k)) ≡ true = ap (λ z. has_moved (answer s.scenario.net s.capacity s.progress z)) (zero-add k ∙ sym same) ∙ sym said ∙ holds in
    ap (λ (z : ℕ). Some z) (same ∙ sym (zero-add k)) ∙ sym (find_first (λ x. has_moved (answer s.scenario.net s.capacity s.progress x)) k s.scenario.net.generals 0 none (omega arith) here)

pub not_found : (s : Machine) (sc : Scenario) (capacity : ℕ) (progress : List ℕ) (n k : ℕ) → ◌≡◌ {A = Machine} (record { scenario = sc; capacity = capacity; progress = progress }) s → n ≡ sc.net.generals → k ≤ n → n ≤ k → find (λ x. has_moved (answer s.scenario.net s.capacity s.progress x)) (range_with_len 0 k) ≡ None → None ≡ mover s.scenario.net s.capacity s.progress
unfolding mover
not_found s sc capacity progress n k view count high low none =
    let generals : k ≡ s.scenario.net.generals = (let e : k ≡ n = omega arith in e) ∙ count ∙ ap (λ (z : Machine). z.scenario.net.generals) view in
    sym (ap (λ z. find (λ x. has_moved (answer s.scenario.net s.capacity s.progress x)) (range_with_len 0 z)) (sym generals) ∙ none)

pub not_yet : (s : Machine) (k g : ℕ) (answered : Bool) → g ≡ k → find (λ x. has_moved (answer s.scenario.net s.capacity s.progress x)) (range_with_len 0 k) ≡ None → answered ≡ has_moved (answer s.scenario.net s.capacity s.progress g) → answered ≡ false → find (λ x. has_moved (answer s.scenario.net s.capacity s.progress x)) (range_with_len 0 (k + 1)) ≡ None
not_yet s k g answered same none said holds =
    find_more (λ x. has_moved (answer s.scenario.net s.capacity s.progress x)) k 0 none (ap (λ z. has_moved (answer s.scenario.net s.capacity s.progress z)) (zero-add k ∙ sym same) ∙ sym said ∙ holds)

-- ---- nobody has moved

zero_progress : (n : ℕ) (actors : List ActorState) → length actors ≡ n → ((g : ℕ) (d : ActorState) → g < n → (slice_index_or actors g d).progress ≡ 0) → progress_of actors ≡ replicate n 0
zero_progress zero [] e each = refl
zero_progress zero (a ∷ actors) e each = absurd (omega arith)
zero_progress (suc n) [] e each = absurd (omega arith)
zero_progress (suc n) (a ∷ actors) e each =
    let first : a.progress ≡ 0 = each 0 a (omega arith) in
    ap (λ p. p ∷ progress_of actors) first ∙ ap (λ (zs : List ℕ). 0 ∷ zs) (zero_progress n actors (omega arith) (λ g d below. each (suc g) d (omega arith)))

abbrev pub AllStart : Scenario → List ActorState → Type 0
AllStart sc actors = AllAre (λ g (a : ActorState). ◌≡◌ {A = ActorState} a (record { scenario = sc; me = g; progress = 0 })) sc.net.generals actors

pub start_is : (sc : Scenario) (actors : List ActorState) → AllStart sc actors → progress_of actors ≡ at_start sc.net
start_is sc actors all = zero_progress sc.net.generals actors all.count (λ g d below. ap (λ (a : ActorState). a.progress) (all.each g d below))

no_queue : (m i : ℕ) (rs : List (List (List (List ℕ)))) → rs ≡ replicate m [] → i < m → slice_index_or rs i [] ≡ []
no_queue m i rs q l = ap (λ z. slice_index_or z i []) q ∙ get_or-replicate m i [] [] l

pub kept_at_start : (sc : Scenario) (capacity : ℕ) (actors : List ActorState) (rows : List (List (List (List ℕ)))) → IsScenario sc → AllStart sc actors → rows ≡ replicate 256 [] → IsKept sc capacity (progress_of actors) actors rows
unfolding queue
kept_at_start sc capacity actors rows ok all empty =
    let long : (m : ℕ) (rs : List (List (List (List ℕ)))) → rs ≡ replicate m [] → length rs ≡ m = λ m rs q. ap length q ∙ length-replicate m [] in
    subst (λ z. IsKept sc capacity z actors rows) (sym (start_is sc actors all)) (record {
      lawful = ok;
      machine = machine_at_start sc.net capacity;
      all_actors = all.count;
      all_rows = long 256 rows empty;
      acting = λ g d below. all.each g d below ∙ ap (λ j. let x : ActorState = record { scenario = sc; me = g; progress = j } in x) (sym (start_progress sc.net.generals g));
      queued_up = λ a b a_small b_small.
          let none : queued sc.net (at_start sc.net) a b ≡ 0 = omega (arith, none_put sc.net a b, none_taken sc.net a b) in
          no_queue 256 (a * 16 + b) rows empty (omega arith) ∙ sym (ap (λ z. map (λ l. frame_at sc l a b) (range_with_len (taken sc.net (at_start sc.net) a b + 1) z)) none);
    })

-- how many frames a queue holds
pub queued_outside : (sc : Scenario) (capacity : ℕ) (progress : List ℕ) (actors : List ActorState) (rows : List (List (List (List ℕ)))) → IsKept sc capacity progress actors rows → (m : Machine) → ◌≡◌ {A = Machine} (record { scenario = sc; capacity = capacity; progress = progress }) m
    → (a b : ℕ) → a < 16 → b < 16 → (n : ℕ) → n ≡ length (queue_at rows a b) → n ≡ queued m.scenario.net m.progress a b
queued_outside sc capacity progress actors rows k m view a b a_small b_small n long =
    let here : n ≡ queued sc.net progress a b = long ∙ ap length (k.queued_up a b a_small b_small) ∙ queue_length sc.net (frame_at sc) progress a b in
    subst (λ (z : Machine). n ≡ queued z.scenario.net z.progress a b) view here
