-- What was seen before and what comes now give what is added.
use Rattle.std.proofs.Common.{◌≡◌, ℕ, ◌+◌, ◌<◌, ◌≤◌, ◌⊎◌, inl, inr, List, [], ◌∷◌, length, get_or, Contains, Option, Some, None, refl, ap, ◌∙◌, subst, arith}
use Rattle.std.proofs.lemmas.Option.{slice_get_within, get_or_from_slice_get, slice_get-get_or}
use Rattle.std.proofs.lemmas.Bool.{cases_eq}
use Rattle.gen_types.specs.Ascending.{IsListOf}
use Rattle.gen_types.specs.Members.{Contains_nil}
use Rattle.gen_core.specs.declared.arrivals.Seen.{Seen}
use Rattle.gen_net.specs.Network.{Network}
use Rattle.gen_net.specs.declared.message.Message.{Message}
use Rattle.gen_net.specs.Run.{Run, Arrives, OrderArrives, Adds, IsRun}
use Rattle.gen_net.specs.Network.{rounds}
use Rattle.gen_net.specs.Run.{Accepts}
use Rattle.gen_core.proofs.Rounds.{added_by}
use Rattle.gen_core.specs.Loops.Picking.{OrderIn, IsBest, AreBest}
use Rattle.gen_core.specs.Seeing.{Lieutenant, AreArrivals, HasSeen, IsFromLeast}
use Rattle.gen_core.proofs.PickedPaths.{ChainPicked, ArePicks}

abbrev message_of : ℕ → Seen → Message
message_of g s = record { from = s.from; to = g; order = s.order; path = s.path }

abbrev seen_of : Message → Seen
seen_of t = record { from = t.from; order = t.order; path = t.path }

-- what came is in the list
in_list : (run : Run) (g l : ℕ) (seen : List Seen) → AreArrivals run g l seen → (t : Message) → Arrives run g l t → Contains seen (seen_of t)
in_list run g l seen arrivals t came =
    (arrivals (seen_of t)).1 (subst (λ h. Arrives run g l (record { from = t.from; to = h; order = t.order; path = t.path })) came.1 came)

made_of : (s : Seen) (from v : ℕ) (path : List ℕ) → s.from ≡ from → s.order ≡ v → s.path ≡ path → s ≡ record { from = from; order = v; path = path }
made_of s from v path a b c = rw (← a, ← b, ← c) refl

picked_by : (net : Network) (run : Run) (state : Lieutenant) (seen : List Seen) (picked : List (Option Seen)) → HasSeen net run state → AreArrivals run state.me (state.gone + 1) seen → (v : ℕ) (path : List ℕ) → v < length picked → Adds run state.me (state.gone + 1) v → IsFromLeast run state.me (state.gone + 1) v path
    → (o : Option Seen) → get_or picked v None ≡ o → IsBest state.known seen v o → ChainPicked picked v path
picked_by net run state seen picked saw arrivals v path low adds least None at b =
    let first : Message = record { from = least.from; to = state.me; order = v; path = path } in
    let old = (saw.known.members v).0 (b (seen_of first, in_list run state.me (state.gone + 1) seen arrivals first least.arrives, refl)) in
    absurd (adds.new old.0 (omega (arith, old.1)) old.2)
picked_by net run state seen picked saw arrivals v path low adds least (Some s) at b =
    let first : Message = record { from = least.from; to = state.me; order = v; path = path } in
    let came : Arrives run state.me (state.gone + 1) (message_of state.me s) = (arrivals s).0 b.0 in
    let one : least.from ≤ s.from = least.least (message_of state.me s) came b.1 in
    let two : s.from ≤ least.from = b.3 (seen_of first) (in_list run state.me (state.gone + 1) seen arrivals first least.arrives) refl in
    let same_from : s.from ≡ least.from = omega arith in
    let same : message_of state.me s ≡ first = saw.run_of_net.once (state.gone + 1) (message_of state.me s) first came.0 least.arrives.0 same_from refl b.1 in
    (s, slice_get-get_or picked v None low ∙ ap Some at, ap (λ t. t.path) same)

pub adds_of : (net : Network) (run : Run) (state : Lieutenant) (seen : List Seen) (picked : List (Option Seen)) → HasSeen net run state → AreArrivals run state.me (state.gone + 1) seen → AreBest state.known seen picked → ArePicks run state.me (state.gone + 1) picked
adds_of net run state seen picked saw arrivals best v path = (
  (λ p.
      let s : Seen = p.0 in
      let inside : v < length picked = slice_get_within picked v (Some s) p.1 in
      let low : v < 16 = omega (arith, best.long) in
      let here : get_or picked v None ≡ Some s = get_or_from_slice_get picked v (Some s) None p.1 in
      let b : IsBest state.known seen v (Some s) = subst (λ o. IsBest state.known seen v o) here (best.each v low) in
      let came : Arrives run state.me (state.gone + 1) (message_of state.me s) = (arrivals s).0 b.0 in
      let made : message_of state.me s ≡ record { from = s.from; to = state.me; order = v; path = path } = ap (message_of state.me) (made_of s s.from v path refl b.1 p.2) in (
        record {
          arrives = (message_of state.me s, came, b.1);
          new = λ k lt before. b.2 ((saw.known.members v).1 (k, omega arith, before));
        },
        record {
          from = s.from;
          arrives = subst (Arrives run state.me (state.gone + 1)) made came;
          least = λ t came' same. b.3 (seen_of t) (in_list run state.me (state.gone + 1) seen arrivals t came') same;
        },
      )),
  (λ p.
      let adds : Adds run state.me (state.gone + 1) v = p.0 in
      let least : IsFromLeast run state.me (state.gone + 1) v path = p.1 in
      let first : Message = record { from = least.from; to = state.me; order = v; path = path } in
      let low : v < net.orders = ((saw.run_of_net.messages first least.arrives.0.0).chain).order_known in
      let low' : v < 16 = omega (arith, saw.few_orders) in
      picked_by net run state seen picked saw arrivals v path (omega (arith, best.long)) adds least (get_or picked v None) refl (best.each v low')),
)

pub seen_more : (net : Network) (run : Run) (state : Lieutenant) (seen : List Seen) (known : List ℕ) → HasSeen net run state → AreArrivals run state.me (state.gone + 1) seen → IsListOf known (λ v. Contains state.known v ⊎ OrderIn seen v) → HasSeen net run (record { me = state.me; rounds = state.rounds; gone = state.gone + 1; known = known; choice = state.choice })
seen_more net run state seen known saw arrivals more = record {
  run_of_net = saw.run_of_net;
  few_orders = saw.few_orders;
  rounds = saw.rounds;
  choice = saw.choice;
  known = record {
    ascending = more.ascending;
    members = λ v. (
      (λ h. elim ((more.members v).0 h) [
        | inl old ↦ let k = (saw.known.members v).0 old in (k.0, omega (arith, k.1), k.2)
        | inr new ↦ (state.gone + 1, omega arith, (message_of state.me new.0, (arrivals new.0).0 new.1, new.2))
      ]),
      (λ h. (more.members v).1 (elim (cases_eq h.0 (state.gone + 1)) [
        | inl e ↦
            let came : OrderArrives run state.me (state.gone + 1) v = subst (λ k. OrderArrives run state.me k v) e h.2 in
            inr (seen_of came.0, in_list run state.me (state.gone + 1) seen arrivals came.0 came.1, came.2)
        | inr ne ↦ inl ((saw.known.members v).1 (h.0, omega (arith, h.1), h.2))
      ])),
    );
  };
}

-- nothing comes before round 1
no_round_zero : (net : Network) (run : Run) → IsRun net run → (g v : ℕ) → OrderArrives run g 0 v → ⊥
no_round_zero net run ok g v (t, came, same) =
    let from = ((ok.messages t came.0.0).chain).from_commander in
    let long : length (0 ∷ from.0) ≡ 0 = rw from.1 at came.0.1 in
    omega arith

pub seen_none : (net : Network) (run : Run) (state : Lieutenant) → IsRun net run → net.orders ≤ 15 → state.rounds ≡ rounds net → state.choice ≡ net.choice → state.gone ≡ 0 → state.known ≡ [] → HasSeen net run state
seen_none net run state ok few all choice none empty = record {
  run_of_net = ok;
  few_orders = few;
  rounds = all;
  choice = choice;
  known = rw empty (record {
    ascending = λ i j d l m. absurd (omega arith);
    members = λ v. (
      (λ h. absurd (Contains_nil v h)),
      (λ h. let first : h.0 ≡ 0 = omega (arith, h.1, none) in absurd (no_round_zero net run ok state.me v (subst (λ k. OrderArrives run state.me k v) first h.2))),
    );
  });
}

pub decides_of : (net : Network) (run : Run) (state : Lieutenant) → HasSeen net run state → state.gone ≡ state.rounds → IsListOf state.known (Accepts net run state.me)
decides_of net run state saw all = record {
  ascending = saw.known.ascending;
  members = λ v. (
    (λ h.
        let k = (saw.known.members v).0 h in
        let first = added_by run state.me k.0 v k.2 in
        (first.0, omega (arith, first.1, k.1, saw.rounds), first.2)),
    (λ h. (saw.known.members v).1 (h.0, omega (arith, h.1, saw.rounds), h.2.arrives)),
  );
}
