-- One round of all lieutenants, one lieutenant after another.
use Rattle.std.proofs.Common.{◌≡◌, ◌≢◌, ℕ, zero, suc, ◌+◌, ◌<◌, inl, inr, List, [], ◌∷◌, ◌++◌, length, map, take, drop, get_or, slice_set, All, Contains, refl, sym, ap, ◌∙◌, subst, arith}
use Rattle.std.proofs.lemmas.List.{take_more, take_more_set, drop-drop, drop-set-lt, get_or-drop, get_or-map, length-map, length-drop}
use Rattle.std.proofs.lemmas.List.Elements.{All-contains, All-drop, All-get_or, All-push, All-weaker, Contains-append_left, Contains-push, Contains-push_cases}
use Rattle.std.specs.List.{range_with_len}
use Rattle.std.proofs.lemmas.List.{map-append, take_at}
use Rattle.gen_types.specs.Members.{range_more}
use Rattle.gen_types.proofs.Lists.{Contains_cases, Contains_mapped, Contains_in_range}
use Rattle.gen_net.specs.Network.{Network}
use Rattle.gen_net.specs.declared.message.Message.{Message}
use Rattle.gen_net.specs.Run.{Run}
use Rattle.gen_core.specs.Seeing.{Lieutenant, HasSeen}
use Rattle.gen_core.specs.Sending.{Appends}
use Rattle.gen_net.specs.Follows.{LieutenantDecides}
use Rattle.gen_scenario.specs.World.{IsDecision, IsRelay}
use Rattle.gen_scenario.specs.declared.scenario.Decision.{Decision}
use Rattle.gen_world.specs.Loops.Rounds.{RelayedBy, AreRelays, IsReady, numbers_of}
use Rattle.gen_scenario.proofs.Growing.{WorldTo, AreNext, seen_longer}

-- what holds of all from a place on holds at this place
pub here_of_rest : (P : Lieutenant → Type 0) (states : List Lieutenant) (i : ℕ) (d : Lieutenant) → i < length states → All P (drop i states) → P (get_or states i d)
here_of_rest P states i d lt all =
    let more : 0 < length (drop i states) = omega (arith, length-drop i states) in
    let at : get_or (drop i states) 0 d ≡ get_or states (i + 0) d = get_or-drop i states 0 d in
    let same : i + 0 ≡ i = omega arith in
    subst P (at ∙ ap (λ k. get_or states k d) same) (All-get_or P (drop i states) 0 d more all)

pub rest_after : (P : Lieutenant → Type 0) (states : List Lieutenant) (i : ℕ) (new : Lieutenant) → All P (drop i states) → All P (drop (i + 1) (slice_set states i new))
rest_after P states i new all =
    let e : drop (i + 1) (slice_set states i new) ≡ drop 1 (drop i states) = drop-set-lt (i + 1) states i new (omega arith) ∙ sym (drop-drop 1 i states) in
    rw e (All-drop P 1 (drop i states) all)

pub done_after : (P : Lieutenant → Type 0) (states : List Lieutenant) (i : ℕ) (new : Lieutenant) → i < length states → All P (take i states) → P new → All P (take (i + 1) (slice_set states i new))
done_after P states i new lt all p = rw (take_more_set states i new lt) (All-push P (take i states) new all p)

pub numbers_set : (states : List Lieutenant) (i : ℕ) (new d : Lieutenant) → i < length states → new.me ≡ (get_or states i d).me → numbers_of (slice_set states i new) ≡ numbers_of states
numbers_set [] i new d lt e = absurd (omega arith)
numbers_set (s ∷ states) zero new d lt e = ap (λ g. g ∷ numbers_of states) e
numbers_set (s ∷ states) (suc i) new d lt e = ap (λ gs. s.me ∷ gs) (numbers_set states i new d (omega arith) e)

pub numbers_taken : (states : List Lieutenant) (numbers : List ℕ) (i : ℕ) (d : Lieutenant) → numbers_of states ≡ numbers → i < length states → take (i + 1) numbers ≡ take i numbers ++ (get_or states i d).me ∷ []
numbers_taken states numbers i d e lt =
    let long : i < length numbers = rw (← e, length-map) lt in
    let at : get_or numbers i 0 ≡ (get_or states i d).me = ap (λ ns. get_or ns i 0) (sym e) ∙ get_or-map (λ (s : Lieutenant). s.me) states i d 0 lt in
    take_more numbers i 0 long ∙ ap (λ g. take i numbers ++ g ∷ []) at

pub relays_more : (net : Network) (run : Run) (l g : ℕ) (generals : List ℕ) (now new : List Message) → AreRelays net run l generals now → Appends (RelayedBy net run g l) now new → AreRelays net run l (generals ++ g ∷ []) new
relays_more net run l g generals now new so_far more m = (
  (λ h. elim ((more m).0 h) [
    | inl old ↦ let r = (so_far m).0 old in (Contains-append_left generals (g ∷ []) m.from r.0, r.1, r.2)
    | inr r ↦ (subst (λ k. Contains (generals ++ g ∷ []) k) (sym r.0) (Contains-push generals g), r.1, subst (λ k. IsRelay net run k l m) (sym r.0) r.2)
  ]),
  (λ h. elim (Contains-push_cases generals g m.from h.0) [
    | inl k ↦ (more m).1 (inl ((so_far m).1 (k, h.1, h.2)))
    | inr e ↦ (more m).1 (inr (sym e, h.1, subst (λ k. IsRelay net run k l m) (sym e) h.2))
  ]),
)

-- he is ready for the round after
pub ready_next : (net : Network) (run : Run) (k : ℕ) (old new : Lieutenant) → IsReady net run k old → new.me ≡ old.me → new.gone ≡ old.gone + 1 → HasSeen net run new → IsReady net run (k + 1) new
ready_next net run k old new ready me gone saw = record {
  lieutenant = λ e. ready.lieutenant (sym me ∙ e);
  general = rw me ready.general;
  gone = omega (arith, gone, ready.gone);
  seen = saw;
}

-- ---- the lieutenants before round 1

pub numbers_pushed : (states : List Lieutenant) (new : Lieutenant) (k : ℕ) → 0 ∷ numbers_of states ≡ range_with_len 0 k → new.me ≡ k → 0 ∷ numbers_of (states ++ new ∷ []) ≡ range_with_len 0 (k + 1)
numbers_pushed states new k so_far e =
    let grown : numbers_of (states ++ new ∷ []) ≡ numbers_of states ++ new.me ∷ [] = map-append (λ (s : Lieutenant). s.me) states (new ∷ []) in
    let last : new.me ≡ 0 + k = omega arith in
    ap (λ ns. 0 ∷ ns) grown ∙ (ap (λ ns. ns ++ new.me ∷ []) so_far ∙ (ap (λ n. range_with_len 0 k ++ n ∷ []) last ∙ sym (range_more 0 k)))

-- ---- the decisions

pub generals_pushed : (out : List Decision) (decision : Decision) (states : List Lieutenant) (i : ℕ) (d : Lieutenant) → map (λ (x : Decision). x.general) out ≡ 0 ∷ take i (numbers_of states) → i < length states → decision.general ≡ (get_or states i d).me → map (λ (x : Decision). x.general) (out ++ decision ∷ []) ≡ 0 ∷ take (i + 1) (numbers_of states)
generals_pushed out decision states i d so_far lt e =
    map-append (λ (x : Decision). x.general) out (decision ∷ []) ∙ (ap (λ ns. ns ++ decision.general ∷ []) so_far ∙ (ap (λ g. 0 ∷ (take i (numbers_of states) ++ g ∷ [])) e ∙ ap (λ ns. 0 ∷ ns) (sym (numbers_taken states (numbers_of states) i d refl lt))))

-- a lieutenant's decision
pub lieutenants_decision : (net : Network) (own : ℕ) (run : Run) (me : ℕ) (set : List ℕ) (order : ℕ) → me ≢ 0 → LieutenantDecides net run me set order → IsDecision net own run (record { general = me; orders = set; order = order })
lieutenants_decision net own run me set order ne decides = record { commander = λ e. absurd (ne e); lieutenant = λ other. decides }

-- ---- what is written back

pub written_back : (new items : List Lieutenant) (n : ℕ) → length new ≡ length items → n ≡ length items → take n (new ++ drop (length new) items) ≡ new
written_back new items n same all = take_at new (drop (length new) items) n (same ∙ sym all)

-- ---- from round to round

-- the numbers are those of the lieutenants
among_numbers : (numbers : List ℕ) (n g : ℕ) → 0 ∷ numbers ≡ range_with_len 0 n → g < n → g ≢ 0 → Contains numbers g
among_numbers numbers n g all low ne =
    let here : Contains (0 ∷ numbers) g = subst (λ xs. Contains xs g) (sym all) (Contains_in_range 0 n g (omega arith) (omega arith)) in
    elim (Contains_cases 0 g numbers here) [ inl e ↦ absurd (ne (sym e)) | inr k ↦ k ]

pub next_of_relays : (net : Network) (run : Run) (l : ℕ) (states : List Lieutenant) (next : List Message) → 0 ∷ numbers_of states ≡ range_with_len 0 net.generals → All (λ s. (s.me ≢ 0) × (s.me < net.generals)) states → AreRelays net run l (numbers_of states) next → AreNext net run l next
next_of_relays net run l states next all some relays m = (
  (λ h.
      let r = (relays m).0 h in
      let from = Contains_mapped (λ (s : Lieutenant). s.me) states m.from r.0 in
      let facts = All-contains (λ (s : Lieutenant). (s.me ≢ 0) × (s.me < net.generals)) states from.0 some from.1 in
      record { general = subst (λ g. g < net.generals) from.2 facts.1; lieutenant = λ e. facts.0 (from.2 ∙ e); in_time = r.1; relay = r.2 }),
  (λ q. (relays m).1 (among_numbers (numbers_of states) net.generals m.from all q.general q.lieutenant, q.in_time, q.relay)),
)

-- who has seen the rounds of a run is ready in the longer run too
pub ready_longer : (net : Network) (order : ℕ) (run new : Run) (n : ℕ) (states : List Lieutenant) → WorldTo net order run n → AreNext net run n new → 0 < n → All (IsReady net run n) states → All (IsReady net (run ++ new) n) states
ready_longer net order run new n states w next pos all = All-weaker (IsReady net run n) (IsReady net (run ++ new) n) (λ s r. record { lieutenant = r.lieutenant; general = r.general; gone = r.gone; seen = seen_longer net order run new n s w next pos r.gone r.seen }) states all
