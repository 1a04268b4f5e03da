-- What arrives at a general, message by message, and what he relays.
use Rattle.std.proofs.Common.{◌≡◌, ℕ, ◌⊎◌, ◌↔◌, inl, inr, List, [], ◌∷◌, ◌++◌, length, Contains, refl, sym, ap, ◌∙◌, subst, arith, Option}
use Rattle.std.proofs.lemmas.List.Elements.{Contains-push, Contains-append_left, Contains-push_cases}
use Rattle.gen_types.proofs.Lists.{Contains_nil}
use Rattle.gen_net.specs.declared.message.Message.{Message}
use Rattle.gen_core.specs.declared.arrivals.Seen.{Seen}
use Rattle.gen_net.specs.Network.{Network, AreNeighbours}
use Rattle.gen_net.specs.Run.{Run, IsRun}
use Rattle.gen_core.specs.Seeing.{AreArrivals, AreAdds}
use Rattle.gen_core.specs.declared.sending.Outgoing.{Outgoing}
use Rattle.gen_core.specs.Sending.{outgoing, Appends, AreSends, IsCommand, IsDue}
use Rattle.gen_scenario.specs.World.{IsRelay}
use Rattle.gen_world.specs.Loops.Rounds.{IsAmong, RelayedBy}

abbrev pub seen_of : Message → Seen
seen_of m = record { from = m.from; order = m.order; path = m.path }

abbrev pub message_to : ℕ → Seen → Message
message_to g s = record { from = s.from; to = g; order = s.order; path = s.path }

pub arrivals_more : (messages : List Message) (m : Message) (g l : ℕ) (seen : List Seen) → AreArrivals messages g l seen → m.to ≡ g → length m.path ≡ l → AreArrivals (messages ++ m ∷ []) g l (seen ++ seen_of m ∷ [])
arrivals_more messages m g l seen so_far to long s = (
  (λ h. elim (Contains-push_cases seen (seen_of m) s h) [
    | inl k ↦ let c = (so_far s).0 k in ((Contains-append_left messages (m ∷ []) (message_to g s) c.0.0, c.0.1), c.1)
    | inr e ↦
        let made : m ≡ message_to g s = (λ i. record { from = (e i).from; to = to i; order = (e i).order; path = (e i).path }) in
        ((subst (λ x. Contains (messages ++ m ∷ []) x) made (Contains-push messages m), subst (λ (x : Message). length x.path ≡ l) made long), refl)
  ]),
  (λ c. elim (Contains-push_cases messages m (message_to g s) c.0.0) [
    | inl k ↦ Contains-append_left seen (seen_of m ∷ []) s ((so_far s).1 ((k, c.0.1), refl))
    | inr e ↦ subst (λ x. Contains (seen ++ seen_of m ∷ []) x) (ap seen_of e) (Contains-push seen (seen_of m))
  ]),
)

pub arrivals_skip : (messages : List Message) (m : Message) (g l : ℕ) (seen : List Seen) → AreArrivals messages g l seen → (m.to ≡ g → length m.path ≡ l → ⊥) → AreArrivals (messages ++ m ∷ []) g l seen
arrivals_skip messages m g l seen so_far other s = (
  (λ h. let c = (so_far s).0 h in ((Contains-append_left messages (m ∷ []) (message_to g s) c.0.0, c.0.1), c.1)),
  (λ c. elim (Contains-push_cases messages m (message_to g s) c.0.0) [
    | inl k ↦ (so_far s).1 ((k, c.0.1), refl)
    | inr e ↦ absurd (other (ap (λ (x : Message). x.to) e) (ap (λ (x : Message). length x.path) e ∙ c.0.1))
  ]),
)

pub part_more : (me : ℕ) (parts : List Outgoing) (p : Outgoing) (m : Message) → IsAmong me (parts ++ p ∷ []) m ↔ (IsAmong me parts m ⊎ (record { from = me; to = p.to; order = p.order; path = p.path } ≡ m))
part_more me parts p m = (
  (λ h. elim (Contains-push_cases parts p (outgoing m.to m.order m.path) h.1) [
    | inl k ↦ inl (h.0, k)
    | inr e ↦ inr (λ i. record { from = sym h.0 i; to = (e i).to; order = (e i).order; path = (e i).path })
  ]),
  (λ h. elim h [
    | inl k ↦ (k.0, Contains-append_left parts (p ∷ []) (outgoing m.to m.order m.path) k.1)
    | inr e ↦ subst (λ x. IsAmong me (parts ++ p ∷ []) x) e (refl, Contains-push parts p)
  ]),
)

pub relayed : (net : Network) (run : Run) (g l : ℕ) (adds : List (Option (List ℕ))) (out : List Outgoing) → IsRun net run → AreAdds run g l adds → AreSends (IsDue net g adds) out → (m : Message) → IsAmong g out m ↔ RelayedBy net run g l m
relayed net run g l adds out run_of_net told sends m = (
  (λ h.
      let d : IsDue net g adds (outgoing m.to m.order m.path) = (sends.exactly (outgoing m.to m.order m.path)).0 h.1 in
      let both = (told m.order d.picked).0 d.is_picked in
      (h.0, omega (arith, d.in_time, both.1.arrives.0.1), record { picked = d.picked; added = both.0; least = both.1; longer = d.longer; neighbour = d.neighbour; outside = d.outside })),
  (λ h.
      let r : IsRelay net run g l m = h.2 in
      let was : Message = record { from = r.least.from; to = g; order = m.order; path = r.picked } in (
        h.0,
        (sends.exactly (outgoing m.to m.order m.path)).1 (record {
          picked = r.picked;
          is_picked = (told m.order r.picked).1 (r.added, r.least);
          in_time = omega (arith, h.1, r.least.arrives.0.1);
          new = (run_of_net.messages was r.least.arrives.0.0).outside;
          longer = r.longer;
          neighbour = r.neighbour;
          outside = r.outside;
        }),
      )),
)

-- what the commander sends
pub first_sends : (net : Network) (own : ℕ) (out : List Outgoing) (first : List Message) → AreSends (IsCommand net own) out → Appends (IsAmong 0 out) [] first → (m : Message) → Contains first m ↔ ((m.from ≡ 0) × AreNeighbours net 0 m.to × (m.order ≡ own) × (m.path ≡ 0 ∷ []))
first_sends net own out first sends sent m = (
  (λ h. elim ((sent m).0 h) [
    | inl none ↦ absurd (Contains_nil m none)
    | inr a ↦ let q = (sends.exactly (outgoing m.to m.order m.path)).0 a.1 in (a.0, q.0, q.1, q.2)
  ]),
  (λ q. (sent m).1 (inr (q.0, (sends.exactly (outgoing m.to m.order m.path)).1 (q.1, q.2, q.3)))),
)
