-- Whoever has no script follows, with the path that he heard first of each order.
use Rattle.std.proofs.Common.{◌≡◌, ◌≢◌, ◌<◌, ◌≤◌, inl, inr, ℕ, zero, suc, List, [], ◌∷◌, ◌++◌, length, Contains, refl, sym, ap, subst, ◌∙◌, arith, Some}
use Rattle.std.proofs.lemmas.Bool as bools
use Rattle.gen_types.proofs.Lists.{Contains_nil}
use Rattle.gen_net.specs.Network.{IsLoyal, rounds}
use Rattle.gen_net.specs.declared.message.Message.{Message}
use Rattle.gen_net.specs.Run.{Arrives, Adds}
use Rattle.gen_net.specs.Follows.{LieutenantFollows}
use Rattle.gen_core.specs.Seeing.{IsFromLeast}
use Rattle.gen_scenario.specs.WorldLaws.{EachFollows, PlainWorld, path_heard}
use Rattle.gen_scenario.specs.declared.heard.Heard.{Heard}
use Rattle.gen_scenario.specs.World.{IsRelay}
use Rattle.gen_scenario.specs.Scenario.{IsScenario, Scenario, scripted}
use Rattle.gen_script.specs.Script.{Script}
use Rattle.gen_scenario.proofs.FollowerRelays.{arrived_heard, commander_obeys, heard_arrives, lieutenants_relay}
use Rattle.gen_scenario.proofs.FirstHeard.{first_is, has_first, heard_in_order}
use Rattle.gen_scenario.specs.Heard.{first_of, round_of}
use Rattle.gen_scenario.specs.SignedWorld.{heard_by, message_to, messages_of}
use Rattle.gen_scenario.proofs.HeardBy.{is_run}
use Rattle.gen_chain.specs.Chain.{signed_path}
use Rattle.gen_scenario.proofs.WorldFollowers.{one_least}

-- what he adds in whatever round is what he heard first of all rounds
pub record Picked (s : Scenario) (g l v : ℕ) : Type 0 where
  pub x : Heard
  pub first : first_of v (heard_by s (rounds s.net) g) ≡ Some x
  pub order_is : x.chain.order ≡ v
  pub now : round_of x ≡ l
  pub arrives : Arrives (messages_of s) g l (message_to g x)
  pub least : IsFromLeast (messages_of s) g l v (signed_path x.chain.signers)

pub added_picked : (s : Scenario) (g l v : ℕ) → g < s.net.generals → Adds (messages_of s) g l v → Picked s g l v
added_picked s g l v known adds =
    let m : Message = adds.arrives.0 in
    let in_time : l ≤ rounds s.net = omega (arith, ((is_run s).messages m adds.arrives.1.0.0).in_time, adds.arrives.1.0.1) in
    let y = arrived_heard s (rounds s.net) l g m in_time adds.arrives.1 in
    let y-order : y.x.chain.order ≡ v = ap (λ (t : Message). t.order) y.is ∙ adds.arrives.2 in
    let y-round : round_of y.x ≡ l = ap (λ (t : Message). length t.path) y.is ∙ adds.arrives.1.0.1 in
    let some = has_first v (heard_by s (rounds s.net) g) y.x y.stands y-order in
    let x = some.0 in
    let f = first_is v (heard_by s (rounds s.net) g) x (heard_in_order s (rounds s.net) g) some.1 in
    let came = heard_arrives s (rounds s.net) g x known (omega arith) f.stands in
    let late : round_of x ≤ l = elim (f.first y.x y.stands y-order) [
      | inl e ↦ omega (arith, ap round_of e, y-round)
      | inr later ↦ elim later [ inl less ↦ omega (arith, less, y-round) | inr same ↦ omega (arith, same.0, y-round) ]
    ] in
    let now : round_of x ≡ l = elim (bools.cases_lt (round_of x) l) [
      | inl early ↦ absurd (adds.new (round_of x) early (message_to g x, came.0, f.order_is))
      | inr up ↦ omega (arith, late, up)
    ] in
    let at : Arrives (messages_of s) g l (message_to g x) = subst (λ k. Arrives (messages_of s) g k (message_to g x)) now came.0 in
    record {
      x = x;
      first = some.1;
      order_is = f.order_is;
      now = now;
      arrives = at;
      least = record {
        from = x.from;
        arrives = subst (λ w. Arrives (messages_of s) g l (record { from = x.from; to = g; order = w; path = signed_path x.chain.signers })) f.order_is at;
        least = λ t arrives order.
            let z = arrived_heard s (rounds s.net) l g t in_time arrives in
            let z-order : z.x.chain.order ≡ v = ap (λ (u : Message). u.order) z.is ∙ order in
            let z-round : round_of z.x ≡ l = ap (λ (u : Message). length u.path) z.is ∙ arrives.0.1 in
            let sender : z.x.from ≡ t.from = ap (λ (u : Message). u.from) z.is in
            elim (f.first z.x z.stands z-order) [
              | inl e ↦ omega (arith, ap (λ (w : Heard). w.from) e, sender)
              | inr later ↦ elim later [ inl less ↦ absurd (omega (arith, less, now, z-round)) | inr same ↦ omega (arith, same.1, sender) ]
            ];
      };
    }

-- the pick of a lieutenant
abbrev pub pick : Scenario → ℕ → ℕ → List ℕ
pick s g order = path_heard (first_of order (heard_by s (rounds s.net) g))

pub picked_path : (s : Scenario) (g l v : ℕ) (p : Picked s g l v) → pick s g v ≡ signed_path p.x.chain.signers
picked_path s g l v p = ap path_heard p.first

lieutenants_follow : (s : Scenario) → IsScenario s → (g : ℕ) → IsLoyal s.net (scripted s.scripts) g → g ≢ 0 → LieutenantFollows s.net (messages_of s) g (pick s g)
lieutenants_follow s ok g loyal ne =
    let relays = lieutenants_relay s ok g loyal ne in
    record {
      picks = λ l v a. let p = added_picked s g l v loyal.0 a in (message_to g p.x, p.arrives, p.order_is, sym (picked_path s g l v p));
      silent = relays.silent;
      sends = λ l t pos low e. (
        (λ h.
            let r : IsRelay s.net (messages_of s) g l t = (relays.sends l t pos low e).0 h in
            let p = added_picked s g l t.order loyal.0 r.added in
            let same = one_least s.net (messages_of s) (is_run s) g l t.order r.picked (signed_path p.x.chain.signers) r.least p.least ∙ sym (picked_path s g l t.order p) in
            record { added = r.added; longer = r.longer ∙ ap (λ q. q ++ g ∷ []) same; neighbour = r.neighbour; outside = r.outside }),
        (λ h.
            let p = added_picked s g l t.order loyal.0 h.added in
            (relays.sends l t pos low e).1 (record {
              picked = signed_path p.x.chain.signers;
              added = h.added;
              least = p.least;
              longer = h.longer ∙ ap (λ q. q ++ g ∷ []) (picked_path s g l t.order p);
              neighbour = h.neighbour;
              outside = h.outside;
            })),
      );
    }

pub each_follows : EachFollows
each_follows s ok zero loyal = (refl, commander_obeys s ok loyal)
each_follows s ok (suc g) loyal =
    let lieutenant : suc g ≢ 0 = λ e. absurd (omega (arith, e)) in
    (lieutenant, lieutenants_follow s ok (suc g) loyal lieutenant)

-- nobody has a script
all_loyal : (s : Scenario) → s.scripts ≡ [] → (g : ℕ) → g < s.net.generals → IsLoyal s.net (scripted s.scripts) g
all_loyal s none g low = (low, λ h. Contains_nil g (subst (λ (scripts : List Script). Contains (scripted scripts) g) none h))

pub plain_world : PlainWorld
plain_world s ok none = record {
  run_of_net = is_run s;
  commander = commander_obeys s ok (all_loyal s none 0 (omega (arith, ok.network.ranges.some_generals)));
  lieutenants = λ g low ne. lieutenants_relay s ok g (all_loyal s none g low) ne;
}
