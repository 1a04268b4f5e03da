-- The decisions of a scenario.
use Rattle.std.proofs.Common.{◌≡◌, ◌<◌, ◌↔◌, inl, inr, ℕ, zero, suc, Bool, true, not, List, [], ◌∷◌, map, filter, Contains, refl, sym, ap, subst, ◌∙◌, arith, eqb}
use Rattle.std.specs.List.{range_with_len, list_any}
use Rattle.std.proofs.lemmas.Bool.{eqb-true, eq-eqb}
use Rattle.std.proofs.lemmas.Bool as bools
use Rattle.std.proofs.lemmas.List.Elements.{All-contains}
use Rattle.gen_types.specs.Ascending.{IsListOf}
use Rattle.gen_types.specs.Members.{filter_range_has, filter_range_gives, filter_range_ascending}
use Rattle.gen_types.proofs.Lists.{Contains_here, Contains_there, Contains_mapped, All_of, ascending_one, Contains_nil}
use Rattle.gen_net.specs.Network.{Network, rounds, choose, IsNetwork}
use Rattle.gen_net.specs.declared.message.Message.{Message}
use Rattle.gen_net.specs.Run.{Run, Accepts}
use Rattle.gen_net.specs.Follows.{LieutenantDecides}
use Rattle.gen_core.proofs.Decisions.{arrived_accepted}
use Rattle.gen_scenario.proofs.Same.{one_world_shown}
use Rattle.gen_scenario.specs.declared.scenario.Decision.{Decision}
use Rattle.gen_scenario.specs.Deciding.{DecisionsHold, OneOutcome, PlainDecisions, decision_of, decisions_of, followers_of, with_keys, AreSignedDecisions}
use Rattle.gen_scenario.specs.declared.heard.Heard.{Heard}
use Rattle.gen_scenario.specs.World.{IsDecision, IsOutcome}
use Rattle.gen_scenario.specs.Scenario.{Scenario, has_script, scripted, Plain, IsScenario}
use Rattle.gen_script.specs.Script.{Script}
use Rattle.gen_scenario.proofs.Having.{any_gives, any_has}
use Rattle.gen_scenario.proofs.FollowerRelays.{arrived_heard}
use Rattle.gen_scenario.proofs.HeardBy.{by_has, counted_facts, heard_said, is_run}
use Rattle.gen_scenario.specs.Counted.{firsts}
use Rattle.gen_scenario.specs.SignedWorld.{heard_by, message_to, messages_of}
use Rattle.gen_scenario.specs.Heard.{orders_heard}
use Rattle.gen_scenario.proofs.Conducts.{plain_world}

heard_accepted : (s : Scenario) (g : ℕ) → g < s.net.generals → IsListOf (orders_heard s.net.orders (heard_by s (rounds s.net) g)) (Accepts s.net (messages_of s) g)
unfolding orders_heard
heard_accepted s g known = record {
  ascending = filter_range_ascending (λ v. list_any (λ (x : Heard). eqb x.chain.order v) (heard_by s (rounds s.net) g)) 0 s.net.orders;
  members = λ v. (
    (λ h.
        let r = filter_range_has (λ w. list_any (λ (x : Heard). eqb x.chain.order w) (heard_by s (rounds s.net) g)) 0 s.net.orders v h in
        let k = any_has (λ (x : Heard). eqb x.chain.order v) (heard_by s (rounds s.net) g) r.2 in
        arrived_accepted s.net (messages_of s) (is_run s) g v (message_to g k.0) (heard_said s g k.0 known k.1) refl (eqb-true _ _ k.2)),
    (λ a.
        let y = arrived_heard s (rounds s.net) a.0 g a.2.arrives.0 a.1 a.2.arrives.1 in
        let order : y.x.chain.order ≡ v = ap (λ (t : Message). t.order) y.is ∙ a.2.arrives.2 in
        let b = by_has s (rounds s.net) g y.x y.stands in
        let low : y.x.chain.order < s.net.orders = (counted_facts s b.0 y.x.from g y.x.chain b.2.counts).verifies.0 in
        filter_range_gives (λ w. list_any (λ (x : Heard). eqb x.chain.order w) (heard_by s (rounds s.net) g)) 0 s.net.orders v (omega arith) (omega (arith, low, order)) (any_gives (λ (x : Heard). eqb x.chain.order v) (heard_by s (rounds s.net) g) y.x y.stands (eq-eqb _ _ order))),
  );
}

decides : (s : Scenario) (g : ℕ) → g < s.net.generals → IsDecision s.net s.order (messages_of s) (decision_of s g)
decides s zero known = record { commander = λ e. (refl, refl); lieutenant = λ ne. absurd (ne refl) }
decides s (suc g) known = record { commander = λ e. absurd (omega (arith, e)); lieutenant = λ ne. record { set = heard_accepted s (suc g) known; chosen = refl } }

pub decisions_hold : DecisionsHold
decisions_hold s ok = All_of (IsDecision s.net s.order (messages_of s)) (decisions_of s) (λ d h.
    let k = Contains_mapped (decision_of s) (followers_of s) d h in
    let r = filter_range_has (λ g. not (has_script s g)) 0 s.net.generals k.0 k.1 in
    subst (IsDecision s.net s.order (messages_of s)) k.2 (decides s k.0 (omega (arith, r.1))))

all_kept : (p : ℕ → Bool) (xs : List ℕ) → ((x : ℕ) → p x ≡ true) → filter p xs ≡ xs
all_kept p [] all = refl
all_kept p (x ∷ xs) all = rw (all x) (ap (λ ys. x ∷ ys) (all_kept p xs all))

pub decision_general : (s : Scenario) (g : ℕ) → (decision_of s g).general ≡ g
decision_general s zero = refl
decision_general s (suc g) = refl

firsts_are : (s : Scenario) (xs : List ℕ) → map (λ (d : Decision). d.general) (map (decision_of s) xs) ≡ xs
firsts_are s [] = refl
firsts_are s (x ∷ xs) = (λ i. decision_general s x i ∷ firsts_are s xs i)

nobody : (s : Scenario) → s.scripts ≡ [] → (g : ℕ) → not (has_script s g) ≡ true
nobody s none g = subst (λ (scripts : List Script). not (list_any (λ h. eqb h g) (scripted scripts)) ≡ true) (sym none) refl

pub plain_decisions : PlainDecisions
plain_decisions s ok none = record {
  run = messages_of s;
  world = plain_world s ok none;
  generals = firsts_are s (followers_of s) ∙ all_kept (λ g. not (has_script s g)) (range_with_len 0 s.net.generals) (nobody s none);
  each = decisions_hold s ok;
}

-- ---- one outcome

accepts_over : (net : Network) (run other : Run) → ((t : Message) → Contains run t ↔ Contains other t) → (g v : ℕ) → Accepts net run g v → Accepts net other g v
accepts_over net run other same g v a = (
  a.0,
  a.1,
  record {
    arrives = (a.2.arrives.0, (((same a.2.arrives.0).0 a.2.arrives.1.0.0, a.2.arrives.1.0.1), a.2.arrives.1.1), a.2.arrives.2);
    new = λ k low h. a.2.new k low (h.0, (((same h.0).1 h.1.0.0, h.1.0.1), h.1.1), h.2);
  },
)

one_decision : (net : Network) (order : ℕ) (run other : Run) → ((t : Message) → Contains run t ↔ Contains other t) → (d e : Decision) → d.general ≡ e.general → IsDecision net order run d → IsDecision net order other e → d ≡ e
one_decision net order run other same d e first one two = elim (bools.cases_eq d.general 0) [
  | inl zeroth ↦
      let p = one.commander zeroth in
      let q = two.commander (sym first ∙ zeroth) in
      let sets : d.orders ≡ e.orders = p.0 ∙ sym q.0 in
      let orders : d.order ≡ e.order = p.1 ∙ sym q.1 in
      (λ i. record { general = first i; orders = sets i; order = orders i })
  | inr ne ↦
      let p = one.lieutenant ne in
      let q : LieutenantDecides net other d.general e.orders e.order = subst (λ g. LieutenantDecides net other g e.orders e.order) (sym first) (two.lieutenant (λ z. ne (first ∙ z))) in
      let sets : d.orders ≡ e.orders = ascending_one d.orders e.orders p.set.ascending q.set.ascending
      (λ v h. (q.set.members v).1 (accepts_over net run other same d.general v ((p.set.members v).0 h)))
      (λ v h. (p.set.members v).1 (accepts_over net other run (λ t. ((same t).1, (same t).0)) d.general v ((q.set.members v).0 h))) in
      let orders : d.order ≡ e.order = p.chosen ∙ ap (choose net) sets ∙ sym q.chosen in
      (λ i. record { general = first i; orders = sets i; order = orders i })
]

same_decisions : (net : Network) (order : ℕ) (run other : Run) → ((t : Message) → Contains run t ↔ Contains other t) → (ds es : List Decision) → map (λ (d : Decision). d.general) ds ≡ map (λ (d : Decision). d.general) es → ((d : Decision) → Contains ds d → IsDecision net order run d) → ((e : Decision) → Contains es e → IsDecision net order other e) → ds ≡ es
same_decisions net order run other same [] [] firsts one two = refl
same_decisions net order run other same [] (e ∷ es) firsts one two = absurd cc
same_decisions net order run other same (d ∷ ds) [] firsts one two = absurd cc
same_decisions net order run other same (d ∷ ds) (e ∷ es) firsts one two =
    let first : d.general ≡ e.general = cc in
    let rest : map (λ (d : Decision). d.general) ds ≡ map (λ (d : Decision). d.general) es = cc in
    let head : d ≡ e = one_decision net order run other same d e first (one d (Contains_here d ds)) (two e (Contains_here e es)) in
    let tail : ds ≡ es = same_decisions net order run other same ds es rest (λ x h. one x (Contains_there d x ds h)) (λ x h. two x (Contains_there e x es h)) in
    (λ i. head i ∷ tail i)

pub one_outcome : OneOutcome
one_outcome net order decisions others one two =
    same_decisions net order one.run two.run (one_world_shown net order one.run two.run one.world two.world) decisions others (one.generals ∙ sym two.generals)
    (λ d h. All-contains (IsDecision net order one.run) decisions d one.each h) (λ d h. All-contains (IsDecision net order two.run) others d two.each h)

-- the decisions of a plain scenario are also those with signatures
with_keys_is : (plain : Plain) (master : List ℕ) → IsNetwork plain.net → plain.order < plain.net.orders → IsScenario (with_keys plain master)
with_keys_is plain master network low = record {
  network = network;
  slot = omega arith;
  order_known = low;
  known = λ script h. absurd (Contains_nil script h);
  ascending = λ i j d l m. absurd (omega arith);
  lawful = λ script line h k. absurd (Contains_nil script h);
  signers = λ script line h k. absurd (Contains_nil script h);
}

pub signed_decisions : (plain : Plain) (decisions : List Decision) → IsNetwork plain.net → plain.order < plain.net.orders → IsOutcome plain.net plain.order decisions → AreSignedDecisions plain decisions
signed_decisions plain decisions network low outcome master =
    one_outcome plain.net plain.order decisions (decisions_of (with_keys plain master)) outcome (plain_decisions (with_keys plain master) (with_keys_is plain master network low) refl)
