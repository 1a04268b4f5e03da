-- Where nobody is faulty and no two generals are too far apart, all decide the commander's order.
use Rattle.std.proofs.Common.{◌≡◌, ℕ, ◌<◌, inl, inr, List, [], Contains, subst, arith}
use Rattle.std.proofs.lemmas.Bool.{cases_eq}
use Rattle.std.proofs.lemmas.List.Elements.{All-contains}
use Rattle.gen_types.proofs.Lists.{Contains_nil, Contains_range, All_of}
use Rattle.gen_net.specs.Network.{Network}
use Rattle.gen_net.specs.Walks.{HasDiameter}
use Rattle.gen_scenario.specs.declared.scenario.Decision.{Decision}
use Rattle.gen_scenario.specs.Theorem.{Case}
use Rattle.gen_scenario.specs.World.{IsDecision, IsOutcome}
use Rattle.gen_scenario.specs.WorldFollows.{WorldMeetsPremises, AllDecide, nobody_faulty}
use Rattle.gen_scenario.proofs.Agree.{obey_commander}
use Rattle.gen_scenario.proofs.WorldFollowers.{world_is_signed}
use Rattle.gen_scenario.proofs.Having.{in_mapped}

pub world_meets_premises : WorldMeetsPremises
world_meets_premises net order run w near =
    let s = world_is_signed net order run w in
    (s.0, record { signed = s.1; few = omega arith; diameter = near }, s.2)

pub all_obey : (net : Network) (order : ℕ) (decisions : List Decision) → IsOutcome net order decisions → HasDiameter net [] → AllDecide order decisions
all_obey net order decisions o near =
    let p = world_meets_premises net order o.run o.world near in
    let here : Case = nobody_faulty net o.run p.0 in
    All_of (λ (d : Decision). d.order ≡ order) decisions (λ d h.
    let decision : IsDecision net order o.run d = All-contains (IsDecision net order o.run) decisions d o.each h in
    elim (cases_eq d.general 0) [
      | inl commander ↦ (decision.commander commander).1
      | inr lieutenant ↦
          let range = Contains_range 0 net.generals d.general (subst (λ gs. Contains gs d.general) o.generals (in_mapped (λ (x : Decision). x.general) decisions d h)) in
          let known : d.general < net.generals = omega (arith, range.1) in
          let loyal : (g : ℕ) → Contains [] g → ⊥ = λ g k. Contains_nil g k in
          let some : 0 < net.generals = omega arith in
          obey_commander here p.1 order d.general d.order ((some, loyal 0), p.2) ((known, loyal d.general), lieutenant) (d.orders, decision.lieutenant lieutenant)
    ])
