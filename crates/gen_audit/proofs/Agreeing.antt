-- The headline's claim c: with few faulty generals the logs of a run agree on an order.
use Rattle.std.proofs.Common.{◌≡◌, ◌≢◌, ℕ, inl, inr, List, [], ◌∷◌, Contains, Option, Some, refl, sym, ap, ◌∙◌, subst}
use Rattle.std.proofs.lemmas.Bool.{cases_eq}
use Rattle.gen_net.specs.Network.{Network, choose, IsLoyal}
use Rattle.gen_net.specs.Walks.{HasDiameter}
use Rattle.gen_net.specs.Run.{Run, IsRun}
use Rattle.gen_net.specs.Follows.{Conduct, Commands, Relays, Follows, LieutenantDecides}
use Rattle.gen_net.specs.Log.{LogEntry, Started, Decided, IsEntry, Keeps}
use Rattle.gen_core.proofs.Decisions.{accepted_list}
use Rattle.gen_core.proofs.SignedRuns.{own_of}
use Rattle.gen_walks.proofs.Bridged.{has_diameter, within_of}
use Rattle.gen_scenario.specs.Theorem.{Case, Premises}
use Rattle.gen_scenario.proofs.Agree.{decide_loyal, decide_alike, obey_commander}
use Rattle.gen_match.specs.Matching.{Logs, Logged}
use Rattle.gen_audit.specs.Agreement.{AgreesOn, HasFewFaulty, FewFaultyAgree}
use Rattle.gen_audit.specs.Explained.{IsExplained}

-- the commander's conduct is to command
command_of : (net : Network) (run : Run) (c : Conduct) → Follows net run 0 c → c ≡ Commands (own_of c)
command_of net run (Commands own) f = refl
command_of net run (Relays pick) f = absurd (f.0 refl)

decides_own : (net : Network) (run : Run) (c : Conduct) (orders : List ℕ) (order : ℕ) → Follows net run 0 c → IsEntry net run 0 c (Decided orders order) → order ≡ own_of c
decides_own net run (Commands own) orders order f h = h.1
decides_own net run (Relays pick) orders order f h = absurd (f.0 refl)

decides_set : (net : Network) (run : Run) (g : ℕ) (c : Conduct) (orders : List ℕ) (order : ℕ) → Follows net run g c → g ≢ 0 → IsEntry net run g c (Decided orders order) → LieutenantDecides net run g orders order
decides_set net run g (Commands own) orders order f ng h = absurd (ng f.0)
decides_set net run g (Relays pick) orders order f ng h = record { set = h.0; chosen = h.1 }

starts : (net : Network) (run : Run) (c : Conduct) (own : Option ℕ) → Follows net run 0 c → IsEntry net run 0 c (Started 0 own) → own ≡ Some (own_of c)
starts net run (Commands mine) own f h = h.1
starts net run (Relays pick) own f h = absurd (f.0 refl)

-- each log has a DECIDE
pub has_decide : (net : Network) (run : Run) → IsRun net run → (g : ℕ) (c : Conduct) (log : List LogEntry) → Keeps net run g c log → (orders : List ℕ) × (order : ℕ) × Contains log (Decided orders order)
has_decide net run ok g (Commands own) log k = (own ∷ [], own, (k.entries (Decided (own ∷ []) own)).1 (refl, refl))
has_decide net run ok g (Relays pick) log k = let a = accepted_list net run ok g in (a.0, choose net a.0, (k.entries (Decided a.0 (choose net a.0))).1 (a.1, refl))

pub same_log : (a b : List LogEntry) → Some a ≡ Some b → a ≡ b
same_log a b e = cc

module _ (net : Network) (faulty rest : List ℕ) (walks : List (List ℕ)) (logs : Logs) (few : HasFewFaulty net faulty rest walks) (explained : IsExplained net faulty logs) where
  diameter : HasDiameter net faulty
  diameter = has_diameter net rest (within_of net rest walks few.bound) faulty few.of_rest

  abbrev here : Case
  here = record { net = net; faulty = faulty; run = explained.run; conducts = explained.conducts }

  premises : Premises here
  premises = record { signed = explained.signed; few = few.few; diameter = diameter }

  -- an entry of the log of one of the rest is his entry in the run
  entry : (g : ℕ) (e : LogEntry) → IsLoyal net faulty g → Logged logs g e → IsEntry net explained.run g (explained.conducts g) e
  entry g e loyal h =
      let k = explained.keeps g loyal in
      let q : h.0 ≡ k.0 = same_log h.0 k.0 (sym h.1 ∙ k.1) in
      (k.2.entries e).0 (subst (λ log. Contains log e) q h.2)

  set_of : (g : ℕ) → IsLoyal net faulty g → g ≢ 0 → (orders : List ℕ) (order : ℕ) → Logged logs g (Decided orders order) → LieutenantDecides net explained.run g orders order
  set_of g loyal ng orders order h = decides_set net explained.run g (explained.conducts g) orders order (explained.signed.follows g loyal) ng (entry g (Decided orders order) loyal h)

  obeys : IsLoyal net faulty 0 → (g : ℕ) → IsLoyal net faulty g → (orders : List ℕ) (order : ℕ) → Logged logs g (Decided orders order) → order ≡ own_of (explained.conducts 0)
  obeys loyal g loyal_g orders order h = elim (cases_eq g 0) [
    | inl zero_g ↦ decides_own net explained.run (explained.conducts 0) orders order (explained.signed.follows 0 loyal) (entry 0 (Decided orders order) loyal (subst (λ x. Logged logs x (Decided orders order)) zero_g h))
    | inr ng ↦
        let own = own_of (explained.conducts 0) in
        let c = command_of net explained.run (explained.conducts 0) (explained.signed.follows 0 loyal) in
        obey_commander here premises own g order (loyal, c) (loyal_g, ng) (orders, set_of g loyal_g ng orders order h)
  ]

  alike : (g h : ℕ) → IsLoyal net faulty g → IsLoyal net faulty h → (orders others : List ℕ) (order other : ℕ) → Logged logs g (Decided orders order) → Logged logs h (Decided others other) → order ≡ other
  alike g h loyal_g loyal_h orders others order other in_g in_h = elim (decide_loyal net faulty 0) [
    | inl loyal ↦ obeys loyal g loyal_g orders order in_g ∙ sym (obeys loyal h loyal_h others other in_h)
    | inr traitor ↦
        let ng : g ≢ 0 = λ e. traitor (subst (IsLoyal net faulty) e loyal_g) in
        let nh : h ≢ 0 = λ e. traitor (subst (IsLoyal net faulty) e loyal_h) in
        decide_alike here premises g h order other (loyal_g, ng) (loyal_h, nh) (orders, set_of g loyal_g ng orders order in_g) (others, set_of h loyal_h nh others other in_h)
  ]

  decides : (g : ℕ) → IsLoyal net faulty g → (orders : List ℕ) × (order : ℕ) × Logged logs g (Decided orders order)
  decides g loyal =
      let k = explained.keeps g loyal in
      let d = has_decide net explained.run explained.signed.run_of_net g (explained.conducts g) k.0 k.2 in
      (d.0, d.1, (k.0, k.1, d.2))

  agrees : (order : ℕ) × AgreesOn net faulty logs order
  agrees =
      let first = decides few.somebody.0 few.somebody.1 in
      let one : (g : ℕ) → IsLoyal net faulty g → (orders : List ℕ) (other : ℕ) → Logged logs g (Decided orders other) → other ≡ first.1 = λ g loyal orders other h. alike g few.somebody.0 loyal few.somebody.1 orders first.0 other first.1 h first.2 in (
        first.1,
        record {
          decided = λ g loyal. let d = decides g loyal in (d.0, subst (λ v. Logged logs g (Decided d.0 v)) (one g loyal d.0 d.1 d.2) d.2);
          alone = one;
          obeyed = λ loyal own h.
              let own_is : own ≡ Some (own_of (explained.conducts 0)) = starts net explained.run (explained.conducts 0) own (explained.signed.follows 0 loyal) (entry 0 (Started 0 own) loyal h) in
              own_is ∙ ap Some (sym (obeys loyal few.somebody.0 few.somebody.1 first.0 first.1 first.2));
        },
      )

pub few_faulty_agree : FewFaultyAgree
few_faulty_agree net faulty rest walks logs few explained = agrees net faulty rest walks logs few explained
