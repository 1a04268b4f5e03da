-- Each scenario has nodes that hand their frames to each other.
use Rattle.std.proofs.Common.{◌≡◌, ◌+◌, ℕ, zero, suc, Bool, true, false, inl, inr, List, [], ◌∷◌, ◌++◌, map, filter, Contains, refl, sym, ap, subst, ◌∙◌, arith, add-one, Option, Some, None}
use Rattle.std.specs.Prelude.{◌==◌, unwrap_or}
use Rattle.std.specs.List.{range_with_len}
use Rattle.std.proofs.lemmas.Bool.{eqb-true, eq-eqb}
use Rattle.std.proofs.lemmas.List.Elements.{Contains-append_cases, Contains-append_left, Contains-append_right}
use Rattle.gen_types.specs.Members.{Contains_cases, Contains_nil, bool_cases, filter_range_gives, filter_range_has}
use Rattle.gen_types.proofs.Lists.{Contains_mapped}
use Rattle.gen_tree.specs.Rings.{KeyTree, Ring}
use Rattle.gen_net.specs.Header.{RunHeader}
use Rattle.gen_net.specs.Version.{height_in}
use Rattle.gen_chain.specs.Leaves.{leaf_of_order}
use Rattle.gen_script.specs.declared.lines.ScriptLine.{ScriptLine}
use Rattle.gen_scenario.proofs.Having.{in_mapped}
use Rattle.gen_scenario.specs.declared.heard.Heard.{Heard}
use Rattle.gen_scenario.specs.RoundEntries.{sign_entries}
use Rattle.gen_scenario.specs.Scenario.{Scenario, header_of, script_of}
use Rattle.gen_scenario.specs.SignedWorld.{frame_at, neighbours_of, own_order}
use Rattle.gen_scenario.specs.Trees.{general_tree}
use Rattle.gen_general.specs.Following.{IsSignedWith, round_signed}
use Rattle.gen_general.specs.Participant.{Participant, RingAfter, sender_at}
use Rattle.gen_general.specs.Recording.{Recorder, RecordsRound}
use Rattle.gen_node.specs.declared.stages.Stage.TheVariants.{Between, Sending}
use Rattle.gen_node.specs.Held.{Held, held_of, frame_in}
use Rattle.gen_node.specs.Node.{IsBegun, IsBegunFrom, Node, ended, frame_to, fresh_ring, node_at_start, sent_from}
use Rattle.gen_node.specs.NodeLaws.{HandOn, Nodes, NodesExist}

-- ---- the leaves that a general takes from its ring in a round

abbrev is_round : ℕ → Option ℕ → Bool
is_round round None = false
is_round round (Some at) = at == round

round_is : (round : ℕ) (o : Option ℕ) → is_round round o ≡ true → o ≡ Some round
round_is round None e = absurd cc
round_is round (Some at) e = ap Some (eqb-true at round e)

is_the_round : (round : ℕ) (o : Option ℕ) → o ≡ Some round → is_round round o ≡ true
is_the_round round o e = ap (is_round round) e ∙ eq-eqb round round refl

abbrev signs_now : Option ℕ → List Heard → ℕ → ℕ → Bool
signs_now own heard round order = is_round round (round_signed own heard order)

abbrev leaves_now : RunHeader → Option ℕ → List Heard → ℕ → List ℕ
leaves_now h own heard round = map (leaf_of_order h) (filter (signs_now own heard round) (range_with_len 0 h.network.orders))

leaf_signed : (h : RunHeader) (own : Option ℕ) (heard : List Heard) (round leaf : ℕ) → Contains (leaves_now h own heard round) leaf → IsSignedWith h own heard round leaf
leaf_signed h own heard round leaf k =
    let from = Contains_mapped (leaf_of_order h) (filter (signs_now own heard round) (range_with_len 0 h.network.orders)) leaf k in
    let has = filter_range_has (signs_now own heard round) 0 h.network.orders from.0 from.1 in
    record { order = from.0; known = omega (arith, has.1); leaf_is = sym from.2; signed = round_is round (round_signed own heard from.0) has.2 }

signed_leaf : (h : RunHeader) (own : Option ℕ) (heard : List Heard) (round leaf : ℕ) → IsSignedWith h own heard round leaf → Contains (leaves_now h own heard round) leaf
signed_leaf h own heard round leaf is =
    let kept = filter_range_gives (signs_now own heard round) 0 h.network.orders is.order (omega arith) (omega (arith, is.known)) (is_the_round round (round_signed own heard is.order) is.signed) in
    subst (Contains (leaves_now h own heard round)) (sym is.leaf_is) (in_mapped (leaf_of_order h) (filter (signs_now own heard round) (range_with_len 0 h.network.orders)) is.order kept)

abbrev next_ring : Participant → Option Ring → Option Ring
next_ring p None = None
next_ring p (Some r) = Some (record { seed = r.seed; height = r.height; taken = r.taken ++ leaves_now p.known.header p.known.own p.heard (p.round + 1) })

spends : (p : Participant) (ring : Option Ring) → RingAfter p ring (next_ring p ring)
spends p None = tt
spends p (Some r) =
    let now : List ℕ = leaves_now p.known.header p.known.own p.heard (p.round + 1) in
    record {
      seed = refl;
      height = refl;
      taken = λ leaf. (
        (λ k. elim (Contains-append_cases r.taken now leaf k) [
          | inl old ↦ inl old
          | inr new ↦ inr (leaf_signed p.known.header p.known.own p.heard (p.round + 1) leaf new)
        ]),
        (λ k. elim k [
          | inl old ↦ Contains-append_left r.taken now leaf old
          | inr new ↦ Contains-append_right r.taken now leaf (signed_leaf p.known.header p.known.own p.heard (p.round + 1) leaf new)
        ]),
      );
    }

-- ---- a round begins

abbrev next_standing : Participant → Participant
next_standing p = record { known = p.known; ring = next_ring p p.ring; heard = p.heard; before = p.heard; round = p.round + 1 }

abbrev next_recorder : Recorder → Recorder
next_recorder r = record {
  standing = next_standing r.standing;
  written = r.written ++ sign_entries (sender_at r.standing) r.standing.heard (r.standing.round + 1);
}

records : (r : Recorder) → RecordsRound r (next_recorder r)
records r = record {
  standing = record { known = refl; ring = spends r.standing r.standing.ring; heard = refl; before = refl; round = refl };
  written = refl;
}

abbrev signed_node : Node → Node
signed_node n = record { recorder = next_recorder n.recorder; stage = Sending 0; inbox = [] }

abbrev begun_node : Node → Node
begun_node n = sent_from 0 (signed_node n)

begins_now : (n : Node) → n.stage ≡ Between → IsBegun n (begun_node n)
begins_now n e = subst (λ stage. IsBegunFrom stage n (begun_node n)) (sym e) (signed_node n, record { signs = records n.recorder; stage = refl; inbox = refl }, refl)

-- ---- the frames of a round are handed in

abbrev parcels_by : Scenario → (ℕ → Node) → ℕ → ℕ → ℕ → Option (List ScriptLine) → List (List ℕ)
parcels_by s begun k g from None = (frame_to (begun from).recorder g).parcels
parcels_by s begun k g from (Some lines) = frame_at s (k + 1) from g

scripted : (s : Scenario) (begun : ℕ → Node) (k g from : ℕ) (script : Option (List ScriptLine)) → (script ≡ None → ⊥) → parcels_by s begun k g from script ≡ frame_at s (k + 1) from g
scripted s begun k g from None apart = absurd (apart refl)
scripted s begun k g from (Some lines) apart = refl

abbrev parcels_from : Scenario → (ℕ → Node) → ℕ → ℕ → ℕ → List (List ℕ)
parcels_from s begun k g from = parcels_by s begun k g from (script_of s.scripts from)

abbrev held_with : (ℕ → List (List ℕ)) → ℕ → Held
held_with parcels from = record { general = from; parcels = parcels from }

held_among : (parcels : ℕ → List (List ℕ)) (from : ℕ) (gs : List ℕ) → Contains gs from → held_of from (map (held_with parcels) gs) ≡ Some (parcels from)
unfolding held_of
held_among parcels from [] h = absurd (Contains_nil from h)
held_among parcels from (y ∷ gs) h = elim (bool_cases (y == from)) [
  | inl e ↦ rw e (ap (λ v. Some (parcels v)) (eqb-true y from e))
  | inr e ↦ rw e (held_among parcels from gs (elim (Contains_cases y from gs h) [
    | inl same ↦ (let t : true ≡ false = sym (eq-eqb y from same) ∙ e in absurd cc)
    | inr k ↦ k
  ]))
]

abbrev full_node : Scenario → (ℕ → Node) → ℕ → ℕ → Node
full_node s begun k g = record {
  recorder = (begun g).recorder;
  stage = (begun g).stage;
  inbox = map (held_with (parcels_from s begun k g)) (neighbours_of s.net g);
}

handed_in : (s : Scenario) (begun : ℕ → Node) (k g from : ℕ) → Contains (neighbours_of s.net g) from → frame_in from (full_node s begun k g).inbox ≡ parcels_from s begun k g from
handed_in s begun k g from near = ap (λ held. unwrap_or held []) (held_among (parcels_from s begun k g) from (neighbours_of s.net g) near)

-- ---- all rounds

abbrev tree_of : Scenario → ℕ → KeyTree
tree_of s g = general_tree s.master (height_in s.version) g

unfoldable after_rounds : Scenario → ℕ → ℕ → Node
after_rounds s zero g = node_at_start (header_of s) g (own_order s g) (fresh_ring (tree_of s g))
after_rounds s (suc k) g = ended (full_node s (λ v. begun_node (after_rounds s k v)) k g)

after_none : (s : Scenario) (g : ℕ) → after_rounds s 0 g ≡ node_at_start (header_of s) g (own_order s g) (fresh_ring (tree_of s g))
unfolding after_rounds
after_none s g = refl

after_one_more : (s : Scenario) (k g : ℕ) → after_rounds s (suc k) g ≡ ended (full_node s (λ v. begun_node (after_rounds s k v)) k g)
unfolding after_rounds
after_one_more s k g = refl

stands_between : (s : Scenario) (k g : ℕ) → (after_rounds s k g).stage ≡ Between
stands_between s zero g = ap (λ (n : Node). n.stage) (after_none s g)
stands_between s (suc k) g = ap (λ (n : Node). n.stage) (after_one_more s k g)

abbrev nodes_of : Scenario → Nodes
nodes_of s = record {
  after = after_rounds s;
  begun = λ k g. begun_node (after_rounds s k g);
  full = λ k g. full_node s (λ v. begun_node (after_rounds s k v)) k g;
}

hand_on : (s : Scenario) → HandOn s (nodes_of s)
hand_on s = record {
  starts = λ g his. (fresh_ring (tree_of s g), refl, after_none s g);
  begins = λ k g low his. begins_now (after_rounds s k g) (stands_between s k g);
  stays = λ k g low his. (refl, refl);
  honest = λ k g from low his near honest.
      handed_in s (λ v. begun_node (after_rounds s k v)) k g from near
      ∙ ap (parcels_by s (λ v. begun_node (after_rounds s k v)) k g from) honest.unscripted;
  others = λ k g from low his near scripted_one.
      handed_in s (λ v. begun_node (after_rounds s k v)) k g from near
      ∙ scripted s (λ v. begun_node (after_rounds s k v)) k g from (script_of s.scripts from) scripted_one;
  ends = λ k g low his. ap (λ n. after_rounds s n g) (add-one k) ∙ after_one_more s k g;
}

pub nodes_exist : NodesExist
nodes_exist s = (nodes_of s, hand_on s)
