-- The network of a run is one, and has the edges between the nodes of its generals.
use Rattle.std.proofs.Common.{◌≡◌, ◌<◌, ◌≤◌, ◌+◌, ◌↔◌, ℕ, true, leb, List, get_or, length, Contains, Result, Ok, Err, refl, sym, ap, subst, ◌∙◌, arith}
use Rattle.std.specs.Prelude.{IfOk}
use Rattle.std.proofs.lemmas.List.Elements.{Contains-get_or}
use Rattle.std.proofs.lemmas.Bool.{le-leb}
use Rattle.std.proofs.lemmas.Nat.{mod_below}
use Rattle.gen_types.specs.declared.choices.ChoiceKind.{ChoiceKind}
use Rattle.gen_types.specs.declared.choices.ChoiceKind.TheVariants.{Only, Median}
use Rattle.gen_types.specs.ChoiceOf.{choice_number, choice_numbered}
use Rattle.gen_types.specs.declared.reading.ReadError.{ReadError}
use Rattle.gen_types.specs.declared.reading.ReadError.TheVariants as errors
use Rattle.gen_types.specs.Reading.{Fails}
use Rattle.gen_types.specs.Spelled.{IsRead}
use Rattle.gen_net.specs.declared.fault.HeaderFault.{HeaderFault}
use Rattle.gen_net.specs.declared.numbers.NetNumbers.{NetNumbers}
use Rattle.gen_net.specs.Network.{Network, AreNeighbours, IsNetwork}
use Rattle.gen_net.specs.NetworkOf.{is_within, known_choice, network_of, ranges_of}
use Rattle.gen_system.specs.declared.proposers.Proposer.{Proposer}
use Rattle.gen_system.specs.declared.proposers.Proposer.TheVariants.{First, Turns}
use Rattle.gen_system.specs.RunNets.{IsNetOfRun, network_by, network_of_run, turned}
use Rattle.gen_system.specs.Runs.{general_by, node_by}
use Rattle.gen_system.specs.Systems.{RunSystem}
use Rattle.gen_system.proofs.Moved.{IsRenaming, no_bad_edge, same_edges}
use Rattle.gen_system.proofs.Turning.{general_back, node_back}

-- ---- the numbers of a network are in their ranges

within_again : (least greatest n : ℕ) → least ≤ n → n ≤ greatest → is_within least greatest n ≡ true
within_again least greatest n low high = rw (le-leb least n low, le-leb n greatest high) refl

known_again : (kind : ChoiceKind) → known_choice (choice_numbered (choice_number kind)) ≡ Ok kind
known_again Only = refl
known_again Median = refl

-- the numbers that a network is made of
abbrev pub numbers_of : Network → NetNumbers
numbers_of net = record { generals = net.generals; traitors = net.traitors; diameter = net.diameter; orders = net.orders; choice = choice_number net.choice }

in_ranges : (net : Network) → IsNetwork net → ranges_of (numbers_of net) true ≡ Ok net.choice
unfolding ranges_of
in_ranges net ok =
    let r = ok.ranges in
    let generals = within_again 2 16 net.generals r.some_generals r.few_generals in
    let traitors : leb net.traitors 8 ≡ true = le-leb _ _ r.few_traitors in
    let diameter = within_again 1 15 net.diameter r.some_diameter r.few_diameter in
    let rounds : leb (net.traitors + net.diameter) 16 ≡ true = le-leb _ _ r.few_rounds in
    let orders = within_again 2 15 net.orders r.some_orders r.few_orders in
    rw (generals, traitors, diameter, rounds, orders) (known_again net.choice)

-- ---- turns

renaming : (n run : ℕ) → 0 < n → IsRenaming n (general_by Turns n run) (node_by Turns n run)
renaming n run some = record {
  to_below = λ v below. mod_below _ n some;
  back_to = λ v below. node_back n run v below;
  to_back = λ g below. general_back n run g below;
}

pub turned_made : (net : Network) → IsNetwork net → (run : ℕ) → network_of (numbers_of net) (turned net.generals run net.edges) ≡ Ok (network_by Turns net run)
unfolding network_of
turned_made net ok run =
    let some : 0 < net.generals = omega (arith, ok.ranges.some_generals) in
    let none = no_bad_edge net.generals (general_by Turns net.generals run) (node_by Turns net.generals run) (renaming net.generals run some) net.edges ok.edges in
    rw (none, in_ranges net ok) refl

-- ---- the edges

same_count : (p : Proposer) (net : Network) (run : ℕ) → (network_by p net run).generals ≡ net.generals
same_count First net run = refl
same_count Turns net run = refl

same_traitors : (p : Proposer) (net : Network) (run : ℕ) → (network_by p net run).traitors ≡ net.traitors
same_traitors First net run = refl
same_traitors Turns net run = refl

same_diameter : (p : Proposer) (net : Network) (run : ℕ) → (network_by p net run).diameter ≡ net.diameter
same_diameter First net run = refl
same_diameter Turns net run = refl

same_orders : (p : Proposer) (net : Network) (run : ℕ) → (network_by p net run).orders ≡ net.orders
same_orders First net run = refl
same_orders Turns net run = refl

same_choice : (p : Proposer) (net : Network) (run : ℕ) → (network_by p net run).choice ≡ net.choice
same_choice First net run = refl
same_choice Turns net run = refl

edges_lead : (p : Proposer) (net : Network) → IsNetwork net → (run a b : ℕ) → a < (network_by p net run).generals → b < (network_by p net run).generals
    → AreNeighbours (network_by p net run) a b ↔ AreNeighbours net (node_by p net.generals run a) (node_by p net.generals run b)
edges_lead First net ok run a b la lb = (λ h. h, λ h. h)
edges_lead Turns net ok run a b la lb =
    let some : 0 < net.generals = omega (arith, ok.ranges.some_generals) in
    same_edges net.generals (general_by Turns net.generals run) (node_by Turns net.generals run) (renaming net.generals run some) net.edges ok.edges a b la lb

pub count_of_run : (s : RunSystem) (run : ℕ) → (network_of_run s run).generals ≡ s.header.network.generals
count_of_run s run = same_count s.proposer s.header.network run

pub net_of_run : (s : RunSystem) → IsNetwork s.header.network → (run : ℕ) → IsNetOfRun s run (network_of_run s run)
net_of_run s ok run = record {
  generals = same_count s.proposer s.header.network run;
  traitors = same_traitors s.proposer s.header.network run;
  diameter = same_diameter s.proposer s.header.network run;
  orders = same_orders s.proposer s.header.network run;
  choice = same_choice s.proposer s.header.network run;
  edges = λ a b la lb. edges_lead s.proposer s.header.network ok run a b la lb;
}

pub moved_by : (s : RunSystem) (net made : Network) (run : ℕ) → IsNetwork s.header.network → net ≡ s.header.network → s.proposer ≡ Turns → made ≡ network_by Turns net run → IsNetOfRun s run made
moved_by s net made run ok net_is turns e =
    let same : network_by Turns net run ≡ network_of_run s run
    = ap (λ (n : Network). network_by Turns n run) net_is ∙ ap (λ (p : Proposer). network_by p s.header.network run) (sym turns) in
    subst (λ (n : Network). IsNetOfRun s run n) (sym (e ∙ same)) (net_of_run s ok run)

-- ---- what calls return

pub edge_below : (net : Network) → IsNetwork net → (es : List (ℕ × ℕ)) → es ≡ net.edges → (i : ℕ) (d : ℕ × ℕ) → i < length es → ((get_or es i d).0 < net.generals) × ((get_or es i d).1 < net.generals)
edge_below net ok es is i d lt =
    let stands = subst (λ (xs : List (ℕ × ℕ)). Contains xs (get_or es i d)) is (Contains-get_or es i d lt) in
    let inside = ok.edges.inside (get_or es i d).0 (get_or es i d).1 stands in
    (omega (arith, inside.0, inside.1), inside.1)

-- a reading that gives a network has no fault
pub never : (r : Result Network (ReadError HeaderFault)) (e : ReadError HeaderFault) (f : HeaderFault) (read : Result Network HeaderFault) (net : Network) → IsRead r read → read ≡ Ok net → r ≡ Err e → e ≡ errors.Fault f → ⊥
never r e f read net given is failed fault =
    let told : Fails e read = subst (λ (x : Result Network (ReadError HeaderFault)). IsRead x read) failed given in
    let first : Fails (errors.Fault f) read = subst (λ (x : ReadError HeaderFault). Fails x read) fault told in
    cc

pub if_ok : {X E : Type 0} (r : Result X E) (P Q : X → Type 0) → ((x : X) → P x → Q x) → IfOk r P → IfOk r Q
if_ok (Ok x) P Q f p = f x p
if_ok (Err e) P Q f p = tt
