-- What numbers in their ranges are, and that a network's numbers are.
use Rattle.std.proofs.Common.{◌≡◌, ℕ, zero, suc, ◌+◌, ◌≤◌, Bool, true, leb, Result, Ok, refl}
use Rattle.std.proofs.lemmas.Bool.{leb-true, le-leb}
use Rattle.std.proofs.Math.Bool.{and-eq-true_iff}
use Rattle.gen_types.specs.declared.choices.ChoiceKind.{ChoiceKind}
use Rattle.gen_types.specs.declared.choices.ChoiceKind.TheVariants.{Only, Median}
use Rattle.gen_types.specs.ChoiceOf.{choice_number, choice_numbered}
use Rattle.gen_types.specs.Reading.{◌>>=◌, check}
use Rattle.gen_types.proofs.Steps.{after_check}
use Rattle.gen_net.specs.declared.fault.HeaderFault.{HeaderFault}
use Rattle.gen_net.specs.declared.fault.HeaderFault.TheVariants.{GeneralCount, BadEdge, TraitorCount, DiameterRange, RoundCount, OrderCount}
use Rattle.gen_net.specs.declared.numbers.NetNumbers.{NetNumbers}
use Rattle.gen_net.specs.Network.{Network, AreInRange, IsNetwork}
use Rattle.gen_net.specs.NetworkOf.{is_within, known_choice, ranges_of}

-- what numbers and edges that break no rule are
pub record Accepted (numbers : NetNumbers) (good_edges : Bool) (kind : ChoiceKind) : Type 0 where
  pub ranges : AreInRange numbers.generals numbers.traitors numbers.diameter numbers.orders
  pub edges : good_edges ≡ true
  pub choice : choice_number kind ≡ numbers.choice

is_known : (choice : ℕ) (kind : ChoiceKind) → known_choice (choice_numbered choice) ≡ Ok kind → choice_number kind ≡ choice
is_known zero Only e = refl
is_known zero Median e = absurd cc
is_known (suc zero) Only e = absurd cc
is_known (suc zero) Median e = refl
is_known (suc (suc choice)) kind e = absurd cc

within : (least greatest n : ℕ) → is_within least greatest n ≡ true → (least ≤ n) × (n ≤ greatest)
within least greatest n e =
    let both = (and-eq-true_iff (leb least n) (leb n greatest)).0 e in
    (leb-true least n both.0, leb-true n greatest both.1)

within_again : (least greatest n : ℕ) → least ≤ n → n ≤ greatest → is_within least greatest n ≡ true
within_again least greatest n low high = rw (le-leb least n low, le-leb n greatest high) refl

pub accepted : (numbers : NetNumbers) (good_edges : Bool) (kind : ChoiceKind) → ranges_of numbers good_edges ≡ Ok kind → Accepted numbers good_edges kind
unfolding ranges_of
accepted numbers good_edges kind e =
    let r6 : Unit {0} → Result ChoiceKind HeaderFault = λ u. known_choice (choice_numbered numbers.choice) in
    let r5 : Unit {0} → Result ChoiceKind HeaderFault = λ u. check (is_within 2 15 numbers.orders) OrderCount >>= r6 in
    let r4 : Unit {0} → Result ChoiceKind HeaderFault = λ u. check (leb (numbers.traitors + numbers.diameter) 16) RoundCount >>= r5 in
    let r3 : Unit {0} → Result ChoiceKind HeaderFault = λ u. check (is_within 1 15 numbers.diameter) DiameterRange >>= r4 in
    let r2 : Unit {0} → Result ChoiceKind HeaderFault = λ u. check (leb numbers.traitors 8) TraitorCount >>= r3 in
    let r1 : Unit {0} → Result ChoiceKind HeaderFault = λ u. check good_edges BadEdge >>= r2 in
    after_check (is_within 2 16 numbers.generals) GeneralCount r1 kind e (λ generals e1.
    after_check good_edges BadEdge r2 kind e1 (λ edges e2.
    after_check (leb numbers.traitors 8) TraitorCount r3 kind e2 (λ traitors e3.
    after_check (is_within 1 15 numbers.diameter) DiameterRange r4 kind e3 (λ diameter e4.
    after_check (leb (numbers.traitors + numbers.diameter) 16) RoundCount r5 kind e4 (λ rounds e5.
    after_check (is_within 2 15 numbers.orders) OrderCount r6 kind e5 (λ orders e6.
    let g = within 2 16 numbers.generals generals in
    let d = within 1 15 numbers.diameter diameter in
    let o = within 2 15 numbers.orders orders in
    record {
      ranges = record {
        some_generals = g.0;
        few_generals = g.1;
        few_traitors = leb-true numbers.traitors 8 traitors;
        some_diameter = d.0;
        few_diameter = d.1;
        few_rounds = leb-true (numbers.traitors + numbers.diameter) 16 rounds;
        some_orders = o.0;
        few_orders = o.1;
      };
      edges = edges;
      choice = is_known numbers.choice kind e6;
    }))))))

known_again : (kind : ChoiceKind) → known_choice (choice_numbered (choice_number kind)) ≡ Ok kind
known_again Only = refl
known_again Median = refl

-- the numbers that a network is made of
abbrev pub numbers_of : Network → NetNumbers
numbers_of net = record { generals = net.generals; traitors = net.traitors; diameter = net.diameter; orders = net.orders; choice = choice_number net.choice }

pub accepted_again : (net : Network) → IsNetwork net → ranges_of (numbers_of net) true ≡ Ok net.choice
unfolding ranges_of
accepted_again net ok =
    let r = ok.ranges in
    let generals = within_again 2 16 net.generals r.some_generals r.few_generals in
    let traitors : leb net.traitors 8 ≡ true = le-leb _ _ r.few_traitors in
    let diameter = within_again 1 15 net.diameter r.some_diameter r.few_diameter in
    let rounds : leb (net.traitors + net.diameter) 16 ≡ true = le-leb _ _ r.few_rounds in
    let orders = within_again 2 15 net.orders r.some_orders r.few_orders in
    rw (generals, traitors, diameter, rounds, orders) (known_again net.choice)
