-- Lemmas: the tests of networks and headers decide whether they are the same.
use Rattle.std.proofs.Common.{◌≡◌, ℕ, Bool, true, false, ◌&&◌, eqb, eqb-true, eq-eqb, List, refl, subst, ap, arith}
use Rattle.std.specs.Bool.{Decides}
use Rattle.std.specs.Cmp.{IsEquivalence, decided}
use Rattle.std.specs.Cmp.Lexicographic.{pointwise}
use Rattle.std.proofs.lemmas.Slice.Eq.{slice_eq-Decides, bytes_eq-Decides}
use Rattle.gen_types.proofs.Decimals.{both}
use Rattle.gen_types.specs.ChoiceOf.{choice_number}
use Rattle.gen_types.specs.declared.choices.ChoiceKind.{ChoiceKind}
use Rattle.gen_types.specs.declared.choices.ChoiceKind.TheVariants.{Only, Median}
use Rattle.gen_net.specs.declared.version.Version.{Version}
use Rattle.gen_net.specs.declared.version.Version.TheVariants.{One, Two}
use Rattle.gen_net.specs.Header.{RunHeader}
use Rattle.gen_net.specs.Network.{Network}
use Rattle.gen_net.specs.SameHeaders.{same_version, same_pair, same_numbers, same_network, same_roots, same_header}

and_so : (a b : Bool) → a ≡ true → b ≡ true → (a && b) ≡ true
and_so true b e f = f
and_so false b e f = absurd cc

version_gives : (v w : Version) → same_version v w ≡ true → v ≡ w
version_gives One One e = refl
version_gives One (Two b) e = absurd cc
version_gives (Two a) One e = absurd cc
version_gives (Two a) (Two b) e = ap Two (eqb-true a b e)

version_told : (v : Version) → same_version v v ≡ true
version_told One = refl
version_told (Two a) = eq-eqb a a refl

choice_gives : (c d : ChoiceKind) → choice_number c ≡ choice_number d → c ≡ d
choice_gives Only Only e = refl
choice_gives Only Median e = absurd (omega (arith, e))
choice_gives Median Only e = absurd (omega (arith, e))
choice_gives Median Median e = refl

pair_decides : (a b : ℕ × ℕ) → Decides (same_pair a b) (a ≡ b)
pair_decides a b = (
  (λ e. let p = both (eqb a.0 b.0) (eqb a.1 b.1) e in λ i. (eqb-true a.0 b.0 p.0 i, eqb-true a.1 b.1 p.1 i)),
  (λ e. and_so (eqb a.0 b.0) (eqb a.1 b.1) (eq-eqb a.0 b.0 (ap (λ (x : ℕ × ℕ). x.0) e))
      (eq-eqb a.1 b.1 (ap (λ (x : ℕ × ℕ). x.1) e))),
)

edges_decide : (xs ys : List (ℕ × ℕ)) → Decides (pointwise same_pair xs ys) (xs ≡ ys)
edges_decide xs ys = slice_eq-Decides pair_decides xs ys (pointwise same_pair xs ys) refl

pub roots_decide : (xs ys : List (List ℕ)) → Decides (same_roots xs ys) (xs ≡ ys)
roots_decide xs ys = slice_eq-Decides bytes_eq-Decides xs ys (same_roots xs ys) refl

network_gives : (m n : Network) → same_network m n ≡ true → m ≡ n
unfolding same_network
network_gives m n e =
    let p = both (same_numbers m n)
    (eqb (choice_number m.choice) (choice_number n.choice) && pointwise same_pair m.edges n.edges) e in
    let q = both (eqb m.generals n.generals)
    (eqb m.traitors n.traitors && (eqb m.diameter n.diameter && eqb m.orders n.orders)) p.0 in
    let r = both (eqb m.traitors n.traitors) (eqb m.diameter n.diameter && eqb m.orders n.orders) q.1 in
    let s = both (eqb m.diameter n.diameter) (eqb m.orders n.orders) r.1 in
    let t = both (eqb (choice_number m.choice) (choice_number n.choice))
    (pointwise same_pair m.edges n.edges) p.1 in
    let generals = eqb-true m.generals n.generals q.0 in
    let traitors = eqb-true m.traitors n.traitors r.0 in
    let diameter = eqb-true m.diameter n.diameter s.0 in
    let orders = eqb-true m.orders n.orders s.1 in
    let choice = choice_gives m.choice n.choice
    (eqb-true (choice_number m.choice) (choice_number n.choice) t.0) in
    let edges = (edges_decide m.edges n.edges).0 t.1 in
    λ i. record {
      generals = generals i;
      edges = edges i;
      traitors = traitors i;
      diameter = diameter i;
      orders = orders i;
      choice = choice i;
    }

network_told : (m : Network) → same_network m m ≡ true
unfolding same_network
network_told m =
    let numbers : same_numbers m m ≡ true
    = and_so (eqb m.generals m.generals) (eqb m.traitors m.traitors
    && (eqb m.diameter m.diameter && eqb m.orders m.orders)) (eq-eqb m.generals m.generals refl)
    (and_so (eqb m.traitors m.traitors) (eqb m.diameter m.diameter && eqb m.orders m.orders)
    (eq-eqb m.traitors m.traitors refl)
    (and_so (eqb m.diameter m.diameter) (eqb m.orders m.orders) (eq-eqb m.diameter m.diameter refl)
    (eq-eqb m.orders m.orders refl))) in
    and_so (same_numbers m m)
    (eqb (choice_number m.choice) (choice_number m.choice) && pointwise same_pair m.edges m.edges) numbers
    (and_so (eqb (choice_number m.choice) (choice_number m.choice)) (pointwise same_pair m.edges m.edges)
    (eq-eqb (choice_number m.choice) (choice_number m.choice) refl)
    ((edges_decide m.edges m.edges).1 refl))

-- two networks are the same if and only if the test says so
pub network_decides : (m n : Network) → Decides (same_network m n) (m ≡ n)
network_decides m n =
    (network_gives m n, λ e. subst (λ (x : Network). same_network m x ≡ true) e (network_told m))

header_gives : (h k : RunHeader) → same_header h k ≡ true → h ≡ k
unfolding same_header
header_gives h k e =
    let p = both (same_version h.version k.version)
    (same_network h.network k.network && same_roots h.roots k.roots) e in
    let q = both (same_network h.network k.network) (same_roots h.roots k.roots) p.1 in
    let version = version_gives h.version k.version p.0 in
    let network = network_gives h.network k.network q.0 in
    let roots = (roots_decide h.roots k.roots).0 q.1 in
    λ i. record { version = version i; network = network i; roots = roots i }

header_told : (h : RunHeader) → same_header h h ≡ true
unfolding same_header
header_told h =
    and_so (same_version h.version h.version) (same_network h.network h.network && same_roots h.roots h.roots)
    (version_told h.version)
    (and_so (same_network h.network h.network) (same_roots h.roots h.roots) (network_told h.network)
    ((roots_decide h.roots h.roots).1 refl))

-- two headers are the same if and only if the test says so
pub header_decides : (h k : RunHeader) → Decides (same_header h k) (h ≡ k)
header_decides h k =
    (header_gives h k, λ e. subst (λ (x : RunHeader). same_header h x ≡ true) e (header_told h))

pub same_network_equiv : IsEquivalence same_network
same_network_equiv = decided same_network network_decides

pub same_header_equiv : IsEquivalence same_header
same_header_equiv = decided same_header header_decides
