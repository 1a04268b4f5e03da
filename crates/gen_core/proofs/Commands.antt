-- What the commander sends, one neighbour after another.
use Rattle.std.proofs.Common.{◌≡◌, ℕ, ◌<◌, inl, inr, List, [], ◌∷◌, ◌++◌, length, map, get_or, Contains, AllPairs, sym, ap, ◌∙◌, subst, arith}
use Rattle.std.proofs.lemmas.List.{append-nil, length-map, get_or-map}
use Rattle.gen_types.specs.Ascending.{IsListOf}
use Rattle.gen_types.proofs.Lists.{Contains_mapped, Contains_here, Contains_there, Contains_cases, Contains_nil}
use Rattle.gen_net.specs.Network.{Network, AreNeighbours}
use Rattle.gen_core.specs.declared.sending.Outgoing.{Outgoing}
use Rattle.gen_core.specs.Sending.{outgoing, GoesBefore, IsCommand, AreSends}

abbrev command : ℕ → List ℕ → ℕ → Outgoing
command own path to = outgoing to own path

Contains_map : (f : ℕ → Outgoing) (xs : List ℕ) (x : ℕ) → Contains xs x → Contains (map f xs) (f x)
Contains_map f [] x h = absurd (Contains_nil x h)
Contains_map f (y ∷ xs) x h = elim (Contains_cases y x xs h) [
  | inl e ↦ subst (λ z. Contains (f y ∷ map f xs) (f z)) e (Contains_here (f y) (map f xs))
  | inr k ↦ Contains_there (f y) (f x) (map f xs) (Contains_map f xs x k)
]

in_order : (own : ℕ) (path : List ℕ) (xs : List ℕ) → AllPairs (λ v w. v < w) xs → AllPairs GoesBefore (map (command own path) xs)
in_order own path xs up i j d l m =
    let long : j < length xs = rw length-map at m in
    let first : get_or (map (command own path) xs) i d ≡ command own path (get_or xs i 0) = get_or-map (command own path) xs i 0 d (omega arith) in
    let second : get_or (map (command own path) xs) j d ≡ command own path (get_or xs j 0) = get_or-map (command own path) xs j 0 d long in
    rw (first, second) (inl (up i j 0 l long))

pub commands_of : (net : Network) (own : ℕ) (path neighbours yielded rest : List ℕ) (out : List Outgoing) → IsListOf neighbours (AreNeighbours net 0) → path ≡ 0 ∷ [] → neighbours ≡ yielded ++ rest → rest ≡ [] → out ≡ map (λ to. outgoing to own path) yielded → AreSends (IsCommand net own) out
commands_of net own path neighbours yielded rest out all alone split empty sent =
    let whole : neighbours ≡ yielded = split ∙ (ap (λ r. yielded ++ r) empty ∙ append-nil yielded) in
    let made : out ≡ map (command own path) neighbours = sent ∙ ap (map (command own path)) (sym whole) in
    rw made (record {
      exactly = λ x. (
        (λ h.
            let r = Contains_mapped (command own path) neighbours x h in
            let to : r.0 ≡ x.to = ap (λ (s : Outgoing). s.to) r.2 in
            (subst (AreNeighbours net 0) to ((all.members r.0).0 r.1), sym (ap (λ (s : Outgoing). s.order) r.2), sym (ap (λ (s : Outgoing). s.path) r.2) ∙ alone)),
        (λ q.
            let here : command own path x.to ≡ x = λ i. record { to = x.to; order = sym q.1 i; path = (alone ∙ sym q.2) i } in
            subst (λ s. Contains (map (command own path) neighbours) s) here (Contains_map (command own path) neighbours x.to ((all.members x.to).1 q.0))),
      );
      in_order = in_order own path neighbours all.ascending;
    })
