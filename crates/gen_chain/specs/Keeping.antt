-- How the map of a store is ordered, what it keeps as lists, and what the store counts.
use Rattle.std.specs.Prelude.{ℕ, ◌≡◌, List, map}
use Rattle.std.specs.Cmp.Lexicographic.{slice_cmp}
use Rattle.std.specs.Global.{Vec}
use Rattle.std.specs.declared.cmp.Ordering.{Ordering}
use Rattle.std.specs.Ordering.{nat_cmp, ordering_then}
use Rattle.gen_chain.specs.declared.kept.Verified.{Verified}
use Rattle.gen_chain.specs.declared.kept.Kept.{Kept}
use Rattle.gen_chain.specs.Store.{Store, KeepsOnce, runs_of}

-- the order of the map: by signer, then by order, then by path
abbrev pub verified_cmp : Verified → Verified → Ordering
verified_cmp a b =
    ordering_then (nat_cmp a.signer b.signer)
    (ordering_then (nat_cmp a.statement.order b.statement.order)
    (slice_cmp nat_cmp a.statement.path b.statement.path))

-- the keys of the map, each with the list that is kept for it
abbrev pub items_of : List (Verified × Vec Kept) → List (Verified × List Kept)
items_of entries = map (λ e. (e.0, e.1.items)) entries

-- the count is the number of kept answers, and no answer is kept twice
pub record IsCounted (store : Store) (runs : ℕ) : Type 0 where
  pub count : runs ≡ runs_of store
  pub once : KeepsOnce store
