-- Nodes that stand in an array.
use Rattle.std.specs.Prelude.{ℕ, ◌≡◌, ◌<◌, ◌≤◌, ◌+◌, ◌-◌, ◌*◌, ◌^◌, List, [], length, slice_index_or}
use Rattle.gen_lms.specs.Tree.{node_over}

-- The nodes above the leaves, or some of them with the greatest numbers, stand in an array, from the
-- greatest number down: the node with the number r is that many levels above the leaves as its place in the
-- tree says.
unfoldable pub AreInner : List ℕ → List (List ℕ) → List (List ℕ) → Type 0
AreInner identifier leaves nodes =
    (level r : ℕ) → 0 < level → length leaves ≤ r * 2 ^ level → (r + 1) * 2 ^ level ≤ 2 * length leaves
    → length leaves ≤ r + length nodes
    → slice_index_or nodes (length leaves - 1 - r) []
    ≡ node_over identifier leaves (length leaves) level r
