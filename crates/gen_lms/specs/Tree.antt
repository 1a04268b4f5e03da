-- The tree over one-time public keys (RFC 8554, section 5.3), and what a path leads to (section 5.4.2).
use Rattle.std.specs.Prelude.{ℕ, zero, suc, if◌then◌else◌, List, [], ◌++◌, take, drop, slice_index_or}
use Rattle.std.specs.Prelude.{◌+◌, ◌-◌, ◌*◌, ◌/◌, ◌%◌, ◌^◌, ◌==◌}
use Rattle.sha2.specs.Sha256.{sha256}
use Rattle.gen_lmots.specs.Strings.{hash_length, u16str, u32str}

-- D_LEAF and D_INTR, which stand before what is hashed to a leaf and to a node above two nodes (section 7.1)
abbrev pub d_leaf : ℕ
d_leaf = 0x8282

abbrev pub d_intr : ℕ
d_intr = 0x8383

-- H(I || u32str(r) || u16str(D_LEAF) || K): the leaf with the number r over a one-time public key
abbrev pub leaf : List ℕ → ℕ → List ℕ → List ℕ
leaf identifier r key = sha256 (identifier ++ (u32str r ++ (u16str d_leaf ++ key)))

-- H(I || u32str(r) || u16str(D_INTR) || T[2r] || T[2r+1]): the node with the number r above two nodes
abbrev pub inner : List ℕ → ℕ → List ℕ → List ℕ → List ℕ
inner identifier r left right =
    sha256 (identifier ++ (u32str r ++ (u16str d_intr ++ (left ++ right))))

-- T[r], which stands this many levels above the leaves: the numbers of the leaves begin with their count,
-- and the nodes below r have the numbers 2r and 2r + 1
unfoldable pub node_over : List ℕ → List (List ℕ) → ℕ → ℕ → ℕ → List ℕ
node_over identifier leaves count zero r = slice_index_or leaves (r - count) []
node_over identifier leaves count (suc level) r =
    inner identifier r (node_over identifier leaves count level (2 * r))
    (node_over identifier leaves count level (2 * r + 1))

-- the number of the other node below the same node
abbrev pub beside : ℕ → ℕ
beside r = if r % 2 == 0 then r + 1 else r - 1

-- the siblings of a leaf with the number r, and of the lowest n - 1 nodes above it, one after another
unfoldable pub path_over : List ℕ → List (List ℕ) → ℕ → ℕ → ℕ → List ℕ
path_over identifier leaves count r zero = []
path_over identifier leaves count r (suc n) =
    path_over identifier leaves count r n
    ++ node_over identifier leaves count n (beside (r / 2 ^ n))

-- the node above the node with the number r and its sibling: one with an odd number stands on the right
abbrev pub above : List ℕ → ℕ → List ℕ → List ℕ → List ℕ
above identifier r value sibling =
    if r % 2 == 0 then inner identifier (r / 2) value sibling
    else inner identifier (r / 2) sibling value

-- path[i], where the nodes of a path stand one after another
abbrev pub path_at : List ℕ → ℕ → List ℕ
path_at path i = take hash_length (drop (hash_length * i) path)

-- the node n levels above a leaf with the number r to which the leaf's value and a path lead
unfoldable pub led : List ℕ → ℕ → List ℕ → List ℕ → ℕ → List ℕ
led identifier r value path zero = value
led identifier r value path (suc n) =
    above identifier (r / 2 ^ n) (led identifier r value path n) (path_at path n)
