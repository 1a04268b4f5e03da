-- The first bytes of all texts that are hashed: those of runs, and those of identities and systems.
use Rattle.std.specs.Prelude.{ℕ, ◌≢◌, List, [], ◌∷◌, ◌++◌, AllPairs}
use Rattle.gen_identity.specs.States.{set_seed_prefix, state_prefix}
use Rattle.gen_identity.specs.Tree.{set_leaf_prefix, set_node_prefix}
use Rattle.gen_log.specs.Prefixes.{prefixes}
use Rattle.gen_system.specs.Systems.{system_id_prefix}

-- seed of a set, and next state of a secret; leaf and node of an identity; system id
abbrev pub own_prefixes : List ℕ
own_prefixes = set_seed_prefix ∷ state_prefix ∷ set_leaf_prefix ∷ set_node_prefix ∷ system_id_prefix ∷ []

-- the eleven of runs, and these five
abbrev pub all_prefixes : ℕ → List ℕ
all_prefixes slot = prefixes slot ++ own_prefixes

-- no two of these bytes are equal, so no text of one kind is a text of another
abbrev pub AllPrefixesDiffer : Type 0
AllPrefixesDiffer = (slot : ℕ) → AllPairs (λ a b. a ≢ b) (all_prefixes slot)
