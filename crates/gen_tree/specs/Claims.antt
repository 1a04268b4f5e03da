-- Claims that a signature of a digest stands under a root.
use Rattle.std.specs.Prelude.{ℕ, List, take}
use Rattle.gen_ots.specs.Sizes.{ots_length}
use Rattle.gen_ots.specs.Signatures.{signed_leaf_value}
use Rattle.gen_tree.specs.declared.claims.SignatureClaim.{SignatureClaim}
use Rattle.gen_tree.specs.Signatures.{Verifies}

-- the claim is true
abbrev pub Stands : SignatureClaim → Type 0
Stands c = Verifies c.root.now c.height c.leaf c.digest c.signature.now

-- the leaf value that the signature of the claim stands for
abbrev pub claimed_value : SignatureClaim → List ℕ
claimed_value c = signed_leaf_value (take ots_length c.signature.now) c.digest
