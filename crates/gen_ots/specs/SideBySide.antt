-- Signatures of digests, when several are hashed side by side.
use Rattle.std.specs.Prelude.{ℕ, List}
use Rattle.gen_ots.specs.Signatures.{given_images, signed_leaf_value}
use Rattle.gen_ots.specs.declared.side_by_side.SignedDigest.{SignedDigest}

-- the images that the first n pairs of the signature stand for
abbrev pub images_before : ℕ → SignedDigest → List ℕ
images_before n s = given_images s.signature.now s.digest n

-- the leaf value that the signature stands for
abbrev pub signed_value : SignedDigest → List ℕ
signed_value s = signed_leaf_value s.signature.now s.digest
