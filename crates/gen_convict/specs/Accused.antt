-- The texts of the accused, and which of them contradict each other.
use Rattle.std.specs.Prelude.{ℕ, ◌≡◌, ◌≢◌, List, [], ◌∷◌}
use Rattle.gen_types.specs.Ends.{EndsWith}
use Rattle.gen_tree.specs.Signatures.{Verifies}
use Rattle.gen_net.specs.Header.{RunHeader, height_of, root_of}
use Rattle.gen_chain.specs.Leaves.{leaf_of_head}
use Rattle.gen_chain.specs.Texts.{head_digest}
use Rattle.gen_chain.specs.Verifying.{HasSigned}
use Rattle.gen_local.specs.declared.texts.SignedText.{SignedText}
use Rattle.gen_local.specs.declared.texts.Text.{Text}
use Rattle.gen_local.specs.declared.texts.Text.TheVariants.{OfStatement, OfHead}
use Rattle.gen_local.specs.SignedTexts.{stated}

-- the text is the general's: a statement whose path ends with the general, or a head that names the general
abbrev pub IsTextOf : ℕ → Text → Type 0
IsTextOf general (OfStatement statement) = EndsWith statement.path general
IsTextOf general (OfHead head) = head.general ≡ general

-- the signature of the text verifies under the general's root and the text's leaf
abbrev pub HasSignedText : RunHeader → ℕ → Text → List ℕ → Type 0
HasSignedText h general (OfStatement statement) signature = HasSigned h general statement signature
HasSignedText h general (OfHead head) signature =
    Verifies (root_of h general) (height_of h) (leaf_of_head h) (head_digest h head) signature

-- the text names the general as its signer, it is the general's text, and its signature verifies
pub record TextVerifies (h : RunHeader) (general : ℕ) (t : SignedText) : Type 0 where
  pub signer : t.signer ≡ general
  pub his : IsTextOf general t.text
  pub stands : HasSignedText h general t.text t.signature

-- two statements of one order, or two heads, which are not the same
abbrev pub AreUnlike : Text → Text → Type 0
AreUnlike (OfStatement s) (OfStatement t) = (s.order ≡ t.order) × (s ≢ t)
AreUnlike (OfHead s) (OfHead t) = s ≢ t
AreUnlike (OfStatement s) (OfHead t) = ⊥
AreUnlike (OfHead s) (OfStatement t) = ⊥

-- two texts have one subject and differ, whatever their signatures are
abbrev pub AreDifferent : SignedText → SignedText → Type 0
AreDifferent x y = AreUnlike x.text y.text

-- the commander's statement of an order, with the path of the commander alone
abbrev pub command : ℕ → List ℕ → SignedText
command order signature = stated order (0 ∷ []) 0 signature
